-- The root of queries, by which a schema describes itself: section 4 of the GraphQL specification, October 2021.
use Rattle.std.specs.Prelude.{◌≡◌, ◌≢◌}
use Rattle.std.specs.declared.result.Result.TheVariants.{Ok, Err}
use Rattle.gql_registry_meta.specs.declared.introspection_mode.IntrospectionMode.TheVariants.{Disabled}
use Rattle.gql_registry.specs.Registry.{Contents}
use Rattle.gql_registry.specs.Additions.{all_made, introspection_steps, IsPartlyMade}
use Rattle.gql_registry.specs.Created.{Answer, Creates, Refusal, out_of_memory}

-- The introspection types and the fields of the query root are added, unless the schema does not describe itself. Where
-- the memory for that is refused, some first of these additions are made.
pub data Describes (before : Contents) (answer : Answer) (after : Contents) : Type 0 where
  undescribed : before.introspection ≡ Disabled → answer ≡ Ok tt → after ≡ before → Describes before answer after
  described : before.introspection ≢ Disabled → answer ≡ Ok tt → after ≡ all_made before introspection_steps → Describes before answer after
  no_memory : before.introspection ≢ Disabled → answer ≡ Err out_of_memory → IsPartlyMade before introspection_steps after → Describes before answer after

-- A type is created as its own relation says, and a refusal of that is passed on; and then the schema describes itself.
pub data CreatesRoot (creates : Creates) (before : Contents) (answer : Answer) (after : Contents) : Type 0 where
  refused : (e : Refusal) → creates before (Err e) after → answer ≡ Err e → CreatesRoot creates before answer after
  created : (between : Contents) → creates before (Ok tt) between → Describes between answer after → CreatesRoot creates before answer after
