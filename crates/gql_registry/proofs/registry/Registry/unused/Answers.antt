use Rattle.std.proofs.Common.{◌≡◌, ap, ◌∙◌, subst}
use Rattle.std.specs.Map.{keys_of}
use Rattle.gql_registry_meta.specs.Views.{texts_in, texts_of}
use Rattle.gql_registry_closures.specs.Links.{Parts}
use Rattle.gql_registry_closures.specs.Reached.{Needed}
use Rattle.gql_registry_closures.specs.Answers.{Leaves}
use Rattle.gql_registry.specs.Registry.{registry_of}
use Rattle.gql_registry.proofs.Asked.{same_parts}
use Rattle.gql_registry.proofs.registry.Registry.unused.Goals as goal

pub returns : goal.returns
returns g c =
    let same = same_parts _ _ _ _ _ _ c.types.ensures.types c.directives.ensures.directives (ap texts_in c.deref.ensures.value ∙ c.in_ok-roots.ensures) in
    subst (λ (parts : Parts). Leaves (Needed parts) (keys_of parts.types) (texts_of c.in_ok-names.names)) same c.in_ok-names.ensures
