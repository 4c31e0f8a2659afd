use Rattle.std.proofs.Common.{◌≡◌, ap, ◌∙◌, subst}
use Rattle.std.specs.Map.{keys_of}
use Rattle.gql_registry_meta.specs.Views.{texts_in}
use Rattle.gql_registry_closures.specs.Links.{Parts}
use Rattle.gql_registry_closures.specs.Reached.{Shown}
use Rattle.gql_registry_closures.specs.Answers.{HoldsExactly, set_names}
use Rattle.gql_registry.specs.Registry.{registry_of}
use Rattle.gql_registry.proofs.Asked.{same_parts}
use Rattle.gql_registry.proofs.registry.Registry.find_visible_types.Goals as goal

pub returns-clause-exactly : goal.returns-clause-exactly
returns-clause-exactly g c =
    let same = same_parts _ _ _ _ _ _ c.types.ensures.types c.directives.ensures.directives (ap texts_in c.deref.ensures.value ∙ c.in_ok-roots.ensures) in
    subst (λ (parts : Parts). HoldsExactly (Shown (g.C.Context.rules c.args.ctx.now) parts) (keys_of parts.types) (set_names c.in_ok-names.names)) same c.in_ok-names.ensures
