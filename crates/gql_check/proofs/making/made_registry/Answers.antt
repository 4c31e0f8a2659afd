use Rattle.std.proofs.Common.{ap, ◌∙◌}
use Rattle.gql_registry.specs.Additions.{all_made, system_steps}
use Rattle.gql_check.proofs.making.made_registry.Goals as goal

pub add_types-requires-clause-before : goal.add_types-requires-clause-before
add_types-requires-clause-before g c = c.in_ok-add_system_types.ensures.made ∙ ap (λ contents. all_made contents system_steps) c.in_ok-set_roots.ensures

pub returns-clause-contents : goal.returns-clause-contents
returns-clause-contents g c = c.in_ok-add_introspection.ensures
