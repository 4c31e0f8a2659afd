use Rattle.std.proofs.Common.{ap, ◌∙◌}
use Rattle.gql_registry_closures.specs.Table.{place_of}
use Rattle.gql_registry_closures.proofs.Lists.{position_place}
use Rattle.gql_registry_closures.proofs.numbers.Numbers.get.Goals as goal

pub returns-clause-place : goal.returns-clause-place
returns-clause-place c = c.get_index_of.ensures.index ∙ position_place c.args.name.now c.self.inside.names.keys ∙ ap (place_of c.args.name.now) c.self.view_is
