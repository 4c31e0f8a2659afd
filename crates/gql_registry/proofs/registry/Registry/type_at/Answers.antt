use Rattle.std.proofs.Common.{ap, ◌∙◌}
use Rattle.std.specs.Option.{option_map}
use Rattle.gql_registry_meta.specs.Views.{meta_of}
use Rattle.gql_registry_meta.proofs.Entries.{sorted_at_text}
use Rattle.gql_registry.proofs.registry.Registry.type_at.Goals as goal

pub returns : goal.returns
returns g c = ap (option_map meta_of) c.get.ensures.value ∙ sorted_at_text meta_of c.args.name.now c.args.self.now.types.entries
