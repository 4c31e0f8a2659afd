use Rattle.std.proofs.Common.{ap, ◌∙◌}
use Rattle.std.specs.Option.{option_map}
use Rattle.gql_registry.specs.Registry.{names_of}
use Rattle.gql_registry_meta.proofs.Entries.{sorted_at_text, option_map-now}
use Rattle.gql_registry.proofs.registry.Registry.implements_of.Goals as goal

pub returns : goal.returns
returns g c = option_map-now names_of c.get.result ∙ ap (option_map names_of) c.get.ensures.value ∙ sorted_at_text names_of c.args.ty.now c.args.self.now.implements.entries
