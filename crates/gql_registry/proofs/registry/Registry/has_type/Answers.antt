use Rattle.std.proofs.Common.{◌∙◌}
use Rattle.gql_registry_meta.specs.Views.{meta_of}
use Rattle.gql_registry_meta.proofs.Entries.{sorted_among}
use Rattle.gql_registry.proofs.registry.Registry.has_type.Goals as goal

pub returns : goal.returns
returns g c = c.contains_key.ensures ∙ sorted_among meta_of c.args.name.now c.args.self.now.types.entries
