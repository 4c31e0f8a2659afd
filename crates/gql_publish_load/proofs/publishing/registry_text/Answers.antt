use Rattle.gql_registry.specs.Registry.{registry_of}
use Rattle.gql_sdl.specs.Values.{options_of}
use Rattle.gql_publish_load.specs.Loading.{contents_of}
use Rattle.gql_publish_load.proofs.Publications.{printed}
use Rattle.gql_publish_load.proofs.publishing.registry_text.Goals as goal

pub returns : goal.returns
returns g c =
    printed c.export_sdl.result (options_of c.args.options) (options_of c.include_specified_by.result) (contents_of c.args.schema.now) (registry_of c.registry.result.now) c.include_specified_by.ensures c.registry.ensures.made c.export_sdl.ensures
