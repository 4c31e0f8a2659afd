use Rattle.std.proofs.Common.{refl}
use Rattle.gql_registry.specs.Registry.{registry_of}
use Rattle.gql_registry.specs.Created.{refusal_of}
use Rattle.gql_merged.specs.QueryRoot.{created, refused}
use Rattle.gql_merged.proofs.Standing.{stands_if_described}
use Rattle.gql_merged.proofs.query_root.QueryRootOutputType.create_type_info.Goals as goal

pub returns-in-Ok-clause-created : goal.returns-in-Ok-clause-created
returns-in-Ok-clause-created g c = created (registry_of c.create_type_info.new.registry) c.in-Ok.ensures.created c.add_introspection.ensures

pub returns-in-Ok-clause-stands : goal.returns-in-Ok-clause-stands
returns-in-Ok-clause-stands g c = stands_if_described c.add_introspection.result g.T.OutputType.named _ _ c.add_introspection.ensures c.in-Ok.ensures.stands

pub returns-in-Err-clause-created : goal.returns-in-Err-clause-created
returns-in-Err-clause-created g c = refused (refusal_of c.in-Err.e) c.in-Err.ensures.created refl
