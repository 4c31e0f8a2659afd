use Rattle.std.proofs.Common.{rules, codes}
use Rattle.gql_registry_meta.specs.Kinds.{kind_of}
use Rattle.gql_registry_meta.specs.Parts.{Meta, name_of}
use Rattle.gql_registry.specs.Plain.{plain_scalar}
use Rattle.gql_registry.specs.Registry.{registry_of}
use Rattle.gql_registry.specs.Created.{Maker, answer_of}
use Rattle.gql_registry.proofs.Making.{created_by, made_by_calls}
use Rattle.gql_merged.specs.Plain.{MakesOnly}
use Rattle.gql_merged.proofs.scalars.UploadInputType.create_type_info.Goals as goal

pub returns-clause-created : goal.returns-clause-created
returns-clause-created g c =
    let type : Meta = plain_scalar (codes "Upload") in
    let wider : Maker = MakesOnly type in
    created_by _ wider (name_of type) (kind_of type) (registry_of c.args.registry.now) (answer_of c.create_input_type.result) (registry_of c.create_input_type.new.self)
    (made_by_calls _ _ _ _ wider (λ at left r next call. search rules))
    c.create_input_type.ensures.created
