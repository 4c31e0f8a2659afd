use Rattle.std.proofs.Common.{rules, codes, false}
use Rattle.gql_registry_meta.specs.Kinds.{kind_of}
use Rattle.gql_registry_meta.specs.Parts.{Meta, name_of}
use Rattle.gql_registry.specs.Registry.{registry_of}
use Rattle.gql_registry.specs.Created.{Maker, answer_of}
use Rattle.gql_registry.proofs.Making.{created_by, made_by_calls}
use Rattle.gql_merged.specs.Plain.{empty_object, MakesOnly}
use Rattle.gql_merged.proofs.merged_tail.MergedObjectTailOutputType.create_type_info.Goals as goal

pub returns-clause-created : goal.returns-clause-created
returns-clause-created g c =
    let type : Meta = empty_object (codes "MergedObjectTail") false in
    let wider : Maker = MakesOnly type in
    created_by _ wider (name_of type) (kind_of type) (registry_of c.args.registry.now) (answer_of c.create_output_type.result) (registry_of c.create_output_type.new.self)
    (made_by_calls _ _ _ _ wider (λ at left r next call. search rules))
    c.create_output_type.ensures.created
