use Rattle.std.proofs.Common.{◌∙◌}
use Rattle.gql_registry_meta.proofs.Names.{names_have_text}
use Rattle.gql_registry_meta.proofs.meta_type.MetaType.is_possible_type.Goals as goal

pub returns-in-Interface : goal.returns-in-Interface
returns-in-Interface g c = rw c.in-Interface.is (c.contains.ensures ∙ names_have_text c.args.type_name.now c.in-Interface.possible_types.keys)

pub returns-in-Union : goal.returns-in-Union
returns-in-Union g c = rw c.in-Union.is (c.contains-in-Union.ensures ∙ names_have_text c.args.type_name.now c.in-Union.possible_types.keys)
