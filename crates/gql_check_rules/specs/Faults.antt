-- Broken rules of a schema, section 3 of the GraphQL specification, October 2021, and the sentence that reports each.
use Rattle.std.specs.Prelude.{[], ◌∷◌, codes}
use Rattle.std.specs.List.{concat}
use Rattle.gql_registry_meta.specs.Parts.{Text}
use Rattle.gql_registry_meta.specs.declared.type_id.MetaTypeId.{MetaTypeId}
use Rattle.gql_registry_meta.specs.Kinds.{kind_text}

-- a broken rule, with the names that it reports
pub data Fault : Type 0 where
  already_exists : (name : Text) → Fault
  not_found : (name : Text) → Fault
  query_root : Fault
  mutation_root : Fault
  subscription_root : Fault
  empty_object : (ty : Text) → Fault
  field_underscores : (ty field : Text) → Fault
  arg_underscores : (ty field arg : Text) → Fault
  field_output : (ty field : Text) → Fault
  arg_input : (ty field arg : Text) → Fault
  field_input : (ty field : Text) → Fault
  one_of_nullable : (ty field : Text) → Fault
  one_of_default : (ty field : Text) → Fault
  input_cycle : (ty : Text) → Fault
  not_interface : (name : Text) → Fault
  missing_field : (kind : MetaTypeId) → (ty field interface : Text) → Fault
  missing_argument : (ty field arg interface : Text) → Fault
  arg_type : (ty field arg interface : Text) → Fault
  field_type : (ty field interface : Text) → Fault
  implements_itself : (ty : Text) → Fault
  member_not_object : (ty member : Text) → Fault

-- how the sentences on reserved names end: section 2.1.9
abbrev pub underscores : Text
underscores = codes "\" must not have a name which begins with the characters \"__\" (two underscores)"

-- the sentence of a missing field, with the word for the kind of the type that lacks it
abbrev pub missing_field_sentence : (word ty field interface : Text) → Text
missing_field_sentence word ty field interface = concat (word ∷ codes " \"" ∷ ty ∷ codes "\" requires field \"" ∷ field
    ∷ codes "\" defined by interface \"" ∷ interface ∷ codes "\"" ∷ [])

-- the sentence that reports a broken rule
abbrev pub sentence : Fault → Text
sentence (already_exists name) = concat (codes "Type \"" ∷ name ∷ codes "\" already exists" ∷ [])
sentence (not_found name) = concat (codes "Type \"" ∷ name ∷ codes "\" not found" ∷ [])
sentence query_root = codes "The query root must be an object"
sentence mutation_root = codes "The mutation root must be an object"
sentence subscription_root = codes "The subscription root must be a subscription object"
sentence (empty_object ty) = concat (codes "Object \"" ∷ ty ∷ codes "\" must define one or more fields" ∷ [])
sentence (field_underscores ty field) = concat (codes "Field \"" ∷ ty ∷ codes "." ∷ field ∷ underscores ∷ [])
sentence (arg_underscores ty field arg) = concat (codes "Argument \"" ∷ ty ∷ codes "." ∷ field ∷ codes "." ∷ arg ∷ underscores ∷ [])
sentence (field_output ty field) = concat (codes "Field \"" ∷ ty ∷ codes "." ∷ field ∷ codes "\" must return a output type" ∷ [])
sentence (arg_input ty field arg) = concat (codes "Argument \"" ∷ ty ∷ codes "." ∷ field ∷ codes "." ∷ arg ∷ codes "\" must accept a input type" ∷ [])
sentence (field_input ty field) = concat (codes "Field \"" ∷ ty ∷ codes "." ∷ field ∷ codes "\" must accept a input type" ∷ [])
sentence (one_of_nullable ty field) = concat (codes "Field \"" ∷ ty ∷ codes "." ∷ field ∷ codes "\" must be nullable" ∷ [])
sentence (one_of_default ty field) = concat (codes "Field \"" ∷ ty ∷ codes "." ∷ field ∷ codes "\" must not have a default value" ∷ [])
sentence (input_cycle ty) = concat (codes "\"" ∷ ty
    ∷ codes "\" references itself either directly or through referenced Input Objects, at least one of the fields in the chain of references must be either a nullable or a List type."
    ∷ [])
sentence (not_interface name) = concat (codes "Type \"" ∷ name ∷ codes "\" is not interface" ∷ [])
sentence (missing_field kind ty field interface) = missing_field_sentence (kind_text kind) ty field interface
sentence (missing_argument ty field arg interface) = concat (codes "Field \"" ∷ ty ∷ codes "." ∷ field ∷ codes "\" requires argument \"" ∷ arg
    ∷ codes "\" defined by interface \"" ∷ interface ∷ codes "." ∷ field ∷ codes "\"" ∷ [])
sentence (arg_type ty field arg interface) = concat (codes "Argument \"" ∷ interface ∷ codes "." ∷ field ∷ codes "." ∷ arg
    ∷ codes "\" is not sub-type of \"" ∷ ty ∷ codes "." ∷ field ∷ codes "." ∷ arg ∷ codes "\"" ∷ [])
sentence (field_type ty field interface) = concat (codes "Field \"" ∷ ty ∷ codes "." ∷ field
    ∷ codes "\" is not sub-type of \"" ∷ interface ∷ codes "." ∷ field ∷ codes "\"" ∷ [])
sentence (implements_itself ty) = concat (codes "Interface \"" ∷ ty ∷ codes "\" may not implement itself" ∷ [])
sentence (member_not_object ty member) = concat (codes "Member \"" ∷ member ∷ codes "\" of union \"" ∷ ty ∷ codes "\" is not an object" ∷ [])
