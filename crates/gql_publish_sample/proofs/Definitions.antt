-- The definitions that a sample text has, each at the place 0.
use Rattle.std.proofs.Common.{ℕ, zero, suc, ◌-◌, negsuc, List, [], ◌∷◌, Option, Some, None, codes}
use Rattle.gql_text_values.specs.declared.const_value.ConstValue.{ConstValue}
use Rattle.gql_text_values.specs.declared.const_value.ConstValue.TheVariants as values
use Rattle.gql_text_values.specs.declared.type_ref.TypeRef.{TypeRef}
use Rattle.gql_text_values.specs.declared.type_ref.TypeRef.TheVariants as refs
use Rattle.gql_text.specs.declared.document.Definition.{Definition}
use Rattle.gql_text.specs.declared.document.Definition.TheVariants as definition
use Rattle.gql_text.specs.declared.document.EnumValueDef.{EnumValueDef}
use Rattle.gql_text.specs.declared.document.FieldDef.{FieldDef}
use Rattle.gql_text.specs.declared.document.InputDef.{InputDef}
use Rattle.gql_text.specs.declared.document.TypeHead.{TypeHead}
use Rattle.gql_registry_meta.specs.Parts.{Text}
use Rattle.gql_publish_sample.specs.Sample.{Kind, object, interface, enum, input, kind_at, name_at}

-- the name of a type
abbrev pub head_of : Text → TypeHead
head_of name = record { name = name; description = None; uses = []; at = 0 }

-- a field without arguments
abbrev pub field_of : Text → TypeRef → FieldDef
field_of name ty = record { name = name; description = None; args = []; ty = ty; uses = []; at = 0 }

-- a field of an input object
abbrev pub input_of : Text → TypeRef → Option ConstValue → InputDef
input_of name ty default = record { name = name; description = None; ty = ty; default = default; uses = []; at = 0 }

-- a value of an enum
abbrev pub value_of : Text → EnumValueDef
value_of name = record { name = name; description = None; uses = []; at = 0 }

-- the types of fields
abbrev pub int : TypeRef
int = refs.Named (codes "Int")

abbrev pub query : TypeRef
query = refs.Named (codes "Query")

abbrev pub required : Text → TypeRef
required name = refs.NonNull (refs.Named name)

-- -1
abbrev pub minus_one : ConstValue
minus_one = values.Number (negsuc 0)

-- a type of each kind of this name; an input object needs the other
abbrev pub definition_of : Kind → (name other : Text) → Definition
definition_of object name other = definition.Object (head_of name) [] (field_of (codes "b") int ∷ field_of (codes "a") query ∷ [])
definition_of interface name other = definition.Interface (head_of name) [] (field_of (codes "a") query ∷ [])
definition_of enum name other = definition.Enum (head_of name) (value_of (codes "B") ∷ value_of (codes "A") ∷ [])
definition_of input name other = definition.Input (head_of name) (input_of (codes "b") (required other) None ∷ input_of (codes "a") int (Some minus_one) ∷ [])

-- the query root
abbrev pub root : Definition
root = definition.Object (head_of (codes "Query")) [] (field_of (codes "v") int ∷ [])

-- the first types, the last one first
unfoldable pub types : ℕ → List Definition
types zero = []
types (suc i) = definition_of (kind_at i) (name_at i) (name_at (i - 1)) ∷ types i

-- all definitions
abbrev pub definitions : ℕ → List Definition
definitions n = root ∷ types n
