-- Definitions without an owner fault: what the table of owner faults refuses, told of the definitions themselves. Of a
-- schema block a document has neither a description nor uses.
use Rattle.std.specs.Prelude.{Bool, true, false, not, ◌&&◌, ◌||◌, cond, List, [], ◌∷◌, map, Option, Some, None, codes}
use Rattle.std.specs.List.{filter_map, find, list_all, list_any}
use Rattle.std.specs.Option.{option_map_or}
use Rattle.std.specs.Str.{bytes_eq}
use Rattle.gql_text_lexer.specs.Forms.{is_reserved}
use Rattle.gql_text_values.specs.declared.const_value.ConstValue.{ConstValue, fold-ConstValue, out-ConstValue}
use Rattle.gql_text_values.specs.declared.const_value.ConstValue.TheOpen.{ConstValue-F}
use Rattle.gql_text_syntax.specs.declared.operation.OperationType.TheVariants.{Query, Subscription}
use Rattle.gql_text.specs.Owners.{Names, no_names, with_seen_name, deprecated, specified_by, one_of, is_attribute}
use Rattle.gql_text.specs.Roots.{operation_word, same_operation, is_schema, lines_of, root_of}
use Rattle.gql_text.specs.WrittenRoots.{is_root}
use Rattle.gql_text.specs.declared.document.Definition.{Definition}
use Rattle.gql_text.specs.declared.document.Definition.TheVariants as definition
use Rattle.gql_text.specs.declared.document.DirectiveUse.{DirectiveUse}
use Rattle.gql_text.specs.declared.document.EnumValueDef.{EnumValueDef}
use Rattle.gql_text.specs.declared.document.FieldDef.{FieldDef}
use Rattle.gql_text.specs.declared.document.InputDef.{InputDef}
use Rattle.gql_text.specs.declared.document.TypeHead.{TypeHead}
use Rattle.gql_registry_meta.specs.Parts.{Text, is_empty}

-- ---- names that differ

-- none of the names is among the earlier ones or repeats
abbrev pub are_new : Names → List Text → Bool
are_new earlier [] = true
are_new earlier (name ∷ names) = not (earlier name) && are_new (with_seen_name name earlier) names

-- no name repeats
abbrev pub are_distinct : List Text → Bool
are_distinct names = are_new no_names names

-- ---- values: the keys of each object, at any depth

-- one level, with the test of each inner value in its place
abbrev pub distinct_keys_by : ConstValue-F Bool → Bool
distinct_keys_by (ConstValue-F.List items) = list_all (λ item. item) items
distinct_keys_by (ConstValue-F.Object entries) = are_distinct (map (λ e. e.0) entries) && list_all (λ e. e.1) entries
distinct_keys_by _ = true

-- no object has a key twice
abbrev pub has_distinct_keys : ConstValue → Bool
has_distinct_keys = fold-ConstValue Bool distinct_keys_by

-- ---- uses of directives

-- what uses stand on: a member, which is a field, an argument, an input field or an enum value; a scalar; an input object;
-- or anything else
pub data Owner : Type 0 where
  on_member : Owner
  on_scalar : Owner
  on_input : Owner
  on_other : Owner

-- the arguments of one use: their names, and the keys in their values
abbrev pub are_faultless_arguments : List (Text × ConstValue) → Bool
are_faultless_arguments arguments = are_distinct (map (λ a. a.0) arguments) && list_all (λ a. has_distinct_keys a.1) arguments

-- whether a value is a string, by its outermost form
abbrev pub is_string_layer : ConstValue-F ConstValue → Bool
is_string_layer (ConstValue-F.String text) = true
is_string_layer _ = false

-- whether a value is a string
abbrev pub is_string : ConstValue → Bool
is_string value = is_string_layer (out-ConstValue value)

-- one string under this name
abbrev pub is_one_string : Text → List (Text × ConstValue) → Bool
is_one_string name (a ∷ []) = bytes_eq a.0 name && is_string a.1
is_one_string name _ = false

-- on a member, with at most one string `reason`: section 3.13.3
abbrev pub may_deprecate : Owner → List (Text × ConstValue) → Bool
may_deprecate on_member arguments = is_empty arguments || is_one_string (codes "reason") arguments
may_deprecate _ arguments = false

-- on a scalar, with exactly one string `url`: section 3.13.4
abbrev pub may_specify : Owner → List (Text × ConstValue) → Bool
may_specify on_scalar arguments = is_one_string (codes "url") arguments
may_specify _ arguments = false

-- on an input object, with no arguments
abbrev pub may_be_one_of : Owner → List (Text × ConstValue) → Bool
may_be_one_of on_input arguments = is_empty arguments
may_be_one_of _ arguments = false

-- an attribute where it may not stand, or with arguments that it doesn't take
abbrev pub is_misused : Owner → DirectiveUse → Bool
is_misused owner u =
    (bytes_eq u.name deprecated && not (may_deprecate owner u.args))
    || ((bytes_eq u.name specified_by && not (may_specify owner u.args))
    || (bytes_eq u.name one_of && not (may_be_one_of owner u.args)))

-- one use by itself
abbrev pub is_faultless_use : Owner → DirectiveUse → Bool
is_faultless_use owner u = not (is_misused owner u) && are_faultless_arguments u.args

-- an attribute, by its name
abbrev pub attribute_name : DirectiveUse → Option Text
attribute_name u = cond (is_attribute u.name) (Some u.name) None

-- the uses on one owner: no attribute twice, and each use by itself
abbrev pub are_faultless_uses : Owner → List DirectiveUse → Bool
are_faultless_uses owner uses = are_distinct (filter_map attribute_name uses) && list_all (is_faultless_use owner) uses

-- ---- members

-- a default value, where there is one
abbrev pub is_faultless_default : Option ConstValue → Bool
is_faultless_default value = option_map_or has_distinct_keys value true

-- one argument, or one field of an input object
abbrev pub is_faultless_input : InputDef → Bool
is_faultless_input i = is_faultless_default i.default && are_faultless_uses on_member i.uses

-- arguments of one owner, or the fields of an input object
abbrev pub are_faultless_inputs : List InputDef → Bool
are_faultless_inputs inputs = are_distinct (map (λ i. i.name) inputs) && list_all is_faultless_input inputs

-- one field of an object or of an interface
abbrev pub is_faultless_field : FieldDef → Bool
is_faultless_field f = are_faultless_inputs f.args && are_faultless_uses on_member f.uses

-- the fields of an object or of an interface
abbrev pub are_faultless_fields : List FieldDef → Bool
are_faultless_fields fields = are_distinct (map (λ f. f.name) fields) && list_all is_faultless_field fields

-- the values of an enum
abbrev pub are_faultless_values : List EnumValueDef → Bool
are_faultless_values values = are_distinct (map (λ v. v.name) values) && list_all (λ v. are_faultless_uses on_member v.uses) values

-- ---- types

-- the name of a type and the uses on it
abbrev pub is_faultless_head : Owner → TypeHead → Bool
is_faultless_head owner head = not (is_reserved head.name) && are_faultless_uses owner head.uses

-- an object or an interface, apart from what the subscription root may not have
abbrev pub is_faultless_like : TypeHead → List Text → List FieldDef → Bool
is_faultless_like head implements fields = not (is_reserved head.name) && (are_distinct implements && (are_faultless_uses on_other head.uses && are_faultless_fields fields))

-- uses that are attributes
abbrev pub are_attributes : List DirectiveUse → Bool
are_attributes uses = list_all (λ u. is_attribute u.name) uses

-- what the subscription root may be: it implements nothing, and it and its fields have no other uses than attributes
abbrev pub is_faultless_root : TypeHead → List Text → List FieldDef → Bool
is_faultless_root head implements fields = is_empty implements && (are_attributes head.uses && list_all (λ f. not (is_reserved f.name) && are_attributes f.uses) fields)

-- a `type`, given the name of the subscription root
abbrev pub is_faultless_object : Option Text → TypeHead → List Text → List FieldDef → Bool
is_faultless_object root head implements fields = is_faultless_like head implements fields && cond (is_root root head.name) (is_faultless_root head implements fields) true

-- ---- definitions

-- a definition of each kind, given the name of the subscription root
abbrev pub is_faultless : Option Text → Definition → Bool
is_faultless root (definition.SchemaBlock roots at) = are_distinct (map (λ r. operation_word r.kind) roots)
is_faultless root (definition.Scalar head) = is_faultless_head on_scalar head
is_faultless root (definition.Object head implements fields) = is_faultless_object root head implements fields
is_faultless root (definition.Interface head implements fields) = is_faultless_like head implements fields
is_faultless root (definition.Union head members) = is_faultless_head on_other head && are_distinct members
is_faultless root (definition.Enum head values) = is_faultless_head on_other head && are_faultless_values values
is_faultless root (definition.Input head fields) = is_faultless_head on_input head && are_faultless_inputs fields
is_faultless root (definition.Directive directive) = are_faultless_inputs directive.args

-- ---- the whole document

-- the name of a type that is defined
abbrev pub type_name : Definition → Option Text
type_name (definition.SchemaBlock roots at) = None
type_name (definition.Scalar head) = Some head.name
type_name (definition.Object head implements fields) = Some head.name
type_name (definition.Interface head implements fields) = Some head.name
type_name (definition.Union head members) = Some head.name
type_name (definition.Enum head values) = Some head.name
type_name (definition.Input head fields) = Some head.name
type_name (definition.Directive directive) = None

-- the name of a directive that is defined
abbrev pub directive_name : Definition → Option Text
directive_name (definition.Directive directive) = Some directive.name
directive_name _ = None

-- no schema block stands after another one; the test says whether one stands before
abbrev pub has_one_block : Bool → List Definition → Bool
has_one_block before [] = true
has_one_block before (d ∷ ds) = not (before && is_schema d) && has_one_block (before || is_schema d) ds

-- a schema block has a line for queries
abbrev pub has_query : Option Definition → Bool
has_query None = true
has_query (Some schema) = list_any (λ r. same_operation Query r.kind) (lines_of schema)

-- all definitions of a document
abbrev pub are_faultless : List Definition → Bool
are_faultless ds =
    are_distinct (filter_map type_name ds)
    && (are_distinct (filter_map directive_name ds)
    && (has_one_block false ds
    && (has_query (find is_schema ds)
    && list_all (is_faultless (root_of Subscription (record { definitions = ds }))) ds)))
