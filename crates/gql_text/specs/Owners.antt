-- The owner faults of a document, as entries of a kind, a name and a place, by cases on what is written.
use Rattle.std.specs.Prelude.{◌&&◌, ◌||◌, not, ℕ, Bool, true, false, cond, List, [], ◌∷◌, ◌++◌, map, flat_map, Option, Some, None, codes}
use Rattle.std.specs.List.{filter_map}
use Rattle.gql_text_lexer.specs.Forms.{is_reserved}
use Rattle.gql_text.specs.DocumentOf.{document_of}
use Rattle.gql_text.specs.Roots.{root_of}
use Rattle.gql_text.specs.WrittenRoots.{first_schema, has_line, is_root, is_schema, root_key}
use Rattle.std.specs.Str.{bytes_eq}
use Rattle.gql_text_syntax.specs.declared.operation.OperationType.TheVariants.{Query, Subscription}
use Rattle.gql_text.specs.declared.owner_fault.OwnerFault.{OwnerFault}
use Rattle.gql_text.specs.declared.owner_fault.FaultKind.{FaultKind}
use Rattle.gql_text.specs.declared.owner_fault.FaultKind.TheVariants as fault
use Rattle.gql_text_syntax.specs.declared.error.What.TheVariants as what
use Rattle.gql_text.specs.declared.owner_uses.Owner.{Owner}
use Rattle.gql_text.specs.declared.owner_uses.Owner.TheVariants as owner
use Rattle.gql_text_syntax.specs.declared.syntax.PlacedName.{PlacedName}
use Rattle.gql_text_syntax.specs.declared.syntax.Description.{Description}
use Rattle.gql_text_syntax.specs.declared.syntax.Literal.{Literal, fold-Literal, out-Literal}
use Rattle.gql_text_syntax.specs.declared.syntax.Literal.TheOpen.{Literal-F}
use Rattle.gql_text_syntax.specs.declared.syntax.Argument.{Argument}
use Rattle.gql_text_syntax.specs.declared.syntax.Use.{Use}
use Rattle.gql_text_syntax.specs.declared.syntax.InputValue.{InputValue}
use Rattle.gql_text_syntax.specs.declared.syntax.Field.{Field}
use Rattle.gql_text_syntax.specs.declared.syntax.EnumValue.{EnumValue}
use Rattle.gql_text_syntax.specs.declared.syntax.Root.{Root}
use Rattle.gql_text_syntax.specs.declared.syntax.Implements.{Implements}
use Rattle.gql_text_syntax.specs.declared.syntax.ObjectLike.{ObjectLike}
use Rattle.gql_text_syntax.specs.declared.syntax.Kind.{Kind}
use Rattle.gql_text_syntax.specs.declared.syntax.Kind.TheVariants as kind
use Rattle.gql_text_syntax.specs.declared.syntax.WrittenDefinition.{WrittenDefinition}

-- a fault at a place, where the test holds
abbrev pub fault_where : Bool → FaultKind → ℕ → List OwnerFault
fault_where test kind at = cond test (record { kind = kind; at = at } ∷ []) []

-- ---- names that repeat

-- a set of names, as the test whether a name is in it
abbrev pub Names : Type 0
Names = List ℕ → Bool

-- no name
abbrev pub no_names : Names
no_names = λ name. false

-- one more name
abbrev pub with_seen_name : List ℕ → Names → Names
with_seen_name more names = λ name. bytes_eq more name || names name

-- a name at this place, where it is among these
abbrev pub repeated : Names → List ℕ → ℕ → List OwnerFault
repeated names name at = fault_where (names name) (fault.Duplicate name) at

-- each name that is among the earlier ones of its owner
abbrev pub duplicates : Names → List PlacedName → List OwnerFault
duplicates earlier [] = []
duplicates earlier (key ∷ keys) = repeated earlier key.name key.at ++ duplicates (with_seen_name key.name earlier) keys

-- ---- values: the keys of each object, at any depth

-- the faults of a value, given those of the values in it
abbrev pub value_faults_by : Literal-F (List OwnerFault) → List OwnerFault
value_faults_by (Literal-F.List items) = flat_map (λ faults. faults) items
value_faults_by (Literal-F.Object entries) = duplicates no_names (map (λ e. e.0) entries) ++ flat_map (λ e. e.1) entries
value_faults_by _ = []

-- each key of an object, at any depth, that repeats an earlier one of that object
abbrev pub value_faults : Literal → List OwnerFault
value_faults = fold-Literal (List OwnerFault) value_faults_by

-- ---- uses of directives

-- the arguments of one use: their names, and the keys in their values
abbrev pub argument_faults : List Argument → List OwnerFault
argument_faults arguments = duplicates no_names (map (λ a. a.key) arguments) ++ flat_map (λ a. value_faults a.value) arguments

-- the attributes: `@deprecated`, `@specifiedBy` and `@oneOf`
abbrev pub deprecated : List ℕ
deprecated = codes "deprecated"

-- section 3.13.4
abbrev pub specified_by : List ℕ
specified_by = codes "specifiedBy"

-- of an input object of which one field is given
abbrev pub one_of : List ℕ
one_of = codes "oneOf"

-- one of the three
abbrev pub is_attribute : List ℕ → Bool
is_attribute name = bytes_eq name deprecated || (bytes_eq name specified_by || bytes_eq name one_of)

-- whether a value is a string, by its outermost form
abbrev pub is_string_layer : Literal-F Literal → Bool
is_string_layer (Literal-F.String text) = true
is_string_layer _ = false

-- whether a value is a string
abbrev pub is_string : Literal → Bool
is_string value = is_string_layer (out-Literal value)

-- one string under this name
abbrev pub is_one_string : List ℕ → List Argument → Bool
is_one_string name (a ∷ []) = bytes_eq a.key.name name && is_string a.value
is_one_string name _ = false

-- no arguments
abbrev pub has_no_arguments : List Argument → Bool
has_no_arguments [] = true
has_no_arguments (a ∷ more) = false

-- on a member, with at most one string `reason`
abbrev pub may_deprecate : Owner → List Argument → Bool
may_deprecate owner.Member arguments = has_no_arguments arguments || is_one_string (codes "reason") arguments
may_deprecate _ arguments = false

-- on a scalar, with exactly one string `url`
abbrev pub may_specify : Owner → List Argument → Bool
may_specify owner.Scalar arguments = is_one_string (codes "url") arguments
may_specify _ arguments = false

-- on an input object, with no arguments
abbrev pub may_be_one_of : Owner → List Argument → Bool
may_be_one_of owner.Input arguments = has_no_arguments arguments
may_be_one_of _ arguments = false

-- an attribute where it may not stand, or with arguments that it doesn't take
abbrev pub is_misused : Owner → Use → Bool
is_misused owner u =
    (bytes_eq u.name deprecated && not (may_deprecate owner u.arguments))
    || ((bytes_eq u.name specified_by && not (may_specify owner u.arguments))
    || (bytes_eq u.name one_of && not (may_be_one_of owner u.arguments)))

-- one use by itself
abbrev pub use_faults : Owner → Use → List OwnerFault
use_faults owner u = fault_where (is_misused owner u) (fault.Unsupported what.Attribute) u.at ++ argument_faults u.arguments

-- an attribute, by its name, at its `@`
abbrev pub attribute_key : Use → Option PlacedName
attribute_key u = cond (is_attribute u.name) (Some (record { name = u.name; at = u.at })) None

-- an attribute a second time on one owner
abbrev pub attribute_faults : List Use → List OwnerFault
attribute_faults uses = duplicates no_names (filter_map attribute_key uses)

-- the uses on one owner: an attribute a second time, and each use by itself
abbrev pub uses_faults : Owner → List Use → List OwnerFault
uses_faults owner uses = attribute_faults uses ++ flat_map (use_faults owner) uses

-- ---- members

-- a default value, where there is one
abbrev pub default_faults : Option Literal → List OwnerFault
default_faults None = []
default_faults (Some value) = value_faults value

-- one argument, or one field of an input object
abbrev pub input_faults : InputValue → List OwnerFault
input_faults i = default_faults i.default ++ uses_faults owner.Member i.uses

-- arguments of one owner, or the fields of an input object
abbrev pub inputs_faults : List InputValue → List OwnerFault
inputs_faults inputs = duplicates no_names (map (λ i. i.key) inputs) ++ flat_map input_faults inputs

-- one field of an object or of an interface
abbrev pub field_faults : Field → List OwnerFault
field_faults f = inputs_faults f.arguments ++ uses_faults owner.Member f.uses

-- the fields of an object or of an interface
abbrev pub fields_faults : List Field → List OwnerFault
fields_faults fields = duplicates no_names (map (λ f. f.key) fields) ++ flat_map field_faults fields

-- one value of an enumeration
abbrev pub enum_value_faults : EnumValue → List OwnerFault
enum_value_faults v = uses_faults owner.Member v.uses

-- the values of an enumeration
abbrev pub enum_values_faults : List EnumValue → List OwnerFault
enum_values_faults values = duplicates no_names (map (λ v. v.key) values) ++ flat_map enum_value_faults values

-- the names that a type implements
abbrev pub implements_faults : Option Implements → List OwnerFault
implements_faults None = []
implements_faults (Some i) = duplicates no_names i.names

-- ---- types

-- a reserved name, where it may not stand
abbrev pub reserved : PlacedName → List OwnerFault
reserved key = fault_where (is_reserved key.name) (fault.ReservedName key.name) key.at

-- the word `implements`
abbrev pub implements_decoration : Option Implements → List OwnerFault
implements_decoration None = []
implements_decoration (Some i) = record { kind = fault.Unsupported what.SubscriptionDecoration; at = i.at } ∷ []

-- a use that is no attribute
abbrev pub custom_use_faults : Use → List OwnerFault
custom_use_faults u = fault_where (not (is_attribute u.name)) (fault.Unsupported what.SubscriptionDecoration) u.at

-- what a field of the subscription root may not have
abbrev pub subscription_field_faults : Field → List OwnerFault
subscription_field_faults f = reserved f.key ++ flat_map custom_use_faults f.uses

-- what the subscription root may not have
abbrev pub subscription_faults : ObjectLike → List OwnerFault
subscription_faults o = implements_decoration o.implements ++ (flat_map custom_use_faults o.uses ++ flat_map subscription_field_faults o.fields)

-- an object or an interface, apart from what the subscription root may not have
abbrev pub object_like_faults : ObjectLike → List OwnerFault
object_like_faults o = reserved o.key ++ (implements_faults o.implements ++ (uses_faults owner.Other o.uses ++ fields_faults o.fields))

-- a `type`, given the name of the subscription root
abbrev pub object_faults : Option (List ℕ) → ObjectLike → List OwnerFault
object_faults root o = object_like_faults o ++ cond (is_root root o.key.name) (subscription_faults o) []

-- ---- definitions

-- a description on a schema block
abbrev pub description_faults : Option Description → List OwnerFault
description_faults None = []
description_faults (Some d) = record { kind = fault.Unsupported what.SchemaDecoration; at = d.at } ∷ []

-- a use on a schema block
abbrev pub schema_use_faults : Use → List OwnerFault
schema_use_faults u = record { kind = fault.Unsupported what.SchemaDecoration; at = u.at } ∷ []

-- a schema block by itself
abbrev pub schema_faults : Option Description → List Use → List Root → List OwnerFault
schema_faults description uses roots = description_faults description ++ (flat_map schema_use_faults uses ++ (uses_faults owner.Other uses ++ duplicates no_names (map root_key roots)))

-- the name of a type and the uses on it
abbrev pub head_faults : PlacedName → Owner → List Use → List OwnerFault
head_faults key owner uses = reserved key ++ uses_faults owner uses

-- a definition of each kind, given the name of the subscription root
abbrev pub kind_faults : Option (List ℕ) → Option Description → Kind → List OwnerFault
kind_faults root description (kind.Schema at uses roots) = schema_faults description uses roots
kind_faults root description (kind.Scalar key uses) = head_faults key owner.Scalar uses
kind_faults root description (kind.Object o) = object_faults root o
kind_faults root description (kind.Interface o) = object_like_faults o
kind_faults root description (kind.Union key uses members) = head_faults key owner.Other uses ++ duplicates no_names members
kind_faults root description (kind.Enum key uses values) = head_faults key owner.Other uses ++ enum_values_faults values
kind_faults root description (kind.Input key uses fields) = head_faults key owner.Input uses ++ inputs_faults fields
kind_faults root description (kind.Directive key arguments repeatable locations) = inputs_faults arguments

-- one definition by itself
abbrev pub definition_faults : Option (List ℕ) → WrittenDefinition → List OwnerFault
definition_faults root d = kind_faults root d.description d.kind

-- ---- the whole document

-- the name of a definition of a type
abbrev pub type_key : Kind → Option PlacedName
type_key (kind.Schema at uses roots) = None
type_key (kind.Scalar key uses) = Some key
type_key (kind.Object o) = Some o.key
type_key (kind.Interface o) = Some o.key
type_key (kind.Union key uses members) = Some key
type_key (kind.Enum key uses values) = Some key
type_key (kind.Input key uses fields) = Some key
type_key (kind.Directive key arguments repeatable locations) = None

-- the name of a definition of a directive
abbrev pub directive_key : Kind → Option PlacedName
directive_key (kind.Directive key arguments repeatable locations) = Some key
directive_key _ = None

-- names of types that repeat
abbrev pub type_name_faults : List WrittenDefinition → List OwnerFault
type_name_faults ds = duplicates no_names (filter_map (λ d. type_key d.kind) ds)

-- names of directives that repeat
abbrev pub directive_name_faults : List WrittenDefinition → List OwnerFault
directive_name_faults ds = duplicates no_names (filter_map (λ d. directive_key d.kind) ds)

-- the place of the word `schema`
abbrev pub schema_place : Kind → Option ℕ
schema_place (kind.Schema at uses roots) = Some at
schema_place _ = None

-- a block after another one
abbrev pub second_schema : Bool → Option ℕ → List OwnerFault
second_schema true (Some at) = record { kind = fault.Unsupported what.SecondSchema; at = at } ∷ []
second_schema _ _ = []

-- the blocks after the first one; the test says whether one stands before
abbrev pub second_schemas : Bool → List WrittenDefinition → List OwnerFault
second_schemas before [] = []
second_schemas before (d ∷ ds) = second_schema before (schema_place d.kind) ++ second_schemas (before || is_schema d.kind) ds

-- a block without a line for queries
abbrev pub query_faults_of : Kind → List OwnerFault
query_faults_of (kind.Schema at uses roots) = fault_where (not (has_line Query roots)) (fault.Unsupported what.NoQuery) at
query_faults_of _ = []

-- the same of the first block, where there is one
abbrev pub query_faults : Option WrittenDefinition → List OwnerFault
query_faults None = []
query_faults (Some schema) = query_faults_of schema.kind

-- all owner faults of a document
abbrev pub owner_faults : List WrittenDefinition → List OwnerFault
owner_faults ds =
    type_name_faults ds ++
    (directive_name_faults ds ++
    (second_schemas false ds ++
    (query_faults (first_schema ds) ++
    flat_map (definition_faults (root_of Subscription (document_of ds))) ds)))
