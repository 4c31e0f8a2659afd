-- The rules of a schema, in their order: sections 3.3 to 3.10 of the GraphQL specification, October 2021. A group is a list
-- of tests, and the first test that holds reports the broken rule with its names. Types are taken in the order of
-- registration, fields, arguments, names of interfaces and members in their own.
use Rattle.std.specs.Prelude.{Bool, true, false, List, [], ◌∷◌, Option, Some, None, not, ◌&&◌, ◌||◌, option_and_then, cond}
use Rattle.std.specs.List.{list_any}
use Rattle.std.specs.Str.{bytes_eq}
use Rattle.gql_text_lexer.specs.Forms.{is_reserved}
use Rattle.gql_text_values.specs.TypeRefs.{Reference, named, non_null, list_of, innermost, is_nullable, is_subtype}
use Rattle.gql_registry_meta.specs.Parts.{Text, at_text, is_among, is_empty}
use Rattle.gql_registry_meta.specs.declared.type_id.MetaTypeId.{MetaTypeId}
use Rattle.gql_registry_meta.specs.declared.type_id.MetaTypeId.TheVariants as kind
use Rattle.gql_check_rules.specs.Schema.{Input, Field, Definition, Schema, object, interface, union, input_object, subscription}
use Rattle.gql_check_rules.specs.Schema.{is_system_scalar, exists, passes, is_object, is_interface, is_input_object, is_subscription, is_entity, names_output, names_input, interface_fields, declares, has_member}
use Rattle.gql_check_rules.specs.InputCycles.{reaches_itself}
use Rattle.gql_check_rules.specs.Tests.{fault_if, or_else, first_of, first_in, found_or}
use Rattle.gql_check_rules.specs.Faults.{Fault, already_exists, not_found, query_root, mutation_root, subscription_root, empty_object, field_underscores, arg_underscores, field_output, arg_input, field_input, one_of_nullable, one_of_default, input_cycle, not_interface, missing_field, missing_argument, arg_type, field_type, implements_itself, member_not_object}

-- ---- group 0, names: no type has the name of a system scalar

-- of one type
abbrev pub name_fault : Text × Definition → Option Fault
name_fault type = fault_if (is_system_scalar type.0) (already_exists type.0)

-- ---- group 1, existence: the roots for queries and mutations, and then each name that a type has in it

-- the name exists
abbrev pub name_missing : Schema → Text → Option Fault
name_missing s name = fault_if (not (exists s name)) (not_found name)

-- the type of an argument or input field, without its wrappers, exists
abbrev pub input_missing : Schema → Text × Input → Option Fault
input_missing s input = name_missing s (innermost input.1.ty)

-- the type of a field exists, and then the types of its arguments
abbrev pub field_missing_tests : Schema → Field → List (Option Fault)
field_missing_tests s field =
    name_missing s (innermost field.ty) ∷
    first_in (input_missing s) field.arguments ∷ []

-- the first of these that is broken
abbrev pub field_missing : Schema → Text × Field → Option Fault
field_missing s field = first_of (field_missing_tests s field.1)

-- what the fields name exists, and then the interfaces that the object declares
abbrev pub object_missing_tests : Schema → List (Text × Field) → (implements : List Text) → List (Option Fault)
object_missing_tests s fields implements =
    first_in (field_missing s) fields ∷
    first_in (name_missing s) implements ∷ []

-- all names that a type of each kind has in it; an interface may declare one that does not exist
abbrev pub type_missing : Schema → Text × Definition → Option Fault
type_missing s (name, object fields implements has_key) = first_of (object_missing_tests s fields implements)
type_missing s (name, interface fields implements) = first_in (field_missing s) fields
type_missing s (name, subscription fields) = first_in (field_missing s) fields
type_missing s (name, input_object fields one_of) = first_in (input_missing s) fields
type_missing s (name, union members) = first_in (name_missing s) members
type_missing s _ = None

-- a root that is named exists
abbrev pub root_missing : Schema → Option Text → Option Fault
root_missing s None = None
root_missing s (Some name) = name_missing s name

-- the query root, the mutation root, and then type by type; the subscription root may be missing
abbrev pub existence_tests : Schema → List (Option Fault)
existence_tests s =
    name_missing s s.query ∷
    root_missing s s.mutation ∷
    first_in (type_missing s) s.types ∷ []

-- the first rule of the group that is broken
abbrev pub existence_fault : Schema → Option Fault
existence_fault s = first_of (existence_tests s)

-- ---- group 2, roots: a root that exists is of the right kind

-- one root, with the test of its kind and the fault where that fails
abbrev pub root_fault : Schema → (Definition → Bool) → Fault → Text → Option Fault
root_fault s is_right fault name = fault_if (exists s name && not (passes is_right (at_text name s.types))) fault

-- a root that may be absent
abbrev pub optional_root_fault : Schema → (Definition → Bool) → Fault → Option Text → Option Fault
optional_root_fault s is_right fault None = None
optional_root_fault s is_right fault (Some name) = root_fault s is_right fault name

-- section 3.3.1: objects for queries and mutations, and a subscription
abbrev pub root_tests : Schema → List (Option Fault)
root_tests s =
    root_fault s is_object query_root s.query ∷
    optional_root_fault s is_object mutation_root s.mutation ∷
    optional_root_fault s is_subscription subscription_root s.subscription ∷ []

-- the first rule of the group that is broken
abbrev pub roots_fault : Schema → Option Fault
roots_fault s = first_of (root_tests s)

-- ---- fields of objects and interfaces

-- section 3.6, Type Validation, of an argument: its name is not reserved, and its type is an input type
abbrev pub argument_tests : Schema → (ty field : Text) → Text × Input → List (Option Fault)
argument_tests s ty field argument =
    fault_if (is_reserved argument.0) (arg_underscores ty field argument.0) ∷
    fault_if (not (names_input s (innermost argument.1.ty))) (arg_input ty field argument.0) ∷ []

-- the first of these that is broken
abbrev pub argument_fault : Schema → (ty field : Text) → Text × Input → Option Fault
argument_fault s ty field argument = first_of (argument_tests s ty field argument)

-- section 3.6, Type Validation, of a field: its name is not reserved, its type is an output type, and then its arguments
abbrev pub field_tests : Schema → (ty : Text) → Text × Field → List (Option Fault)
field_tests s ty field =
    fault_if (is_reserved field.0) (field_underscores ty field.0) ∷
    fault_if (not (names_output s (innermost field.1.ty))) (field_output ty field.0) ∷
    first_in (argument_fault s ty field.0) field.1.arguments ∷ []

-- the first of these that is broken
abbrev pub field_fault : Schema → (ty : Text) → Text × Field → Option Fault
field_fault s ty field = first_of (field_tests s ty field)

-- ---- implementation: section 3.6, IsValidImplementation

-- The first name may stand for the second: it is the same, or an object that is a member of the union, or an object or
-- interface that declares the interface.
abbrev pub name_fits : Schema → Text → Text → Bool
name_fits s own wanted =
    bytes_eq own wanted
    || (passes is_object (at_text own s.types) && passes (has_member own) (at_text wanted s.types))
    || (passes (declares wanted) (at_text own s.types) && passes is_interface (at_text wanted s.types))

-- A field of the first type may stand for one of the second: section 3.6, IsValidImplementationFieldType.
abbrev pub fits : Schema → Reference → Reference → Bool
fits s (non_null own) (non_null wanted) = fits s own wanted
fits s (non_null own) wanted = fits s own wanted
fits s (list_of own) (list_of wanted) = fits s own wanted
fits s (named own) (named wanted) = name_fits s own wanted
fits s _ _ = false

-- that a type of this kind and name implements an interface
pub record Implementation : Type 0 where
  pub kind : MetaTypeId
  pub ty : Text
  pub interface : Text

-- An argument that the interface's field has may be missing where it is nullable.
abbrev pub argument_implemented : Implementation → (field : Text) → (own : Field) → (wanted : Text × Input) → Option Fault
argument_implemented i field own wanted = found_or (at_text wanted.0 own.arguments)
    (λ argument. fault_if (not (is_subtype argument.ty wanted.1.ty)) (arg_type i.ty field wanted.0 i.interface))
    (fault_if (not (is_nullable wanted.1.ty)) (missing_argument i.ty field wanted.0 i.interface))

-- section 3.6, IsValidImplementation, of a field that both have: the arguments that are wanted, and then the type
abbrev pub own_field_tests : Schema → Implementation → (field : Text) → (own wanted : Field) → List (Option Fault)
own_field_tests s i field own wanted =
    first_in (argument_implemented i field own) wanted.arguments ∷
    fault_if (not (fits s own.ty wanted.ty)) (field_type i.ty field i.interface) ∷ []

-- the first of these that is broken
abbrev pub own_field_implemented : Schema → Implementation → (field : Text) → (own wanted : Field) → Option Fault
own_field_implemented s i field own wanted = first_of (own_field_tests s i field own wanted)

-- the type has a field of the name that the interface wants, and it may stand for it
abbrev pub field_implemented : Schema → Implementation → List (Text × Field) → (wanted : Text × Field) → Option Fault
field_implemented s i fields wanted = found_or (at_text wanted.0 fields)
    (λ own. own_field_implemented s i wanted.0 own wanted.1)
    (Some (missing_field i.kind i.ty wanted.0 i.interface))

-- a type with these fields implements the interface of the name
abbrev pub implements_fault : Schema → MetaTypeId → (ty : Text) → List (Text × Field) → Text → Option Fault
implements_fault s kind ty fields name = found_or (option_and_then interface_fields (at_text name s.types))
    (λ wanted. first_in (field_implemented s (record { kind = kind; ty = ty; interface = name }) fields) wanted)
    (Some (not_interface name))

-- ---- group 3, objects: section 3.6

-- some object has a key
abbrev pub has_entity : Schema → Bool
has_entity s = list_any (λ type. is_entity type.1) s.types

-- the query root may be without fields where some object has a key
abbrev pub may_be_empty : Schema → (ty : Text) → Bool
may_be_empty s ty = bytes_eq ty s.query && has_entity s

-- section 3.6, Type Validation, of an object: it has a field; then the rules of each; then it implements what it declares
abbrev pub object_tests : Schema → (ty : Text) → List (Text × Field) → (implements : List Text) → List (Option Fault)
object_tests s ty fields implements =
    fault_if (is_empty fields && not (may_be_empty s ty)) (empty_object ty) ∷
    first_in (field_fault s ty) fields ∷
    first_in (implements_fault s kind.Object ty fields) implements ∷ []

-- the first rule of objects that a type breaks; a type of another kind breaks none
abbrev pub object_fault : Schema → Text × Definition → Option Fault
object_fault s (ty, object fields implements has_key) = first_of (object_tests s ty fields implements)
object_fault s _ = None

-- ---- group 4, input objects: section 3.10

-- section 3.10, Type Validation, of a field: its name is not reserved, its type is an input type; of a one-of input object it may
-- be null, and has no default
abbrev pub input_field_tests : Schema → (ty : Text) → (one_of : Bool) → Text × Input → List (Option Fault)
input_field_tests s ty one_of field =
    fault_if (is_reserved field.0) (field_underscores ty field.0) ∷
    fault_if (not (names_input s (innermost field.1.ty))) (field_input ty field.0) ∷
    fault_if (one_of && not (is_nullable field.1.ty)) (one_of_nullable ty field.0) ∷
    fault_if (one_of && field.1.has_default) (one_of_default ty field.0) ∷ []

-- the first of these that is broken
abbrev pub input_field_fault : Schema → (ty : Text) → (one_of : Bool) → Text × Input → Option Fault
input_field_fault s ty one_of field = first_of (input_field_tests s ty one_of field)

-- the rules of each field, and then that the input object does not need itself
abbrev pub input_tests : Schema → (ty : Text) → List (Text × Input) → (one_of : Bool) → List (Option Fault)
input_tests s ty fields one_of =
    first_in (input_field_fault s ty one_of) fields ∷
    fault_if (reaches_itself s ty) (input_cycle ty) ∷ []

-- the first rule of input objects that a type breaks; a type of another kind breaks none
abbrev pub input_fault : Schema → Text × Definition → Option Fault
input_fault s (ty, input_object fields one_of) = first_of (input_tests s ty fields one_of)
input_fault s _ = None

-- the first input object that reaches itself
abbrev pub first_cycle : Schema → List (Text × Definition) → Option Text
first_cycle s types = first_in (λ type. fault_if (is_input_object type.1 && reaches_itself s type.0) type.0) types

-- ---- group 5, interfaces: section 3.7

-- It may declare a name under which nothing is registered.
abbrev pub interface_implements_fault : Schema → (ty : Text) → List (Text × Field) → Text → Option Fault
interface_implements_fault s ty fields name = cond (exists s name) (implements_fault s kind.Interface ty fields name) None

-- the rules on the interfaces that it declares
abbrev pub declared_tests : Schema → (ty : Text) → List (Text × Field) → (implements : List Text) → List (Option Fault)
declared_tests s ty fields implements =
    fault_if (is_among ty implements) (implements_itself ty) ∷
    first_in (interface_implements_fault s ty fields) implements ∷ []

-- the first of these that is broken
abbrev pub declared_fault : Schema → (ty : Text) → List (Text × Field) → (implements : List Text) → Option Fault
declared_fault s ty fields implements = first_of (declared_tests s ty fields implements)

-- The rules of fields, with a fault that is asked once, after those of the first field. Without fields nothing is asked.
abbrev pub interface_fields_fault : Schema → (ty : Text) → (declared : Option Fault) → List (Text × Field) → Option Fault
interface_fields_fault s ty declared [] = None
interface_fields_fault s ty declared (field ∷ fields) = or_else (field_fault s ty field) (or_else declared (first_in (field_fault s ty) fields))

-- the first rule of interfaces that a type breaks; a type of another kind breaks none
abbrev pub interface_fault : Schema → Text × Definition → Option Fault
interface_fault s (ty, interface fields implements) = interface_fields_fault s ty (declared_fault s ty fields implements) fields
interface_fault s _ = None

-- ---- group 6, unions: section 3.8

-- a member is an object
abbrev pub member_fault : Schema → (ty : Text) → Text → Option Fault
member_fault s ty member = fault_if (not (passes is_object (at_text member s.types))) (member_not_object ty member)

-- the first member of a union that is none; a type of another kind breaks no rule here
abbrev pub union_fault : Schema → Text × Definition → Option Fault
union_fault s (ty, union members) = first_in (member_fault s ty) members
union_fault s _ = None

-- ---- all groups

-- the groups in their order; within one, type by type in the order of registration
abbrev pub schema_tests : Schema → List (Option Fault)
schema_tests s =
    first_in name_fault s.types ∷
    existence_fault s ∷
    roots_fault s ∷
    first_in (object_fault s) s.types ∷
    first_in (input_fault s) s.types ∷
    first_in (interface_fault s) s.types ∷
    first_in (union_fault s) s.types ∷ []

-- the first broken rule
abbrev pub first_fault : Schema → Option Fault
first_fault s = first_of (schema_tests s)
