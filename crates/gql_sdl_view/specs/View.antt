-- The view of a schema: what its text says, and nothing else. It holds no places. A view of a registry and one of a
-- document are made of plain parts in the same way.
use Rattle.std.specs.Prelude.{Bool, true, false, not, ◌&&◌, ◌||◌, if◌then◌else◌, List, [], Option, None, map, codes}
use Rattle.std.specs.List.{filter, list_any}
use Rattle.std.specs.Option.{is_some, option_map_or}
use Rattle.std.specs.Map.{values_of}
use Rattle.std.specs.Str.{bytes_eq}
use Rattle.gql_text_lexer.specs.Forms.{is_reserved}
use Rattle.gql_registry_meta.specs.Caching.{no_hint}
use Rattle.gql_registry_meta.specs.Parts.{Text, InputValue, Field, EnumValue, Directive, Meta, name_of, is_deprecated, is_among}
use Rattle.gql_registry_meta.specs.Parts.{scalar, object, interface, union, enum, input_object}
use Rattle.gql_registry.specs.Plain.{plain_input_value, plain_field, plain_value}
use Rattle.gql_registry.specs.Registry.{Contents, implements_listed}
use Rattle.gql_registry.specs.System.{system_scalars}
use Rattle.gql_sdl_view.specs.Options.{Options, Choice, registry_choice}
use Rattle.gql_sdl_view.specs.Ordered.{arranged, changed}

-- The names of the roots; the types in name order; for each of them, in the same order, the names that it implements; the
-- directive definitions in name order.
pub record View : Type 0 where
  pub query : Text
  pub mutation : Option Text
  pub subscription : Option Text
  pub types : List Meta
  pub implements : List (List Text)
  pub directives : List Directive

-- the names of the roots: section 3.3.1 of the GraphQL specification, October 2021
pub record Roots : Type 0 where
  pub query : Text
  pub mutation : Option Text
  pub subscription : Option Text

-- ---- members

-- an argument or an input field: its name, type, default, description, deprecation and uses
abbrev pub viewed_input_value : InputValue → InputValue
viewed_input_value value = record (plain_input_value value.name value.ty) {
  description = value.description;
  deprecation = value.deprecation;
  default_value = value.default_value;
  directive_invocations = value.directive_invocations;
}

-- the arguments of a field, sorted by name where that is asked
abbrev pub viewed_arguments : Choice → List (Text × InputValue) → List (Text × InputValue)
viewed_arguments choice args = arranged (λ arg. arg.1.name) choice.sorted_arguments (changed viewed_input_value args)

-- a field: its name, arguments, type, description, deprecation and uses
abbrev pub viewed_field : Choice → Field → Field
viewed_field choice field = record (plain_field field.name field.ty) {
  description = field.description;
  args = viewed_arguments choice field.args;
  deprecation = field.deprecation;
  directive_invocations = field.directive_invocations;
}

-- a field whose name begins with `__` is left out of a registry's view
abbrev pub is_kept : Choice → Field → Bool
is_kept choice field = choice.with_reserved || not (is_reserved field.name)

-- the fields of an object or an interface, sorted by name where that is asked
abbrev pub viewed_fields : Choice → List (Text × Field) → List (Text × Field)
viewed_fields choice fields = arranged (λ field. field.1.name) choice.sorted_fields (changed (viewed_field choice) (filter (λ field. is_kept choice field.1) fields))

-- an enum value: its name, description, deprecation and uses
abbrev pub viewed_value : EnumValue → EnumValue
viewed_value value = record (plain_value value.name) {
  description = value.description;
  deprecation = value.deprecation;
  directive_invocations = value.directive_invocations;
}

-- the values of an enum, sorted by name where that is asked
abbrev pub viewed_values : Choice → List (Text × EnumValue) → List (Text × EnumValue)
viewed_values choice values = arranged (λ value. value.1.name) choice.sorted_enum_items (changed viewed_value values)

-- the fields of an input object, sorted by name where that is asked
abbrev pub viewed_inputs : Choice → List (Text × InputValue) → List (Text × InputValue)
viewed_inputs choice inputs = arranged (λ input. input.1.name) choice.sorted_fields (changed viewed_input_value inputs)

-- ---- types

-- whether the type of this name is the root of subscriptions
abbrev pub is_named : Text → Option Text → Bool
is_named name root = option_map_or (bytes_eq name) root false

-- A type, with what its builder registers of each part that a view leaves out. The possible types of an interface are
-- left out: the objects that implement it tell them. An object is marked as a subscription where it is that root.
abbrev pub viewed_type : Choice → Option Text → Meta → Meta
viewed_type choice subscription (scalar type) = scalar (record {
  name = type.name;
  description = type.description;
  is_validated = false;
  visible = None;
  inaccessible = false;
  tags = [];
  specified_by_url = if choice.with_url then type.specified_by_url else None;
  directive_invocations = type.directive_invocations;
  requires_scopes = [];
})
viewed_type choice subscription (object type) = object (record {
  name = type.name;
  description = type.description;
  fields = viewed_fields choice type.fields;
  cache_control = no_hint;
  extends = false;
  shareable = false;
  resolvable = true;
  keys = None;
  visible = None;
  inaccessible = false;
  interface_object = false;
  tags = [];
  is_subscription = is_named type.name subscription;
  directive_invocations = type.directive_invocations;
  requires_scopes = [];
})
viewed_type choice subscription (interface type) = interface (record {
  name = type.name;
  description = type.description;
  fields = viewed_fields choice type.fields;
  possible_types = [];
  extends = false;
  keys = None;
  visible = None;
  inaccessible = false;
  tags = [];
  directive_invocations = type.directive_invocations;
  requires_scopes = [];
})
viewed_type choice subscription (union type) = union (record {
  name = type.name;
  description = type.description;
  possible_types = type.possible_types;
  visible = None;
  inaccessible = false;
  tags = [];
  directive_invocations = type.directive_invocations;
})
viewed_type choice subscription (enum type) = enum (record {
  name = type.name;
  description = type.description;
  enum_values = viewed_values choice type.enum_values;
  visible = None;
  inaccessible = false;
  tags = [];
  directive_invocations = type.directive_invocations;
  requires_scopes = [];
})
viewed_type choice subscription (input_object type) = input_object (record {
  name = type.name;
  description = type.description;
  input_fields = viewed_inputs choice type.input_fields;
  visible = None;
  inaccessible = false;
  tags = [];
  oneof = type.oneof;
  directive_invocations = type.directive_invocations;
})

-- ---- directive definitions

-- an argument of a directive: its name, type and default; its description, deprecation and uses are dropped
abbrev pub bare_argument : InputValue → InputValue
bare_argument value = record (plain_input_value value.name value.ty) { default_value = value.default_value }

-- a directive definition: section 3.13
abbrev pub viewed_directive : Directive → Directive
viewed_directive directive = record {
  name = directive.name;
  description = directive.description;
  locations = directive.locations;
  args = changed bare_argument directive.args;
  is_repeatable = directive.is_repeatable;
  visible = None;
  composable = None;
}

-- a field of an object, a root among them, or an enum value is deprecated
abbrev pub has_deprecated : Meta → Bool
has_deprecated (object type) = list_any (λ field. is_deprecated field.deprecation) (values_of type.fields)
has_deprecated (enum type) = list_any (λ value. is_deprecated value.deprecation) (values_of type.enum_values)
has_deprecated _ = false

-- a scalar has a URL
abbrev pub has_url : Meta → Bool
has_url (scalar type) = is_some type.specified_by_url
has_url _ = false

-- an input object has the mark `@oneOf`
abbrev pub has_one_of : Meta → Bool
has_one_of (input_object type) = type.oneof
has_one_of _ = false

-- The definitions of `deprecated`, `specifiedBy` and `oneOf` stand in a view only where a type needs them; every other
-- one stands in it.
abbrev pub is_needed : List Meta → Directive → Bool
is_needed types directive =
    if bytes_eq directive.name (codes "deprecated") then list_any has_deprecated types
    else if bytes_eq directive.name (codes "specifiedBy") then list_any has_url types
    else if bytes_eq directive.name (codes "oneOf") then list_any has_one_of types
    else true

-- the directive definitions that stand in a view of these types
abbrev pub needed : List Meta → List Directive → List Directive
needed types directives = filter (is_needed types) directives

-- ---- views

-- The view of these types, each with the names that it implements, and of those directive definitions that one of all
-- types needs. Types, names and directives are given in their order.
abbrev pub assembled : Choice → Roots → List Meta → List Meta → List (List Text) → List Directive → View
assembled choice roots all_types types implements directives = record {
  query = roots.query;
  mutation = roots.mutation;
  subscription = roots.subscription;
  types = map (viewed_type choice roots.subscription) types;
  implements = implements;
  directives = map viewed_directive (needed all_types directives);
}

-- a scalar with a name of one of the five that every schema has: section 3.5
abbrev pub is_system_scalar : Meta → Bool
is_system_scalar (scalar type) = is_among type.name (map name_of system_scalars)
is_system_scalar _ = false

-- a registry's view leaves out types whose names begin with `__`, and the system's scalars
abbrev pub is_shown : Meta → Bool
is_shown type = not (is_reserved (name_of type)) && not (is_system_scalar type)

-- the roots that a registry names
abbrev pub roots_of : Contents → Roots
roots_of contents = record { query = contents.query; mutation = contents.mutation; subscription = contents.subscription }

-- the types that a registry's view has, in name order
abbrev pub shown_types : Contents → List Meta
shown_types contents = filter is_shown (values_of contents.types)

-- The view of what a registry holds: its own directive definitions, to which the system's are not added. The types that
-- may need one are all of the registry's, with parts that the view leaves out.
abbrev pub view_of : Options → Contents → View
view_of o contents = assembled (registry_choice o) (roots_of contents) (values_of contents.types) (shown_types contents)
    (map (λ type. implements_listed (name_of type) contents.implements) (shown_types contents)) (values_of contents.directives)
