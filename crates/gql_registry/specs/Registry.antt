-- What a registry stands for, and what its calls make of that.
use Rattle.std.specs.Prelude.{◌≡◌, ◌≢◌, Bool, true, false, List, [], ◌∷◌, Option, None, fold}
use Rattle.std.specs.Option.{option_map, option_map_or, unwrap_or}
use Rattle.std.specs.List.{list_any, IsDistinct}
use Rattle.std.specs.Map.{set_value}
use Rattle.std.specs.Str.{bytes_eq}
use Rattle.gql_registry_meta.specs.Parts.{Text, at_text, Meta, name_of, Directive, with_sorted_entry}
use Rattle.gql_registry_meta.specs.Parts as meta
use Rattle.gql_registry_meta.specs.Views.{text_of}
pub use Rattle.gql_registry_meta.specs.Views.{names_of}
pub use Rattle.gql_registry_meta.specs.Parts.{with_name}
use Rattle.gql_registry.specs.Maps.{types_in, directives_in, lists_in}
use Rattle.gql_registry_meta.specs.declared.introspection_mode.IntrospectionMode.{IntrospectionMode}
use Rattle.gql_registry_meta.specs.declared.introspection_mode.IntrospectionMode.TheVariants.{Enabled}
use Rattle.gql_registry.specs.declared.registry.Registry.{Registry}

-- A schema as its registry keeps it: types, directives, and the names that a type implements, each under its name and in
-- name order; the names of the roots, section 3.3.1; and what is said of introspection and federation.
pub record Contents : Type 0 where
  pub types : List (Text × Meta)
  pub directives : List (Text × Directive)
  pub implements : List (Text × List Text)
  pub query : Text
  pub mutation : Option Text
  pub subscription : Option Text
  pub introspection : IntrospectionMode
  pub federation_subscription : Bool

-- the registry in which nothing stands, with introspection as it is from the start
abbrev pub empty : Contents
empty = record {
  types = [];
  directives = [];
  implements = [];
  query = [];
  mutation = None;
  subscription = None;
  introspection = Enabled;
  federation_subscription = false;
}

-- its types
abbrev pub types_of : {x g : _} → Registry x g → List (Text × Meta)
types_of registry = types_in registry.types

-- its definitions of directives
abbrev pub directives_of : {x g : _} → Registry x g → List (Text × Directive)
directives_of registry = directives_in registry.directives

-- the names that its types implement
abbrev pub lists_of : {x g : _} → Registry x g → List (Text × List Text)
lists_of registry = lists_in registry.implements

-- the name of the query root
abbrev pub query_of : {x g : _} → Registry x g → Text
query_of registry = text_of registry.query_type

-- all that the registry keeps
abbrev pub registry_of : {x g : _} → Registry x g → Contents
registry_of registry = record {
  types = types_of registry;
  directives = directives_of registry;
  implements = lists_of registry;
  query = query_of registry;
  mutation = option_map text_of registry.mutation_type;
  subscription = option_map text_of registry.subscription_type;
  introspection = registry.introspection_mode;
  federation_subscription = registry.federation_subscription;
}

-- ---- changes

-- the registry keeps what it kept
abbrev pub IsUnchanged : {x g : _} → Registry x g → Registry x g → Type 0
IsUnchanged old new = registry_of new ≡ registry_of old

-- what stands under other names stays
abbrev pub KeepsOthers : {X : Type 0} → Text → List (Text × X) → List (Text × X) → Type 0
KeepsOthers name old new = (other : Text) → other ≢ name → at_text other new ≡ at_text other old

-- the types with one more, under its name, in the place of one that stood there
abbrev pub with_type : List (Text × Meta) → Meta → List (Text × Meta)
with_type types type = with_sorted_entry types (name_of type) type

-- the types with others, each in turn
abbrev pub with_types : List (Text × Meta) → List Meta → List (Text × Meta)
with_types types [] = types
with_types types (type ∷ more) = with_types (with_type types type) more

-- the directives with one more, in the same way
abbrev pub with_directive : List (Text × Directive) → Directive → List (Text × Directive)
with_directive directives directive = with_sorted_entry directives directive.name directive

-- the names that a type implements
abbrev pub implements_listed : Text → List (Text × List Text) → List Text
implements_listed type lists = unwrap_or (at_text type lists) []

-- a name is among names of which no two are the same
abbrev pub HasOnce : List Text → Text → Type 0
HasOnce names name = IsDistinct bytes_eq names × (list_any (bytes_eq name) names ≡ true)

-- a type implements the interface, and no name stands twice in its list
abbrev pub ImplementsOnce : Text → List (Text × List Text) → Text → Type 0
ImplementsOnce type lists interface = HasOnce (implements_listed type lists) interface

-- the lists with this one for a type, in the place of the one that it had
abbrev pub with_list : Text → List (Text × List Text) → List Text → List (Text × List Text)
with_list type lists names = option_map_or (λ _. set_value (bytes_eq type) lists names) (at_text type lists) (with_sorted_entry lists type names)

-- the lists, after a type implements one interface more
abbrev pub with_implements : Text → List (Text × List Text) → Text → List (Text × List Text)
with_implements type lists interface = with_list type lists (with_name (implements_listed type lists) interface)

-- the same with several interfaces, each in turn
abbrev pub with_all_implements : Text → List (Text × List Text) → List Text → List (Text × List Text)
with_all_implements type lists interfaces = fold (with_implements type) lists interfaces

-- an interface or a union with a possible type more: one that was among them stays where it is, and a new one goes last;
-- any other type as it is
abbrev pub with_possible : Text → Meta → Meta
with_possible name (meta.interface type) = meta.interface (record type { possible_types = with_name type.possible_types name })
with_possible name (meta.union type) = meta.union (record type { possible_types = with_name type.possible_types name })
with_possible name type = type

-- the types, where the one under the name is changed
abbrev pub changed_at : Text → (Meta → Meta) → List (Text × Meta) → List (Text × Meta)
changed_at name change types = option_map_or (λ type. set_value (bytes_eq name) types (change type)) (at_text name types) types

-- the types, where the one under the first name has the second as a possible type more if it is an interface or a union
abbrev pub with_possible_type : Text → List (Text × Meta) → Text → List (Text × Meta)
with_possible_type name types possible = changed_at name (with_possible possible) types
