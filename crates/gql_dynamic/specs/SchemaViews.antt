-- What the types of the code stand for, and what a registry has after one is registered.
use Rattle.std.specs.Prelude.{◌≡◌, List, length, suc}
use Rattle.gql_dynamic_types.specs.TypeViews.{scalar_parts, object_parts, interface_parts, union_parts, enum_parts, input_object_parts, subscription_parts}
use Rattle.gql_registry.specs.Registry.{registry_of, types_of, lists_of, with_type, with_all_implements}
use Rattle.gql_registry.specs.declared.registry.Registry.{Registry}
use Rattle.gql_dynamic.specs.SchemaTypes.{type_name, type_meta, interfaces}
use Rattle.gql_dynamic.specs.SchemaTypes.{TypeParts, scalar, object, input_object, enum, interface, union, subscription, upload}
use Rattle.gql_dynamic.specs.declared.schema_type.SchemaType.{SchemaType}
use Rattle.gql_dynamic.specs.declared.schema_type.SchemaType.TheVariants as variant

-- What was said of a type. A scalar may have a function in it, so a type takes two arguments more, which belong to that function.
abbrev pub type_parts : {x g : _} → SchemaType x g → TypeParts
type_parts (variant.Scalar type) = scalar (scalar_parts type)
type_parts (variant.Object type) = object (object_parts type)
type_parts (variant.InputObject type) = input_object (input_object_parts type)
type_parts (variant.Enum type) = enum (enum_parts type)
type_parts (variant.Interface type) = interface (interface_parts type)
type_parts (variant.Union type) = union (union_parts type)
type_parts (variant.Subscription type) = subscription (subscription_parts type)
type_parts variant.Upload = upload

-- the registry has the type under its name, and notes the interfaces that it implements, in order
abbrev pub HasType : {x g : _} → TypeParts → Registry x g → Registry x g → Type 0
HasType type old new = registry_of new ≡ record (registry_of old) {
  types = with_type (types_of old) (type_meta type);
  implements = with_all_implements (type_name type) (lists_of old) (interfaces type);
}

-- the list has one item more
abbrev pub HasOneMore : {X : Type 0} → List X → List X → Type 0
HasOneMore old new = length new ≡ suc (length old)
