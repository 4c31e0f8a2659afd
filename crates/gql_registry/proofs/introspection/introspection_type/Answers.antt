-- The rows of the tables are those of the definitions, which is found by computing both.
use Rattle.gql_registry.specs.Introspection.{schema_type, type_type, field_type, input_value_type, enum_value_type, directive_type, type_kind_type, directive_location_type}
use Rattle.gql_registry.specs.Tables.{type_at}
use Rattle.gql_registry.proofs.introspection.introspection_type.Goals as goal

pub returns-in-Schema : goal.returns-in-Schema
unfolding type_at schema_type
returns-in-Schema g c = rw c.in-Schema.is c.object_of.ensures

pub returns-in-Type : goal.returns-in-Type
unfolding type_at type_type
returns-in-Type g c = rw c.in-Type.is c.object_of-in-Type.ensures

pub returns-in-Field : goal.returns-in-Field
unfolding type_at field_type
returns-in-Field g c = rw c.in-Field.is c.object_of-in-Field.ensures

pub returns-in-InputValue : goal.returns-in-InputValue
unfolding type_at input_value_type
returns-in-InputValue g c = rw c.in-InputValue.is c.object_of-in-InputValue.ensures

pub returns-in-EnumValue : goal.returns-in-EnumValue
unfolding type_at enum_value_type
returns-in-EnumValue g c = rw c.in-EnumValue.is c.object_of-in-EnumValue.ensures

pub returns-in-Directive : goal.returns-in-Directive
unfolding type_at directive_type
returns-in-Directive g c = rw c.in-Directive.is c.object_of-in-Directive.ensures

pub returns-in-TypeKind : goal.returns-in-TypeKind
unfolding type_at type_kind_type
returns-in-TypeKind g c = rw c.in-TypeKind.is c.enumeration.ensures

pub returns-in-DirectiveLocation : goal.returns-in-DirectiveLocation
unfolding type_at directive_location_type
returns-in-DirectiveLocation g c = rw c.in-DirectiveLocation.is c.enumeration-in-DirectiveLocation.ensures
