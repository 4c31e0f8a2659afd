-- Types of which no more is said than a name and a kind.
use Rattle.std.specs.Prelude.{false, [], None}
use Rattle.gql_registry_meta.specs.Parts.{Text, Meta, interface, union, input_object}
use Rattle.gql_registry_meta.specs.declared.type_id.MetaTypeId.{MetaTypeId}
use Rattle.gql_registry_meta.specs.declared.type_id.MetaTypeId.TheVariants as kind
use Rattle.gql_registry.specs.Plain.{plain_scalar, plain_object, plain_enum}

-- an interface without fields, which no object implements
abbrev pub plain_interface : Text → Meta
plain_interface name = interface (record {
  name = name;
  description = None;
  fields = [];
  possible_types = [];
  extends = false;
  keys = None;
  visible = None;
  inaccessible = false;
  tags = [];
  directive_invocations = [];
  requires_scopes = [];
})

-- a union without members
abbrev pub plain_union : Text → Meta
plain_union name = union (record {
  name = name;
  description = None;
  possible_types = [];
  visible = None;
  inaccessible = false;
  tags = [];
  directive_invocations = [];
})

-- an input object without fields
abbrev pub plain_input_object : Text → Meta
plain_input_object name = input_object (record {
  name = name;
  description = None;
  input_fields = [];
  visible = None;
  inaccessible = false;
  tags = [];
  oneof = false;
  directive_invocations = [];
})

-- the empty type of a kind, which stands under a name while a type of that name is made
abbrev pub placeholder : Text → MetaTypeId → Meta
placeholder name kind.Scalar = plain_scalar name
placeholder name kind.Object = plain_object name []
placeholder name kind.Interface = plain_interface name
placeholder name kind.Union = plain_union name
placeholder name kind.Enum = plain_enum name []
placeholder name kind.InputObject = plain_input_object name
