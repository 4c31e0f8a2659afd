-- The kinds that a field and an argument may have are those of the rules.
use Rattle.std.proofs.Common.{◌≡◌, refl}
use Rattle.gql_dynamic.specs.SchemaTypes.{TypeParts, scalar, object, input_object, enum, interface, union, subscription, upload}
use Rattle.gql_dynamic.specs.SchemaTypes as built
use Rattle.gql_check_rules.specs.Schema as rules
use Rattle.gql_check_code.specs.Definitions.{definition}

pub is_output-same : (type : TypeParts) → built.is_output type ≡ rules.is_output (definition type)
is_output-same (scalar type) = refl
is_output-same (object type) = refl
is_output-same (input_object type) = refl
is_output-same (enum type) = refl
is_output-same (interface type) = refl
is_output-same (union type) = refl
is_output-same (subscription type) = refl
is_output-same upload = refl

pub is_input-same : (type : TypeParts) → built.is_input type ≡ rules.is_input (definition type)
is_input-same (scalar type) = refl
is_input-same (object type) = refl
is_input-same (input_object type) = refl
is_input-same (enum type) = refl
is_input-same (interface type) = refl
is_input-same (union type) = refl
is_input-same (subscription type) = refl
is_input-same upload = refl
