-- The tests of the values of scalars.
use Rattle.gql_registry_meta.specs.declared.scalar_validator.ScalarValidator.{ScalarValidator}

-- the function that a validator asks
abbrev pub asked : {x g : _} → ScalarValidator x g → x
asked validator = validator.accepts
