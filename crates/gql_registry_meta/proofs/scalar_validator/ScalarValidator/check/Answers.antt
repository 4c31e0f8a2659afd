use Rattle.std.proofs.Common.{refl}
use Rattle.std.proofs.lemmas.Fn.{says_at}
use Rattle.gql_registry_meta.proofs.scalar_validator.ScalarValidator.check.Goals as goal

pub returns : goal.returns
returns g c = says_at _ c.accepts.ensures.0 refl
