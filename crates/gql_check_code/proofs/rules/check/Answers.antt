use Rattle.std.proofs.Common.{◌≡◌, Option, None, Result, Ok, Err, OnOk}
use Rattle.gql_check_rules.specs.Faults.{Fault}
use Rattle.gql_dynamic.specs.Errors.{Tells}
use Rattle.gql_dynamic.specs.declared.schema_error.SchemaError.{SchemaError}
use Rattle.gql_check_code.specs.CheckedViews.{schema_of}
use Rattle.gql_check_code.proofs.rules.check.Goals as goal

-- what holds where no rule is broken holds after Ok
kept : {T P : Type 0} (r : Result T SchemaError) (first : Option Fault) → (first ≡ None → P) → Tells r first → OnOk r P
kept (Ok x) first none told = none told
kept (Err e) first none told = tt

pub returns-clause-finite : goal.returns-clause-finite
returns-clause-finite g c = kept _ _ (c.cycle_laws.ensures.sound (schema_of c.args.types.now)) c.check_groups.ensures
