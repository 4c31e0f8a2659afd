use Rattle.std.proofs.Common.{false, sym, ◌∙◌, arith}
use Rattle.std.specs.Option.{option_copied}
use Rattle.gql_text.specs.DocumentOf.{head_of}
use Rattle.gql_check.specs.Recordings.{recorded_of}
use Rattle.gql_publish_load.proofs.Recordings.{scalar_recorded}
use Rattle.gql_publish_load.proofs.scalars.with_scalar.Goals as goal

pub returns : goal.returns
returns g c =
    let e = scalar_recorded (option_copied c.args.subscription) (recorded_of c.args.builder) (head_of c.args.description.now c.args.key.now c.args.uses.now) false (sym c.is_upload.ensures ∙ c.if-is_upload.false) in
    grind arith
