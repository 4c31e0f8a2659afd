use Rattle.std.proofs.Common.{sym, ap, ◌∙◌}
use Rattle.gql_check_rules.specs.Rules.{first_fault}
use Rattle.gql_check_code.specs.Definitions.{schema}
use Rattle.gql_check.specs.Recorded.{Recorded}
use Rattle.gql_check.specs.Recordings.{recorded_of}
use Rattle.gql_publish_load.proofs.Recordings.{refused_by}
use Rattle.gql_publish_load.proofs.loading.finished.Goals as goal

pub returns-in-Ok-clause-valid : goal.returns-in-Ok-clause-valid
returns-in-Ok-clause-valid g c = ap (λ (r : Recorded). first_fault (schema r.schema)) (sym c.in_ok-full.ensures) ∙ c.in-Ok.ensures.rules

pub returns-in-Ok-clause-recorded : goal.returns-in-Ok-clause-recorded
returns-in-Ok-clause-recorded g c = c.in-Ok.ensures.recorded ∙ c.in_ok-full.ensures

pub returns-in-Err-clause-refused : goal.returns-in-Err-clause-refused
returns-in-Err-clause-refused g c =
    refused_by c.args.document c.in-Err.error c.from.result (first_fault (schema (recorded_of c.in_ok-full.full).schema)) (ap (λ (r : Recorded). first_fault (schema r.schema)) c.in_ok-full.ensures) c.in-Err.ensures.rules c.from.ensures
