use Rattle.std.proofs.Common.{sym, ap, ◌∙◌}
use Rattle.gql_check_rules.specs.Rules.{first_fault}
use Rattle.gql_check_code.specs.Definitions.{schema}
use Rattle.gql_check.specs.Recorded.{Recorded}
use Rattle.gql_check.specs.Recordings.{recorded_of}
use Rattle.gql_publish_load.proofs.Recordings.{refused_by}
use Rattle.gql_publish_load.proofs.canonical.document_text.Goals as goal

pub returns-in-Ok-clause-valid : goal.returns-in-Ok-clause-valid
returns-in-Ok-clause-valid c = ap (λ (r : Recorded). first_fault (schema r.schema)) (sym c.in_ok-full.ensures) ∙ c.in-Ok.ensures.first

pub returns-in-Ok-clause-text : goal.returns-in-Ok-clause-text
returns-in-Ok-clause-text c =
    c.in_ok-text-in-Ok.ensures c.args.document c.requires (ap (λ (r : Recorded). first_fault (schema r.schema)) (sym c.in_ok-full.ensures) ∙ c.in-Ok.ensures.first) c.in_ok-full.ensures

pub returns-clause-refused : goal.returns-clause-refused
returns-clause-refused c =
    refused_by c.args.document c.in-Err.error c.from.result (first_fault (schema (recorded_of c.in_ok-full.full).schema)) (ap (λ (r : Recorded). first_fault (schema r.schema)) c.in_ok-full.ensures) c.in-Err.ensures.first c.from.ensures
