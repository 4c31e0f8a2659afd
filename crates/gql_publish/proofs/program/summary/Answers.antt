use Rattle.std.proofs.Common.{◌≡◌, List, ℕ, Ok, string_bytes, length, sym, ap₂, ◌∙◌, subst}
use Rattle.gql_text.specs.declared.document.Document.{Document}
use Rattle.gql_sdl.specs.Values.{options_of}
use Rattle.gql_publish_document.specs.Verdict.{HasVerdict}
use Rattle.gql_publish_sample.specs.Sample.{sample}
use Rattle.gql_publish.specs.Requests.{sample_summary, summary_line}
use Rattle.gql_publish.proofs.Tellings.{if_ok}
use Rattle.gql_publish.proofs.program.summary.Goals as goal

pub valid_text-requires : goal.valid_text-requires
valid_text-requires c =
    subst (λ (t : List ℕ). (d : Document) × HasVerdict t (Ok d)) (sym (c.as_bytes.ensures.value ∙ c.in_ok-sample.ensures)) (c.sample_laws.ensures c.args.types c.requires.least c.requires.most)

pub returns : goal.returns
returns c =
    let text = c.in_ok-text.ensures in
    let valid : HasVerdict (sample c.args.types) (Ok text.0) = subst (λ (t : List ℕ). HasVerdict t (Ok text.0)) (c.as_bytes.ensures.value ∙ c.in_ok-sample.ensures) text.1 in
    if_ok c.summary_line.result (λ line. string_bytes line ≡ summary_line c.args.types (length c.as_str.result.now) (length c.as_str-2.result.now))
    (λ line. (d : Document) × HasVerdict (sample c.args.types) (Ok d) × (string_bytes line ≡ sample_summary (options_of c.args.options) c.args.types d)) c.summary_line.ensures
    (λ line h. (
      text.0,
      valid,
      h ∙ ap₂ (λ (from to : List ℕ). summary_line c.args.types (length from) (length to)) (c.as_str.ensures.value ∙ c.in_ok-sample.ensures) (c.as_str-2.ensures.value ∙ text.2),
    ))
