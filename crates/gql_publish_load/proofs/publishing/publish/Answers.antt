use Rattle.std.proofs.Common.{subst}
use Rattle.gql_sdl.specs.Values.{options_of}
use Rattle.gql_publish_document.specs.Verdict.{HasVerdict}
use Rattle.gql_publish_load.specs.Loading.{contents_of}
use Rattle.gql_publish_load.proofs.Publications.{published}
use Rattle.gql_publish_load.proofs.publishing.publish.Goals as goal

pub returns-in_ok-text-in-Ok-clause-published : goal.returns-in_ok-text-in-Ok-clause-published
returns-in_ok-text-in-Ok-clause-published g c =
    let loaded = c.in-Ok.ensures.valid in (
      loaded.0,
      loaded.1,
      published c.view_laws.ensures.view_stands c.canonical_laws.ensures.read_back c.canonical_laws.ensures.one_view (options_of c.args.options) c.args.bytes.now loaded.0 c.in_ok-text-in-Ok.text
          (contents_of c.in-Ok.schema) loaded.1 loaded.2.stands c.in_ok-text-in-Ok.ensures,
    )

pub returns-in_ok-text-in-Ok-clause-exactly : goal.returns-in_ok-text-in-Ok-clause-exactly
returns-in_ok-text-in-Ok-clause-exactly g c = λ verdict h.
    let loaded = c.in-Ok.ensures.only verdict h in (
      loaded.0,
      loaded.1,
      published c.view_laws.ensures.view_stands c.canonical_laws.ensures.read_back c.canonical_laws.ensures.one_view (options_of c.args.options) c.args.bytes.now loaded.0 c.in_ok-text-in-Ok.text
          (contents_of c.in-Ok.schema) (subst (HasVerdict c.args.bytes.now) loaded.1 h) loaded.2.stands c.in_ok-text-in-Ok.ensures,
    )
