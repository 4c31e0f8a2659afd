use Rattle.std.proofs.Common.{sym, ◌∙◌}
use Rattle.gql_text.proofs.sdl.read_sdl.Goals as goal

pub returns-in_ok-to_document-in-Ok-clause-only : goal.returns-in_ok-to_document-in-Ok-clause-only
returns-in_ok-to_document-in-Ok-clause-only c d s = c.in-Ok.ensures.only d s ∙ sym c.in_ok-to_document-in-Ok.ensures
