use Rattle.gql_text_lexer.proofs.Utf8.{block_utf8}
use Rattle.gql_text_lexer.proofs.lines.block_value.Goals as goal

pub into_text-requires : goal.into_text-requires
into_text-requires c = rw (c.in_ok-bytes.ensures, c.as_slice.ensures.value, c.in_ok-lines.ensures, c.as_bytes.ensures.value) (block_utf8 c.args.raw.now c.utf8.raw)
