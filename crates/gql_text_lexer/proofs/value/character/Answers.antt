use Rattle.gql_text_lexer.proofs.Utf8.{unicode_scalar}
use Rattle.gql_text_lexer.proofs.value.character.Goals as goal

pub unreachable-requires : goal.unreachable-requires
unreachable-requires c = c.in-None.ensures.value (rw (c.hex_value-a.ensures.value, c.hex_value-b.ensures.value, c.hex_value-c.ensures.value, c.hex_value-d.ensures.value) (unicode_scalar c.args.a c.args.b c.args.c c.args.d c.requires))
