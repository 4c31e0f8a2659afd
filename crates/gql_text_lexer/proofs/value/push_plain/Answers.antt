use Rattle.gql_text_lexer.proofs.Values.{value_plain}
use Rattle.gql_text_lexer.proofs.value.push_plain.Goals as goal

pub returns-clause-value : goal.returns-clause-value
returns-clause-value c = λ block. rw (c.in_ok-extend_from_slice.ensures.items, c.from.ensures) (value_plain block c.args.text.now c.args.out.now.items c.plain_len-len.result c.plain_len-len.ensures.len)
