use Rattle.gql_text_lexer.specs.Lines.{in_one_line}
use Rattle.std.proofs.lemmas.List.Sums.{prefix_len-le-length}
use Rattle.gql_text_lexer.proofs.Blocks.{line_step}
use Rattle.gql_text_lexer.proofs.lines.first_line.Goals as goal

pub from-requires : goal.from-requires
from-requires c = rw c.line_len-len.ensures (prefix_len-le-length in_one_line c.args.text.now)

pub returns-clause-lines : goal.returns-clause-lines
returns-clause-lines c = rw (c.line_len-len.ensures, c.after_break.ensures, c.from.ensures, c.line_len-len.ensures) (line_step c.args.text.now)
