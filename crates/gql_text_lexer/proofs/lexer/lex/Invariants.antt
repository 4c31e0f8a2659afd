use Rattle.std.proofs.Common.{length, map, ◌-◌}
use Rattle.gql_text_lexer.specs.Tokens.{lexeme_of}
use Rattle.gql_text_lexer.proofs.Lists.{SoFar}
use Rattle.gql_text_lexer.proofs.lexer.lex.Given as goal

abbrev pub invariant-pieces : goal.invariant-pieces
invariant-pieces l = SoFar l.text (map lexeme_of l.tokens.items) l.at

abbrev pub decreases-pieces : goal.decreases-pieces
decreases-pieces l = length l.text - l.at
