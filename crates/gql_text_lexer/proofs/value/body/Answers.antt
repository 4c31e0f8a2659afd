use Rattle.std.proofs.Common.{sym, ap, ◌∙◌}
use Rattle.gql_text_lexer.specs.declared.token.TokenKind.{TokenKind}
use Rattle.gql_text_lexer.specs.declared.token.Shape.TheVariants.{Token}
use Rattle.gql_text_lexer.proofs.Values.{quoted_long, block_long}
use Rattle.gql_text_lexer.proofs.value.body.Goals as goal

pub from-requires : goal.from-requires
from-requires c = quoted_long c.args.text.now c.in_ok-shape.shape c.in_ok-shape.rest.now (sym c.in_ok-shape.ensures) (c.in-Token.is ∙ ap (λ (k : TokenKind). Token k) c.in-Quoted.is)

pub from-requires-in-Block : goal.from-requires-in-Block
from-requires-in-Block c = block_long c.args.text.now c.in_ok-shape.shape c.in_ok-shape.rest.now (sym c.in_ok-shape.ensures) (c.in-Token.is ∙ ap (λ (k : TokenKind). Token k) c.in-Block.is)
