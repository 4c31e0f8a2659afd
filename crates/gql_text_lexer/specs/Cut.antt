-- One token or ignored part at the start of a text.
use Rattle.std.specs.Prelude.{ℕ, ◌<◌, ◌≤◌, List, length, take, drop}
use Rattle.gql_text_lexer.specs.declared.token.Shape.{Shape}
use Rattle.gql_text_lexer.specs.Forms.{IsPiece}

-- the first bytes of the text are a piece
pub record Cut (text : List ℕ) (shape : Shape) (n : ℕ) : Type 0 where
  pub some : 0 < n
  pub within : n ≤ length text
  pub is_piece : IsPiece shape (take n text) (drop n text)
