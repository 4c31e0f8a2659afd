-- The tokens that are left of a text after a place, cut one by one.
use Rattle.std.specs.Prelude.{ℕ, zero, suc, ◌+◌, ◌-◌, List, [], ◌∷◌, ◌++◌, length, take, drop, Option, Some, None}
use Rattle.gql_text_lexer.specs.declared.token.Shape.{Shape}
use Rattle.gql_text_lexer.specs.Scan.{piece}
use Rattle.gql_text_lexer.specs.Tokens.{Lexeme, token_at}

-- tokens, and the place where they end
abbrev pub Left : Type 0
Left = List Lexeme × ℕ

-- a piece of these bytes at this place, and what is left after it
abbrev pub after_piece : Shape → List ℕ → ℕ → Left → Left
after_piece shape bytes at l = (token_at shape bytes at ++ l.0, l.1)

-- a token, and what is left after it
abbrev pub token_and : Lexeme → Left → Left
token_and t l = (t ∷ l.0, l.1)

-- by the piece at the start, if there is one
abbrev pub left_step : Option (Shape × List ℕ) → ℕ → List ℕ → (ℕ → List ℕ → Left) → Left
left_step None at text more = ([], at)
left_step (Some p) at text more = after_piece p.0 (take (length text - length p.1) text) at (more (at + (length text - length p.1)) p.1)

-- the tokens of these bytes, of which the first stands at this place; the number bounds the pieces
unfoldable pub left_from : ℕ → ℕ → List ℕ → Left
left_from zero at text = ([], at)
left_from (suc n) at text = left_step (piece text) at text (left_from n)

-- of the text from this place on
abbrev pub left_at : List ℕ → ℕ → Left
left_at text at = left_from (length text) at (drop at text)
