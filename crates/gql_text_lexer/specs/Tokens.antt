-- Texts as runs of tokens and ignored parts: section 2.1 of the GraphQL specification, October 2021.
use Rattle.std.specs.Prelude.{◌≡◌, ◌<◌, ◌≤◌, ℕ, ◌+◌, List, [], ◌∷◌, ◌++◌, length, take, drop, Option, Some, None}
use Rattle.gql_text_lexer.specs.declared.token.TokenKind.{TokenKind}
use Rattle.gql_text_lexer.specs.declared.token.TokenKind.TheVariants as kind
use Rattle.gql_text_lexer.specs.declared.token.Shape.{Shape}
use Rattle.gql_text_lexer.specs.declared.token.Shape.TheVariants.{Ignored, Token}
use Rattle.gql_text_lexer.specs.declared.token.Token as declared
use Rattle.gql_text_lexer.specs.Forms.{IsPiece}

-- a token or an ignored part, and its bytes
pub record Piece : Type 0 where
  pub shape : Shape
  pub bytes : List ℕ

-- the text is these pieces, and then the rest
abbrev pub Runs : List Piece → List ℕ → List ℕ → Type 0
Runs [] text rest = text ≡ rest
Runs (p ∷ ps) text rest = (after : List ℕ) × (text ≡ p.bytes ++ after) × IsPiece p.shape p.bytes after × Runs ps after rest

-- a token with its kind, its bytes and its place in the text
pub record Lexeme : Type 0 where
  pub kind : TokenKind
  pub text : List ℕ
  pub at : ℕ

-- the token of a piece at this place, if it is one
abbrev pub token_at : Shape → List ℕ → ℕ → List Lexeme
token_at Ignored bytes at = []
token_at (Token k) bytes at = record { kind = k; text = bytes; at = at } ∷ []

-- the tokens among the pieces, of which the first stands at this place
abbrev pub tokens_at : ℕ → List Piece → List Lexeme
tokens_at at [] = []
tokens_at at (p ∷ ps) = token_at p.shape p.bytes at ++ tokens_at (at + length p.bytes) ps

-- the text has these tokens up to a place
pub record HasTokens (text : List ℕ) (tokens : List Lexeme) (place : ℕ) : Type 0 where
  pub pieces : List Piece
  pub rest : List ℕ
  pub runs : Runs pieces text rest
  pub listed : tokens ≡ tokens_at 0 pieces
  pub up_to : place + length rest ≡ length text

-- a token of the code as a clause sees it
abbrev pub lexeme_of : declared.Token → Lexeme
lexeme_of t = record { kind = t.kind; text = t.text.now; at = t.at }

-- each token is the slice of the text at its place, of the form of its kind, and begins at this place or after it
abbrev pub AreSlices : List ℕ → ℕ → List Lexeme → Type 0
AreSlices text from [] = Unit {0}
AreSlices text from (t ∷ ts) = (from ≤ t.at) × (0 < length t.text) × (t.at + length t.text ≤ length text) × (take (length t.text) (drop t.at text) ≡ t.text)
    × IsPiece (Token t.kind) t.text (drop (t.at + length t.text) text) × AreSlices text (t.at + length t.text) ts

-- the place where the tokens end
abbrev pub place_of : Option ℕ → List ℕ → ℕ
place_of None text = length text
place_of (Some at) text = at

-- the whole text is one token, a quoted string
abbrev pub IsOneQuoted : List ℕ → Type 0
IsOneQuoted text = HasTokens text (record { kind = kind.Quoted; text = text; at = 0 } ∷ []) (length text)
