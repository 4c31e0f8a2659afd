-- The terminals that a cursor has before it, and what is known of their texts.
use Rattle.std.specs.Prelude.{◌≡◌, ◌≤◌, refl, ℕ, true, List, [], ◌∷◌, ◌++◌, map, length, nat_lt, if◌then◌else◌}
use Rattle.std.specs.Coded.{Coded, code_by, coded×, coded_ℕ, coded_list}
use Rattle.gql_grammar.specs.Form.{Terminal, among, end_of_text, no_token}
use Rattle.gql_text_lexer.specs.Forms.{IsName, IsWhole}
use Rattle.gql_text_lexer.specs.Left.{Left, left_at}
use Rattle.gql_text_lexer.specs.Whole.{IsWithin, whole_value}
use Rattle.gql_text_lexer.specs.declared.token.TokenKind.{TokenKind}
use Rattle.gql_text_lexer.specs.declared.token.TokenKind.TheVariants as kind
use Rattle.gql_text_syntax.specs.declared.cursor.Terminal as read
use Rattle.gql_text_syntax.specs.declared.cursor.Cursor.TheInside.{Inside}
use Rattle.gql_text_syntax.specs.Sorts.{names, ends, code, terminal_of, end_terminal}
use Rattle.gql_text_syntax.specs.declared.sort.Sort.TheVariants.{WholeNumber}
use Rattle.gql_text_syntax.specs.Reads.{terminal}

-- terminals are coded by their parts
abbrev pub terminal_code : Coded Terminal
terminal_code = code_by (ℕ × (List ℕ × ℕ)) (coded× coded_ℕ (coded× (coded_list coded_ℕ) coded_ℕ)) (λ t. (t.sort, (t.text, t.at))) (λ p. record { sort = p.0; text = p.1.0; at = p.1.1 }) (λ _. refl)

-- what stands at this place, where the tokens end
abbrev pub end_here : List ℕ → ℕ → Terminal
end_here text place = end_terminal (if nat_lt place (length text) then no_token else end_of_text) place

-- tokens, and what stands where they end
abbrev pub terminals : List ℕ → Left → List Terminal
terminals text l = map terminal_of l.0 ++ end_here text l.1 ∷ []

-- the terminals of a text from this place on: the tokens, and the end after them
abbrev pub terminals_at : List ℕ → ℕ → List Terminal
terminals_at text at = terminals text (left_at text at)

-- the next terminal, and those after it
abbrev pub left_by : read.Terminal → List ℕ → ℕ → List Terminal
left_by here text at = terminal here ∷ (if among (code here.sort) ends then [] else terminals_at text at)

-- the terminals that a cursor has before it
abbrev pub left_of : Inside → List Terminal
left_of c = left_by c.here c.text.now c.after

-- the text of a token is of the form of its kind
abbrev pub FitsKind : TokenKind → List ℕ → Type 0
FitsKind kind.Name text = IsName text
FitsKind kind.Whole text = IsWhole text
FitsKind _ text = Unit {0}

-- the text of a terminal is of the form of its sort
pub record FitsSort (t : read.Terminal) : Type 0 where
  pub name : among (code t.sort) names ≡ true → IsName t.text.now
  pub whole : code t.sort ≡ code WholeNumber → IsWhole t.text.now
  pub within : code t.sort ≡ code WholeNumber → IsWithin (whole_value t.text.now)

-- the next terminal is in order, and those after it are cut within the text
pub record IsReady (c : Inside) : Type 0 where
  pub here : FitsSort c.here
  pub within : c.after ≤ length c.text.now
