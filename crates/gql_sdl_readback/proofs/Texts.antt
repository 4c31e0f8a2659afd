-- What a text says, and what a tree keeps of the tokens that spell it.
use Rattle.std.specs.Prelude.{◌≡◌, ℕ, Bool, true, not, ◌&&◌, ◌==◌, nat_lt, List, map, ◌++◌}
use Rattle.std.specs.List.{AllByRecursion}
use Rattle.gql_grammar.specs.Form.{Terminal, Form, among}
use Rattle.gql_text_lexer.specs.Bytes.{quotation_mark}
use Rattle.gql_text_lexer.specs.Forms.{IsName}
use Rattle.gql_text_lexer.specs.Tokens.{Piece, Runs, tokens_at}
use Rattle.gql_text_lexer.specs.Whole.{IsWithin, whole_value}
use Rattle.gql_text_syntax.specs.Sorts.{code, names, name_sort, terminal_of}
use Rattle.gql_text_syntax.specs.declared.sort.Sort.TheVariants.{WholeNumber}

-- the terminals among pieces, of which the first stands at this place
abbrev pub terminals_at : ℕ → List Piece → List Terminal
terminals_at at pieces = map terminal_of (tokens_at at pieces)

-- Before this rest the text is pieces, and wherever it stands their tokens spell a tree of the form that meets the
-- condition.
pub record Says {A : Type 0} (f : Form A) (Is : A → Type 0) (text rest : List ℕ) : Type 0 where
  pub pieces : List Piece
  pub runs : Runs pieces (text ++ rest) rest
  pub tree : (at : ℕ) → (a : A) × f.spells a (terminals_at at pieces) × Is a

-- the text of a terminal is of the form of its sort
pub record FitsSort (t : Terminal) : Type 0 where
  pub name : among t.sort names ≡ true → IsName t.text
  pub sort : among t.sort names ≡ true → t.sort ≡ name_sort t.text
  pub number : t.sort ≡ code WholeNumber → IsWithin (whole_value t.text)

-- some terminals that fit spell the tree
pub record Spelled {A : Type 0} (f : Form A) (a : A) : Type 0 where
  pub terminals : List Terminal
  pub spells : f.spells a terminals
  pub fit : AllByRecursion FitsSort terminals

-- each tree of the form has this, where the terminals that spell it fit
pub record Keeps {A : Type 0} (f : Form A) (Has : A → Type 0) : Type 0 where
  pub each : (a : A) (ts : List Terminal) → f.spells a ts → AllByRecursion FitsSort ts → Has a

-- an ASCII byte other than a quotation mark
abbrev pub is_unquoted : ℕ → Bool
is_unquoted b = nat_lt b 128 && not (b == quotation_mark)
