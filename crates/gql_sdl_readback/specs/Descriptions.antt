-- Descriptions as block strings: section 2.9.4 of the GraphQL specification, October 2021.
use Rattle.std.specs.Prelude.{ℕ, ◌==◌, ◌||◌, ◌&&◌, not, Bool, false, if◌then◌else◌, List, [], ◌∷◌, ◌++◌, codes}
use Rattle.std.specs.List.{flat_map}
use Rattle.std.specs.Str.{bytes_eq}
use Rattle.gql_text_lexer.specs.Quoting.{quote}
use Rattle.gql_text_lexer.specs.Bytes.{line_feed, quotation_mark, is_source, all_of, quotes_at}
use Rattle.gql_text_lexer.specs.Lines.{block_value}

-- what opens and closes a block string
abbrev pub three_quotes : List ℕ
three_quotes = quotation_mark ∷ quotation_mark ∷ quotation_mark ∷ []

-- the text with the indent after each LF
abbrev pub indented : List ℕ → List ℕ → List ℕ
indented indent text = flat_map (λ b. b ∷ (if b == line_feed then indent else [])) text

-- what stands between the quotes of a block string: LF, and then the text and the closing quotes on lines of their own
abbrev pub block_inside : List ℕ → List ℕ → List ℕ
block_inside indent text = line_feed ∷ (indent ++ (indented indent text ++ line_feed ∷ indent))

-- the block string itself, without the indent before it
abbrev pub block_text : List ℕ → List ℕ → List ℕ
block_text indent text = three_quotes ++ (block_inside indent text ++ three_quotes)

-- somewhere three quotes stand in a row
abbrev pub has_three_quotes : List ℕ → Bool
has_three_quotes [] = false
has_three_quotes (b ∷ bs) = quotes_at 0 (b ∷ bs) || has_three_quotes bs

-- only source characters and no three quotes in a row stand inside, and the value is the text
abbrev pub is_permitted : List ℕ → List ℕ → Bool
is_permitted indent text = all_of is_source (block_inside indent text) && not (has_three_quotes (block_inside indent text)) && bytes_eq (block_value (block_inside indent text)) text

-- the text has a line break
abbrev pub has_line_feed : List ℕ → Bool
has_line_feed [] = false
has_line_feed (b ∷ bs) = b == line_feed || has_line_feed bs

-- a string of the text: quoted, where single lines are preferred and it is one, or where no block is permitted
abbrev pub string_of : Bool → List ℕ → List ℕ → List ℕ
string_of single indent text = if single && not (has_line_feed text) then quote text else (if is_permitted indent text then block_text indent text else quote text)

-- a description on lines of its own, after this indent
abbrev pub description_text : Bool → List ℕ → List ℕ → List ℕ
description_text single indent text = indent ++ (string_of single indent text ++ codes "\n")
