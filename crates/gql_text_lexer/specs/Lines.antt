-- The value of a block string, step for step: section 2.9.4 of the GraphQL specification, October 2021, BlockStringValue.
use Rattle.std.specs.Prelude.{ℕ, ◌==◌, ◌||◌, ◌&&◌, not, min, Bool, true, false, if◌then◌else◌, List, [], ◌∷◌, ◌++◌, map, drop, Option, Some, None}
use Rattle.std.specs.List.{prefix_len}
use Rattle.gql_text_lexer.specs.Bytes.{space, tab, line_feed, carriage_return, all_of}

-- space and tab
abbrev pub is_white : ℕ → Bool
is_white b = b == space || b == tab

-- ---- split at LF, CR LF and CR

-- a byte before the first line
abbrev pub onto_first : ℕ → List (List ℕ) → List (List ℕ)
onto_first b [] = (b ∷ []) ∷ []
onto_first b (line ∷ lines) = (b ∷ line) ∷ lines

-- the lines of a text; after a CR, an LF belongs to it
abbrev pub lines_after : Bool → List ℕ → List (List ℕ)
lines_after cr [] = [] ∷ []
lines_after cr (b ∷ bs) =
    if b == line_feed then (if cr then lines_after false bs else [] ∷ lines_after false bs)
    else (if b == carriage_return then [] ∷ lines_after true bs else onto_first b (lines_after false bs))

-- the lines of a text
abbrev pub lines : List ℕ → List (List ℕ)
lines text = lines_after false text

-- ---- the common indent

-- only spaces and tabs
abbrev pub is_blank_line : List ℕ → Bool
is_blank_line line = all_of is_white line

-- the lesser of a number and another one, if there is one
abbrev pub least : ℕ → Option ℕ → Option ℕ
least n None = Some n
least n (Some m) = Some (min n m)

-- the lesser of the least indent so far and that of a further line; a blank line does not count
abbrev pub with_line : Option ℕ → List ℕ → Option ℕ
with_line best line = if is_blank_line line then best else least (prefix_len is_white line) best

-- the least count of leading spaces and tabs over the lines that have another character
abbrev pub common : List (List ℕ) → Option ℕ
common [] = None
common (line ∷ lines) = if is_blank_line line then common lines else least (prefix_len is_white line) (common lines)

-- a line without this many bytes; all of it goes where it has fewer
abbrev pub cut : Option ℕ → List ℕ → List ℕ
cut None line = line
cut (Some n) line = drop n line

-- each line but the first without the common indent of these
abbrev pub unindented : List (List ℕ) → List (List ℕ)
unindented [] = []
unindented (first ∷ lines) = first ∷ map (cut (common lines)) lines

-- ---- the lines that are left

-- without the blank lines at the start
abbrev pub trim_start : List (List ℕ) → List (List ℕ)
trim_start [] = []
trim_start (line ∷ lines) = if is_blank_line line then trim_start lines else line ∷ lines

-- a blank line stays only where a line stays after it
abbrev pub before_rest : List ℕ → List (List ℕ) → List (List ℕ)
before_rest line [] = if is_blank_line line then [] else line ∷ []
before_rest line (next ∷ lines) = line ∷ next ∷ lines

-- without the blank lines at the end
abbrev pub trim_end : List (List ℕ) → List (List ℕ)
trim_end [] = []
trim_end (line ∷ lines) = before_rest line (trim_end lines)

-- each line with LF before it
abbrev pub joined : List (List ℕ) → List ℕ
joined [] = []
joined (line ∷ lines) = line_feed ∷ (line ++ joined lines)

-- the lines with LF between them
abbrev pub join : List (List ℕ) → List ℕ
join [] = []
join (line ∷ lines) = line ++ joined lines

-- the value of a block string in which `\"""` was replaced
unfoldable pub block_value : List ℕ → List ℕ
block_value text = join (trim_end (trim_start (unindented (lines text))))

-- ---- the reader's functions

-- neither LF nor CR
abbrev pub in_one_line : ℕ → Bool
in_one_line b = not (b == line_feed) && not (b == carriage_return)

-- after an LF at the start, if one is there
abbrev pub after_lf : List ℕ → List ℕ
after_lf [] = []
after_lf (b ∷ bs) = if b == line_feed then bs else b ∷ bs

-- after the line break at the start
abbrev pub after_break : List ℕ → Option (List ℕ)
after_break [] = None
after_break (b ∷ bs) = if b == line_feed then Some bs else (if b == carriage_return then Some (after_lf bs) else None)

-- the lines after a line break
abbrev pub more_lines : Option (List ℕ) → List (List ℕ)
more_lines None = []
more_lines (Some rest) = lines rest
