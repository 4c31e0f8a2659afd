-- The values of strings: section 2.9.4 of the GraphQL specification, October 2021.
use Rattle.std.specs.Prelude.{◌≡◌, ℕ, zero, suc, ◌==◌, Bool, true, false, if◌then◌else◌, List, [], ◌∷◌, drop, encode_utf8, Option, Some, None}
use Rattle.std.specs.List.{flat_map}
use Rattle.gql_text_lexer.specs.declared.string.Part.{Part}
use Rattle.gql_text_lexer.specs.declared.string.Part.TheVariants.{Plain, Escape, Unicode, Quotes}
use Rattle.gql_text_lexer.specs.Forms.{hex_code, is_unicode, IsString}
use Rattle.gql_text_lexer.specs.declared.token.TokenKind.TheVariants as kind
use Rattle.gql_text_lexer.specs.declared.token.Shape.{Shape}
use Rattle.gql_text_lexer.specs.declared.token.Shape.TheVariants.{Token}
use Rattle.gql_text_lexer.specs.Scan.{piece, part_at, after_closing, more_of}
use Rattle.gql_text_lexer.specs.Lines.{block_value}
use Rattle.gql_text_lexer.specs.Bytes.{quotation_mark}

-- the character that a letter stands for after a backslash: b backspace, f form feed, n LF, r CR, t tab, and else itself
abbrev pub escaped : ℕ → ℕ
escaped c = if c == 98 then 8 else (if c == 102 then 12 else (if c == 110 then 10 else (if c == 114 then 13 else (if c == 116 then 9 else c))))

-- what a part of a string stands for
abbrev pub part_value : Part → List ℕ
part_value (Plain b) = b ∷ []
part_value (Escape c) = escaped c ∷ []
part_value (Unicode a b c d) = encode_utf8 (hex_code a b c d)
part_value Quotes = quotation_mark ∷ quotation_mark ∷ quotation_mark ∷ []

-- the value of a text that is a quoted string, or a block string
pub data HasValue (text : List ℕ) (value : List ℕ) : Type 0 where
  Quoted : (parts : List Part) → IsString false parts text → value ≡ flat_map part_value parts → HasValue text value
  Block : (parts : List Part) → IsString true parts text → value ≡ block_value (flat_map part_value parts) → HasValue text value

-- ---- the reader's function

-- no part where the closing quotes stand, and else the part at the start and more
abbrev pub first_and : Option (List ℕ) → Option Part → (ℕ → List Part) → List Part
first_and (Some rest) part more = []
first_and None None more = []
first_and None (Some p) more = p ∷ more (more_of p)

-- the parts up to the closing quotes, of what is left after this many bytes
unfoldable pub parts_of : Bool → List ℕ → ℕ → List Part
parts_of block [] n = []
parts_of block (b ∷ bs) (suc n) = parts_of block bs n
parts_of block (b ∷ bs) zero = first_and (after_closing block (b ∷ bs)) (part_at block (b ∷ bs)) (parts_of block bs)

-- what a part needs for its value
abbrev pub IsPart : Part → Type 0
IsPart (Plain b) = Unit {0}
IsPart (Escape c) = Unit {0}
IsPart (Unicode a b c d) = is_unicode a b c d ≡ true
IsPart Quotes = Unit {0}

-- the value of the parts up to the closing quotes
abbrev pub unescaped : Bool → List ℕ → List ℕ
unescaped block text = flat_map part_value (parts_of block text 0)

-- for a string that is the whole text, whether it is a block string, and what stands after its opening quotes
abbrev pub body_at : Shape → List ℕ → List ℕ → Option (Bool × List ℕ)
body_at (Token kind.Quoted) [] text = Some (false, drop 1 text)
body_at (Token kind.Block) [] text = Some (true, drop 3 text)
body_at shape rest text = None

-- the same, for what the reader found
abbrev pub body_in : Option (Shape × List ℕ) → List ℕ → Option (Bool × List ℕ)
body_in None text = None
body_in (Some p) text = body_at p.0 p.1 text

-- whether the text is a block string, and what stands after its opening quotes
abbrev pub body : List ℕ → Option (Bool × List ℕ)
body text = body_in (piece text) text

-- the value of a quoted string, or of a block string, after its opening quotes
abbrev pub value_by : Bool → List ℕ → List ℕ
value_by false text = unescaped false text
value_by true text = block_value (unescaped true text)

-- the same, where there is a string
abbrev pub value_in : Option (Bool × List ℕ) → Option (List ℕ)
value_in None = None
value_in (Some p) = Some (value_by p.0 p.1)

-- the value of a text, if it is a string
unfoldable pub string_value : List ℕ → Option (List ℕ)
string_value text = value_in (body text)

-- the text, or no byte where there is none
abbrev pub or_empty : Option (List ℕ) → List ℕ
or_empty None = []
or_empty (Some text) = text

-- what the text of a string stands for, and no byte where the text is no string
abbrev pub string_text : List ℕ → List ℕ
string_text text = or_empty (string_value text)
