-- The reader's functions. Each gives what stands after the form at the start.
use Rattle.std.specs.Prelude.{ℕ, zero, suc, Bool, true, false, ◌||◌, ◌&&◌, ◌==◌, if◌then◌else◌, List, [], ◌∷◌, length, drop, slice_index, Option, Some, None, option_and_then}
use Rattle.gql_text_lexer.specs.declared.string.Part.{Part}
use Rattle.gql_text_lexer.specs.declared.string.Part.TheVariants.{Plain, Escape, Unicode, Quotes}
use Rattle.gql_text_lexer.specs.declared.token.TokenKind.{TokenKind}
use Rattle.gql_text_lexer.specs.declared.token.TokenKind.TheVariants as kind
use Rattle.gql_text_lexer.specs.declared.token.Shape.{Shape}
use Rattle.gql_text_lexer.specs.declared.token.Shape.TheVariants.{Ignored, Token}
use Rattle.gql_text_lexer.specs.declared.piece.Class.{Class}
use Rattle.gql_text_lexer.specs.declared.piece.Class.TheVariants as cls
use Rattle.gql_text_lexer.specs.Bytes.{quotation_mark, number_sign, hyphen, full_stop, backslash, is_e, is_minus, is_sign, begins_name, is_digit, goes_on_name, goes_on_number, is_blank, is_punctuator, in_line, is_source, is_plain, is_escape, ends_before, quotes_at}
use Rattle.gql_text_lexer.specs.Forms.{is_unicode}

-- after the longest run
abbrev pub after_run : (ℕ → Bool) → List ℕ → List ℕ
after_run p [] = []
after_run p (b ∷ bs) = if p b then after_run p bs else b ∷ bs

-- after the first byte, if it is one of these
abbrev pub after_one : (ℕ → Bool) → List ℕ → List ℕ
after_one p [] = []
after_one p (b ∷ bs) = if p b then bs else b ∷ bs

-- ---- numbers

-- one digit or more
abbrev pub digits : List ℕ → Option (List ℕ)
digits [] = None
digits (b ∷ bs) = if is_digit b then Some (after_run is_digit bs) else None

-- a `0`, or digits
abbrev pub integer : List ℕ → Option (List ℕ)
integer [] = None
integer (b ∷ bs) = if b == 48 then Some bs else digits (b ∷ bs)

-- a dot and digits, if a dot is there
abbrev pub fraction : List ℕ → Option (List ℕ)
fraction [] = Some []
fraction (b ∷ bs) = if b == full_stop then digits bs else Some (b ∷ bs)

-- `e`, a sign and digits, if an `e` is there
abbrev pub exponent : List ℕ → Option (List ℕ)
exponent [] = Some []
exponent (b ∷ bs) = if is_e b then digits (after_one is_sign bs) else Some (b ∷ bs)

-- the kind of a number by what stands after its integer part, and after all of it
abbrev pub number_ends : List ℕ → List ℕ → Option (TokenKind × List ℕ)
number_ends whole rest = if ends_before goes_on_number rest then Some ((if length rest == length whole then kind.Whole else kind.Float), rest) else None

-- what goes on after the integer part
unfoldable pub number_tail : List ℕ → Option (TokenKind × List ℕ)
number_tail whole = option_and_then (number_ends whole) (option_and_then exponent (fraction whole))

-- a whole number or a float
unfoldable pub number : List ℕ → Option (TokenKind × List ℕ)
number text = option_and_then number_tail (integer (after_one is_minus text))

-- ---- strings

-- four hexadecimal digits after `\u`
abbrev pub unicode_at : List ℕ → Option Part
unicode_at (a ∷ b ∷ c ∷ d ∷ rest) = if is_unicode a b c d then Some (Unicode a b c d) else None
unicode_at _ = None

-- an escape after its backslash
abbrev pub escape_at : List ℕ → Option Part
escape_at [] = None
escape_at (c ∷ rest) = if is_escape c then Some (Escape c) else (if c == 117 then unicode_at rest else None)

-- the part at the start of a text that no closing quotes begin
abbrev pub part_at : Bool → List ℕ → Option Part
part_at block [] = None
part_at false (b ∷ bs) = if b == backslash then escape_at bs else (if is_plain b then Some (Plain b) else None)
part_at true (b ∷ bs) = if b == backslash && quotes_at 0 bs then Some Quotes else (if is_source b then Some (Plain b) else None)

-- after the closing quotes, if they stand at the start
abbrev pub after_closing : Bool → List ℕ → Option (List ℕ)
after_closing false text = if slice_index text 0 == quotation_mark then Some (drop 1 text) else None
after_closing true text = if quotes_at 0 text then Some (drop 3 text) else None

-- how many bytes a part has after its first
abbrev pub more_of : Part → ℕ
more_of (Plain b) = 0
more_of (Escape c) = 1
more_of (Unicode a b c d) = 5
more_of Quotes = 3

-- the end that was found, or what goes on after a part
abbrev pub ends_or : Option (List ℕ) → Option Part → (ℕ → Option (List ℕ)) → Option (List ℕ)
ends_or (Some rest) part more = Some rest
ends_or None None more = None
ends_or None (Some p) more = more (more_of p)

-- after the closing quotes of what is left after this many bytes
unfoldable pub closed : Bool → List ℕ → ℕ → Option (List ℕ)
closed block [] n = None
closed block (b ∷ bs) (suc n) = closed block bs n
closed block (b ∷ bs) zero = ends_or (after_closing block (b ∷ bs)) (part_at block (b ∷ bs)) (closed block bs)

-- a token of this kind
abbrev pub of_kind : TokenKind → Option (List ℕ) → Option (Shape × List ℕ)
of_kind k None = None
of_kind k (Some rest) = Some (Token k, rest)

-- after a string's first quote
unfoldable pub string : List ℕ → Option (Shape × List ℕ)
string text =
    if slice_index text 0 == quotation_mark && slice_index text 1 == quotation_mark then of_kind kind.Block (closed true (drop 2 text) 0)
    else of_kind kind.Quoted (closed false text 0)

-- ---- pieces

-- the class of a first byte
abbrev pub class_of : ℕ → Option Class
class_of b = if begins_name b then Some cls.Word
    else (if is_blank b then Some cls.Blank
    else (if is_punctuator b then Some cls.Sign
    else (if b == quotation_mark then Some cls.Quote
    else (if b == number_sign then Some cls.Hash
    else (if b == full_stop then Some cls.Dot
    else (if is_digit b || b == hyphen then Some cls.Digit
    else (if b == 239 then Some cls.Mark else None)))))))

-- after the first byte of U+FEFF
abbrev pub mark : List ℕ → Option (Shape × List ℕ)
mark (a ∷ b ∷ rest) = if a == 187 && b == 191 then Some (Ignored, rest) else None
mark _ = None

-- after the first of three dots
abbrev pub dots : List ℕ → Option (Shape × List ℕ)
dots (a ∷ b ∷ rest) = if a == full_stop && b == full_stop then Some (Token kind.Punctuator, rest) else None
dots _ = None

-- a number as a token
abbrev pub of_number : Option (TokenKind × List ℕ) → Option (Shape × List ℕ)
of_number None = None
of_number (Some p) = Some (Token p.0, p.1)

-- what goes on from a first byte of this class
abbrev pub piece_of : Class → ℕ → List ℕ → Option (Shape × List ℕ)
piece_of cls.Word b rest = Some (Token kind.Name, after_run goes_on_name rest)
piece_of cls.Blank b rest = Some (Ignored, rest)
piece_of cls.Sign b rest = Some (Token kind.Punctuator, rest)
piece_of cls.Quote b rest = string rest
piece_of cls.Hash b rest = Some (Ignored, after_run in_line rest)
piece_of cls.Dot b rest = dots rest
piece_of cls.Digit b rest = of_number (number (b ∷ rest))
piece_of cls.Mark b rest = mark rest

-- nothing where the byte has no class
abbrev pub piece_with : Option Class → ℕ → List ℕ → Option (Shape × List ℕ)
piece_with None b rest = None
piece_with (Some c) b rest = piece_of c b rest

-- the piece at the start, and what follows it
unfoldable pub piece : List ℕ → Option (Shape × List ℕ)
piece [] = None
piece (b ∷ rest) = piece_with (class_of b) b rest
