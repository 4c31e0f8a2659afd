-- Bytes and classes of bytes: sections 2.1.1 to 2.1.9 and 2.9 of the GraphQL specification, October 2021.
use Rattle.std.specs.Prelude.{ℕ, ◌+◌, Bool, true, not, ◌||◌, ◌&&◌, ◌==◌, nat_le, List, [], ◌∷◌, slice_index}

-- ---- characters that the rules name

-- U+0009
abbrev pub tab : ℕ
tab = 9

-- U+000A
abbrev pub line_feed : ℕ
line_feed = 10

-- U+000D
abbrev pub carriage_return : ℕ
carriage_return = 13

-- U+0020
abbrev pub space : ℕ
space = 32

-- `"`
abbrev pub quotation_mark : ℕ
quotation_mark = 34

-- `#`
abbrev pub number_sign : ℕ
number_sign = 35

-- `+`
abbrev pub plus_sign : ℕ
plus_sign = 43

-- `,`
abbrev pub comma : ℕ
comma = 44

-- `-`
abbrev pub hyphen : ℕ
hyphen = 45

-- `.`
abbrev pub full_stop : ℕ
full_stop = 46

-- `\`
abbrev pub backslash : ℕ
backslash = 92

-- `_`
abbrev pub underscore : ℕ
underscore = 95

-- ---- classes of bytes

-- from low to high
abbrev pub within : ℕ → ℕ → ℕ → Bool
within low high b = nat_le low b && nat_le b high

-- A to Z, a to z, or the underscore
abbrev pub begins_name : ℕ → Bool
begins_name b = within 65 90 b || within 97 122 b || b == underscore

-- 0 to 9
abbrev pub is_digit : ℕ → Bool
is_digit b = within 48 57 b

-- what a name may have after its first byte
abbrev pub goes_on_name : ℕ → Bool
goes_on_name b = begins_name b || is_digit b

-- what may not follow a number
abbrev pub goes_on_number : ℕ → Bool
goes_on_number b = begins_name b || is_digit b || b == full_stop

-- `E` or `e`
abbrev pub is_e : ℕ → Bool
is_e b = b == 69 || b == 101

-- the sign of a whole number
abbrev pub is_minus : ℕ → Bool
is_minus b = b == hyphen

-- `+` or `-`
abbrev pub is_sign : ℕ → Bool
is_sign b = b == plus_sign || b == hyphen

-- tab, space, LF, CR, comma
abbrev pub is_blank : ℕ → Bool
is_blank b = b == tab || b == space || b == line_feed || b == carriage_return || b == comma

-- ! $ & ( ) : = @ [ ] { | }
abbrev pub is_punctuator : ℕ → Bool
is_punctuator b = b == 33 || b == 36 || b == 38 || b == 40 || b == 41 || b == 58 || b == 61 || b == 64 || b == 91 || b == 93 || b == 123 || b == 124 || b == 125

-- a byte of a source character other than LF and CR
abbrev pub in_line : ℕ → Bool
in_line b = nat_le space b || b == tab

-- a byte of a source character
abbrev pub is_source : ℕ → Bool
is_source b = in_line b || b == line_feed || b == carriage_return

-- a byte of a character that stands for itself in a quoted string
abbrev pub is_plain : ℕ → Bool
is_plain b = in_line b && not (b == quotation_mark) && not (b == backslash)

-- what may follow a backslash, `u` apart: " \ / b f n r t
abbrev pub is_escape : ℕ → Bool
is_escape c = c == quotation_mark || c == backslash || c == 47 || c == 98 || c == 102 || c == 110 || c == 114 || c == 116

-- each byte is one of these
abbrev pub all_of : (ℕ → Bool) → List ℕ → Bool
all_of p [] = true
all_of p (b ∷ bs) = p b && all_of p bs

-- the next byte is none of these
abbrev pub ends_before : (ℕ → Bool) → List ℕ → Bool
ends_before p [] = true
ends_before p (b ∷ bs) = not (p b)

-- three quotes stand at this place
abbrev pub quotes_at : ℕ → List ℕ → Bool
quotes_at i text = slice_index text i == quotation_mark && slice_index text (i + 1) == quotation_mark && slice_index text (i + 2) == quotation_mark
