-- A text as one quoted string: the escapes of section 2.9.4 of the GraphQL specification, October 2021.
use Rattle.std.specs.Prelude.{ℕ, ◌+◌, ◌-◌, ◌==◌, ◌||◌, nat_lt, if◌then◌else◌, List, [], ◌∷◌, ◌++◌}
use Rattle.std.specs.List.{flat_map}
use Rattle.gql_text_lexer.specs.declared.string.Part.{Part}
use Rattle.gql_text_lexer.specs.declared.string.Part.TheVariants.{Plain, Escape, Unicode}
use Rattle.gql_text_lexer.specs.Forms.{part_text}
use Rattle.gql_text_lexer.specs.Bytes.{quotation_mark, backslash, line_feed, carriage_return, tab}

-- an upper-case hexadecimal digit: 0 to 9, A to F
abbrev pub hex_digit : ℕ → ℕ
hex_digit n = if nat_lt n 10 then 48 + n else 55 + n

-- a byte below 32 as `\u00` and two digits
abbrev pub control : ℕ → Part
control b = if nat_lt b 16 then Unicode 48 48 48 (hex_digit b) else Unicode 48 48 49 (hex_digit (b - 16))

-- the part that stands for a byte: `\"` and `\\`; `\b` for backspace, `\f` for form feed, `\n` for LF, `\r` for CR, `\t` for tab;
-- `\u00XX` for each other byte below 32; and else the byte itself
abbrev pub quoting : ℕ → Part
quoting b = if b == quotation_mark || b == backslash then Escape b
    else (if b == 8 then Escape 98
    else (if b == 12 then Escape 102
    else (if b == line_feed then Escape 110
    else (if b == carriage_return then Escape 114
    else (if b == tab then Escape 116
    else (if nat_lt b 32 then control b else Plain b))))))

-- a byte as it is written in a quoted string
abbrev pub quoted_byte : ℕ → List ℕ
quoted_byte b = part_text (quoting b)

-- the text between quotation marks
abbrev pub quote : List ℕ → List ℕ
quote text = quotation_mark ∷ (flat_map quoted_byte text ++ quotation_mark ∷ [])
