-- The forms of tokens and of ignored parts, as sets of texts: sections 2.1 and 2.9 of the GraphQL specification, October 2021.
use Rattle.std.specs.Prelude.{◌≡◌, ◌⊎◌, ℕ, ◌+◌, ◌-◌, ◌*◌, ◌<◌, Bool, true, false, ◌||◌, ◌&&◌, ◌==◌, nat_lt, nat_le, if◌then◌else◌, List, [], ◌∷◌, ◌++◌, length, nat_eq, codes}
use Rattle.std.specs.List.{starts_with}
use Rattle.gql_text_lexer.specs.declared.string.Part.{Part}
use Rattle.gql_text_lexer.specs.declared.string.Part.TheVariants.{Plain, Escape, Unicode, Quotes}
use Rattle.gql_text_lexer.specs.declared.token.TokenKind.TheVariants as kind
use Rattle.gql_text_lexer.specs.declared.token.Shape.{Shape}
use Rattle.gql_text_lexer.specs.declared.token.Shape.TheVariants.{Ignored, Token}
use Rattle.gql_text_lexer.specs.Bytes.{quotation_mark, hyphen, full_stop, number_sign, backslash, within, is_e, is_sign, begins_name, is_digit, goes_on_name, goes_on_number, is_blank, is_punctuator, in_line, is_source, is_plain, is_escape, all_of, ends_before, quotes_at}

-- ---- names, punctuators, numbers

-- [_A-Za-z][_0-9A-Za-z]*: section 2.1.9
abbrev pub IsName : List ℕ → Type 0
IsName [] = ⊥
IsName (b ∷ bs) = (begins_name b ≡ true) × (all_of goes_on_name bs ≡ true)

-- a name that begins with two underscores: section 2.1.9 reserves these for introspection
unfoldable pub is_reserved : List ℕ → Bool
is_reserved name = starts_with nat_eq name (codes "__")

-- ! $ & ( ) ... : = @ [ ] { | }: section 2.1.8
abbrev pub IsPunctuator : List ℕ → Type 0
IsPunctuator [] = ⊥
IsPunctuator (b ∷ bs) = ((is_punctuator b ≡ true) × (bs ≡ [])) ⊎ ((b ≡ full_stop) × (bs ≡ full_stop ∷ full_stop ∷ []))

-- one digit or more
abbrev pub IsDigits : List ℕ → Type 0
IsDigits [] = ⊥
IsDigits (b ∷ bs) = (is_digit b ≡ true) × (all_of is_digit bs ≡ true)

-- 0|[1-9][0-9]*
abbrev pub IsInteger : List ℕ → Type 0
IsInteger [] = ⊥
IsInteger (b ∷ bs) = ((b ≡ 48) × (bs ≡ [])) ⊎ ((within 49 57 b ≡ true) × (all_of is_digit bs ≡ true))

-- -?(0|[1-9][0-9]*): section 2.9.1, IntValue
pub record IsWhole (text : List ℕ) : Type 0 where
  pub sign : List ℕ
  pub integer : List ℕ
  pub parts : text ≡ sign ++ integer
  pub is_sign : (sign ≡ []) ⊎ (sign ≡ hyphen ∷ [])
  pub is_integer : IsInteger integer

-- \.[0-9]+
abbrev pub IsFraction : List ℕ → Type 0
IsFraction [] = ⊥
IsFraction (b ∷ bs) = (b ≡ full_stop) × IsDigits bs

-- [+-]?[0-9]+
pub record IsPower (text : List ℕ) : Type 0 where
  pub sign : List ℕ
  pub digits : List ℕ
  pub parts : text ≡ sign ++ digits
  pub is_sign : (sign ≡ []) ⊎ ((b : ℕ) × (sign ≡ b ∷ []) × (is_sign b ≡ true))
  pub is_digits : IsDigits digits

-- [eE][+-]?[0-9]+
abbrev pub IsExponent : List ℕ → Type 0
IsExponent [] = ⊥
IsExponent (b ∷ bs) = (is_e b ≡ true) × IsPower bs

-- a whole number, and after it a fraction, or an exponent, or both: section 2.9.2, FloatValue
pub record IsFloat (text : List ℕ) : Type 0 where
  pub whole : List ℕ
  pub fraction : List ℕ
  pub exponent : List ℕ
  pub parts : text ≡ whole ++ (fraction ++ exponent)
  pub is_whole : IsWhole whole
  pub is_fraction : (fraction ≡ []) ⊎ IsFraction fraction
  pub is_exponent : (exponent ≡ []) ⊎ IsExponent exponent
  pub one : 0 < length (fraction ++ exponent)

-- ---- strings

-- the value of a hexadecimal digit, or 16
abbrev pub hex_value : ℕ → ℕ
hex_value c = if within 48 57 c then c - 48 else (if within 65 70 c then c - 55 else (if within 97 102 c then c - 87 else 16))

-- 0 to 9, A to F, or a to f
abbrev pub is_hex : ℕ → Bool
is_hex c = nat_lt (hex_value c) 16

-- the number of four hexadecimal digits
abbrev pub hex_code : ℕ → ℕ → ℕ → ℕ → ℕ
hex_code a b c d = ((hex_value a * 16 + hex_value b) * 16 + hex_value c) * 16 + hex_value d

-- four hexadecimal digits of no surrogate
abbrev pub is_unicode : ℕ → ℕ → ℕ → ℕ → Bool
is_unicode a b c d = is_hex a && is_hex b && is_hex c && is_hex d && (nat_lt (hex_code a b c d) 0xD800 || nat_le 0xE000 (hex_code a b c d))

-- a part of a string as it is written: a byte that stands for itself, `\` and a letter, `\u` and four digits, or `\"""`
abbrev pub part_text : Part → List ℕ
part_text (Plain b) = b ∷ []
part_text (Escape c) = backslash ∷ c ∷ []
part_text (Unicode a b c d) = backslash ∷ 117 ∷ a ∷ b ∷ c ∷ d ∷ []
part_text Quotes = backslash ∷ quotation_mark ∷ quotation_mark ∷ quotation_mark ∷ []

-- the part may begin a text in a quoted string, or in a block string
abbrev pub FitsPart : Bool → Part → List ℕ → Type 0
FitsPart false (Plain b) text = is_plain b ≡ true
FitsPart false (Escape c) text = is_escape c ≡ true
FitsPart false (Unicode a b c d) text = is_unicode a b c d ≡ true
FitsPart true (Plain b) text = (is_source b ≡ true) × (quotes_at 0 text ≡ false) × ((b == backslash && quotes_at 1 text) ≡ false)
FitsPart true Quotes text = Unit {0}
FitsPart _ _ text = ⊥

-- the closing quotes of a quoted string, or of a block string
abbrev pub closing : Bool → List ℕ
closing false = quotation_mark ∷ []
closing true = quotation_mark ∷ quotation_mark ∷ quotation_mark ∷ []

-- the text is these parts, the closing quotes, and then the rest
abbrev pub Closes : Bool → List Part → List ℕ → List ℕ → Type 0
Closes block [] text after = text ≡ closing block ++ after
Closes block (p ∷ ps) text after = (rest : List ℕ) × (text ≡ part_text p ++ rest) × FitsPart block p text × Closes block ps rest after

-- a quoted string or a block string of these parts
abbrev pub IsString : Bool → List Part → List ℕ → Type 0
IsString block parts text = (body : List ℕ) × (text ≡ closing block ++ body) × Closes block parts body []

-- section 2.9.4, StringValue between `"`
abbrev pub IsQuoted : List ℕ → Type 0
IsQuoted text = (parts : List Part) × IsString false parts text

-- section 2.9.4, StringValue between `"""`
abbrev pub IsBlock : List ℕ → Type 0
IsBlock text = (parts : List Part) × IsString true parts text

-- ---- ignored parts

-- one tab, space, line break or comma: sections 2.1.2, 2.1.3 and 2.1.5
abbrev pub IsBlank : List ℕ → Type 0
IsBlank [] = ⊥
IsBlank (b ∷ bs) = (is_blank b ≡ true) × (bs ≡ [])

-- the byte order mark U+FEFF: section 2.1.1
abbrev pub IsMark : List ℕ → Type 0
IsMark text = text ≡ 239 ∷ 187 ∷ 191 ∷ []

-- `#` and source characters of one line: section 2.1.4
abbrev pub IsComment : List ℕ → Type 0
IsComment [] = ⊥
IsComment (b ∷ bs) = (b ≡ number_sign) × (all_of in_line bs ≡ true)

-- ---- pieces: tokens and ignored parts

-- the text is a piece of this shape where these bytes follow
abbrev pub IsPiece : Shape → List ℕ → List ℕ → Type 0
IsPiece (Token kind.Name) text after = IsName text × (ends_before goes_on_name after ≡ true)
IsPiece (Token kind.Punctuator) text after = IsPunctuator text
IsPiece (Token kind.Whole) text after = IsWhole text × (ends_before goes_on_number after ≡ true)
IsPiece (Token kind.Float) text after = IsFloat text × (ends_before goes_on_number after ≡ true)
IsPiece (Token kind.Quoted) text after = IsQuoted text × (text ≡ quotation_mark ∷ quotation_mark ∷ [] → ends_before (λ b. b == quotation_mark) after ≡ true)
IsPiece (Token kind.Block) text after = IsBlock text
IsPiece Ignored text after = IsBlank text ⊎ (IsMark text ⊎ (IsComment text × (ends_before in_line after ≡ true)))

-- neither a token nor an ignored part stands at the start
abbrev pub StartsNoPiece : List ℕ → Type 0
StartsNoPiece text = (shape : Shape) (piece after : List ℕ) → text ≡ piece ++ after → IsPiece shape piece after → ⊥
