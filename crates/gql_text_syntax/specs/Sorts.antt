-- The sorts of the tokens of a text: each punctuator, each keyword and each kind of literal has its own, the names of
-- the locations of directives have one, and all other names have one.
use Rattle.std.specs.Prelude.{ℕ, ℤ, pos, negsuc, int_le, ◌&&◌, ◌==◌, Bool, List, [], ◌∷◌, ◌++◌, codes, if◌then◌else◌}
use Rattle.std.specs.Str.{bytes_eq}
use Rattle.gql_grammar.specs.Form.{Terminal, Form, one, end_of_text, no_token}
use Rattle.gql_text_lexer.specs.Tokens.{Lexeme}
use Rattle.gql_text_lexer.specs.declared.token.TokenKind.{TokenKind}
use Rattle.gql_text_lexer.specs.declared.token.TokenKind.TheVariants as kind
use Rattle.gql_text_lexer.specs.Whole.{whole_value}
use Rattle.gql_text_syntax.specs.declared.sort.Sort.{Sort}
use Rattle.gql_text_syntax.specs.declared.sort.Sort.TheVariants.{End, NoToken, Bang, Dollar, Ampersand, OpenParen, CloseParen, Ellipsis, Colon, Equals, AtSign, OpenBracket, CloseBracket, OpenBrace, Pipe, CloseBrace, WholeNumber, BeyondRange, Float, Quoted, Block, Location, OtherName, WordSchema, WordQuery, WordMutation, WordSubscription, WordScalar, WordType, WordImplements, WordInterface, WordUnion, WordEnum, WordInput, WordDirective, WordRepeatable, WordOn, WordExtend, WordTrue, WordFalse, WordNull}

-- ---- the number of each sort

-- Sets of sorts are lists of these numbers.
abbrev pub code : Sort → ℕ
-- what stands after the tokens: the end of the text, or a place where it goes on and no token stands
code End = end_of_text
code NoToken = no_token
-- a punctuator: section 2.1.8
code Bang = 2
code Dollar = 3
code Ampersand = 4
code OpenParen = 5
code CloseParen = 6
code Ellipsis = 7
code Colon = 8
code Equals = 9
code AtSign = 10
code OpenBracket = 11
code CloseBracket = 12
code OpenBrace = 13
code Pipe = 14
code CloseBrace = 15
-- a whole number, one outside `i64::MIN` to `u64::MAX`, a float: sections 2.9.1 and 2.9.2; a quoted string, a block string: section 2.9.4
code WholeNumber = 16
code BeyondRange = 17
code Float = 18
code Quoted = 19
code Block = 20
-- a name that is a word of the grammar: section 2.1.9
code WordSchema = 21
code WordQuery = 22
code WordMutation = 23
code WordSubscription = 24
code WordScalar = 25
code WordType = 26
code WordImplements = 27
code WordInterface = 28
code WordUnion = 29
code WordEnum = 30
code WordInput = 31
code WordDirective = 32
code WordRepeatable = 33
code WordOn = 34
code WordExtend = 35
code WordTrue = 36
code WordFalse = 37
code WordNull = 38
-- a name of a location of directives, section 3.13, and any other name
code Location = 39
code OtherName = 40

-- this sort and no other
abbrev pub only : Sort → List ℕ
only sort = code sort ∷ []

-- these sorts
abbrev pub these : List Sort → List ℕ
these [] = []
these (sort ∷ sorts) = code sort ∷ these sorts

-- a token of this sort
abbrev pub token : Sort → Form Terminal
token sort = one (only sort)

-- ---- sets of sorts

-- what no form takes
abbrev pub ends : List ℕ
ends = these (End ∷ NoToken ∷ [])

-- EnumValue, section 2.9.6: a name but `true`, `false` and `null`
abbrev pub enum_names : List ℕ
enum_names = these (WordSchema ∷ WordQuery ∷ WordMutation ∷ WordSubscription ∷ WordScalar ∷ WordType ∷ WordImplements ∷
    WordInterface ∷ WordUnion ∷ WordEnum ∷ WordInput ∷ WordDirective ∷ WordRepeatable ∷ WordOn ∷ WordExtend ∷
    Location ∷ OtherName ∷ [])

-- the names that are values of their own: sections 2.9.3 and 2.9.5
abbrev pub literal_words : List ℕ
literal_words = these (WordTrue ∷ WordFalse ∷ WordNull ∷ [])

-- Name, section 2.1.9
abbrev pub names : List ℕ
names = literal_words ++ enum_names

-- StringValue, section 2.9.4
abbrev pub strings : List ℕ
strings = these (Quoted ∷ Block ∷ [])

-- a value that is one token
abbrev pub leaves : List ℕ
leaves = only WholeNumber ++ (strings ++ names)

-- a number that is no value here
abbrev pub refused_numbers : List ℕ
refused_numbers = these (BeyondRange ∷ Float ∷ [])

-- what begins a value that has others in it: a list or an object, sections 2.9.7 and 2.9.8
abbrev pub nests : List ℕ
nests = these (OpenBracket ∷ OpenBrace ∷ [])

-- what ends one
abbrev pub nest_ends : List ℕ
nest_ends = these (CloseBracket ∷ CloseBrace ∷ [])

-- what begins a value
abbrev pub values : List ℕ
values = leaves ++ (refused_numbers ++ nests)

-- what begins a field or an argument: its description or its name
abbrev pub members : List ℕ
members = strings ++ names

-- what begins an enum value's definition: its description or its name
abbrev pub enum_members : List ℕ
enum_members = strings ++ enum_names

-- OperationType, section 2.3
abbrev pub operations : List ℕ
operations = these (WordQuery ∷ WordMutation ∷ WordSubscription ∷ [])

-- what begins a definition after its description
abbrev pub kinds : List ℕ
kinds = these (WordSchema ∷ WordScalar ∷ WordType ∷ WordInterface ∷ WordUnion ∷ WordEnum ∷ WordInput ∷ WordDirective ∷ [])

-- what begins a definition
abbrev pub definitions : List ℕ
definitions = only WordExtend ++ (strings ++ kinds)

-- ---- the sort of a token

-- the sort that the table has for the text, or the other
abbrev pub sort_in : List (List ℕ × ℕ) → List ℕ → ℕ → ℕ
sort_in [] text other = other
sort_in (row ∷ rows) text other = if bytes_eq text row.0 then row.1 else sort_in rows text other

-- Punctuator, section 2.1.8; the last one is `}`
abbrev pub punctuators : List (List ℕ × ℕ)
punctuators =
    (codes "!", code Bang) ∷
    (codes "$", code Dollar) ∷
    (codes "&", code Ampersand) ∷
    (codes "(", code OpenParen) ∷
    (codes ")", code CloseParen) ∷
    (codes "...", code Ellipsis) ∷
    (codes ":", code Colon) ∷
    (codes "=", code Equals) ∷
    (codes "@", code AtSign) ∷
    (codes "[", code OpenBracket) ∷
    (codes "]", code CloseBracket) ∷
    (codes "{", code OpenBrace) ∷
    (codes "|", code Pipe) ∷
    []

-- the words that begin a definition
abbrev pub definition_words : List (List ℕ × ℕ)
definition_words =
    (codes "schema", code WordSchema) ∷
    (codes "scalar", code WordScalar) ∷
    (codes "type", code WordType) ∷
    (codes "interface", code WordInterface) ∷
    (codes "union", code WordUnion) ∷
    (codes "enum", code WordEnum) ∷
    (codes "input", code WordInput) ∷
    (codes "directive", code WordDirective) ∷
    (codes "extend", code WordExtend) ∷
    []

-- the other words of the grammar
abbrev pub other_words : List (List ℕ × ℕ)
other_words =
    (codes "query", code WordQuery) ∷
    (codes "mutation", code WordMutation) ∷
    (codes "subscription", code WordSubscription) ∷
    (codes "implements", code WordImplements) ∷
    (codes "repeatable", code WordRepeatable) ∷
    (codes "on", code WordOn) ∷
    (codes "true", code WordTrue) ∷
    (codes "false", code WordFalse) ∷
    (codes "null", code WordNull) ∷
    []

-- DirectiveLocation, section 3.13
abbrev pub locations : List (List ℕ × ℕ)
locations =
    (codes "QUERY", code Location) ∷
    (codes "MUTATION", code Location) ∷
    (codes "SUBSCRIPTION", code Location) ∷
    (codes "FIELD", code Location) ∷
    (codes "FRAGMENT_DEFINITION", code Location) ∷
    (codes "FRAGMENT_SPREAD", code Location) ∷
    (codes "INLINE_FRAGMENT", code Location) ∷
    (codes "VARIABLE_DEFINITION", code Location) ∷
    (codes "SCHEMA", code Location) ∷
    (codes "SCALAR", code Location) ∷
    (codes "OBJECT", code Location) ∷
    (codes "FIELD_DEFINITION", code Location) ∷
    (codes "ARGUMENT_DEFINITION", code Location) ∷
    (codes "INTERFACE", code Location) ∷
    (codes "UNION", code Location) ∷
    (codes "ENUM", code Location) ∷
    (codes "ENUM_VALUE", code Location) ∷
    (codes "INPUT_OBJECT", code Location) ∷
    (codes "INPUT_FIELD_DEFINITION", code Location) ∷
    []

-- a name that one table has not may be one of the other
abbrev pub or_else : ℕ → ℕ → ℕ
or_else sort other = if sort == code OtherName then other else sort

-- the sort of a punctuator
abbrev pub punctuator_sort : List ℕ → ℕ
punctuator_sort text = sort_in punctuators text (code CloseBrace)

-- the sort that the table of words has for a name, or that of a name that is no keyword
abbrev pub word_in : List (List ℕ × ℕ) → List ℕ → ℕ
word_in words text = sort_in words text (code OtherName)

-- the sort of a name that begins no definition
abbrev pub no_definition_word_sort : List ℕ → ℕ
no_definition_word_sort text = or_else (word_in other_words text) (word_in locations text)

-- the sort of a name
abbrev pub name_sort : List ℕ → ℕ
name_sort text = or_else (word_in definition_words text) (no_definition_word_sort text)

-- whether it is from `i64::MIN` to `u64::MAX`
abbrev pub is_within : ℤ → Bool
is_within z = int_le (negsuc 9223372036854775807) z && int_le z (pos 18446744073709551615)

-- the sort of a token of this kind and text
abbrev pub sort_of : TokenKind → List ℕ → ℕ
sort_of kind.Punctuator text = punctuator_sort text
sort_of kind.Name text = name_sort text
sort_of kind.Whole text = if is_within (whole_value text) then code WholeNumber else code BeyondRange
sort_of kind.Float text = code Float
sort_of kind.Quoted text = code Quoted
sort_of kind.Block text = code Block

-- a token of a text as the grammar sees it
abbrev pub terminal_of : Lexeme → Terminal
terminal_of l = record { sort = sort_of l.kind l.text; text = l.text; at = l.at }

-- what stands after the tokens of a text
abbrev pub end_terminal : ℕ → ℕ → Terminal
end_terminal sort at = record { sort = sort; text = []; at = at }
