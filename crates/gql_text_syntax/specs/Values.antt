-- Values: section 2.9 of the GraphQL specification, October 2021.
-- Value = whole number | float | quoted string | block string | "true" | "false" | "null"
--       | EnumName | "[" Value* "]" | "{" (Name ":" Value)* "}"
use Rattle.std.specs.Prelude.{◌==◌, if◌then◌else◌, ℕ, zero, suc, true, false}
use Rattle.gql_grammar.specs.Form.{Terminal, Form, one, seq, alt, many, ◌<$>◌, refused}
use Rattle.gql_text_lexer.specs.Whole.{whole_value}
use Rattle.gql_text_syntax.specs.Sorts as s
use Rattle.gql_text_syntax.specs.Sorts.{code, token}
use Rattle.gql_text_syntax.specs.declared.sort.Sort.TheVariants.{CloseBrace, CloseBracket, Colon, OpenBrace, OpenBracket, WholeNumber, WordFalse, WordNull, WordTrue}
use Rattle.gql_text_lexer.specs.Values.{string_text}
use Rattle.gql_text_syntax.specs.declared.syntax.PlacedName.{PlacedName}
use Rattle.gql_text_syntax.specs.declared.syntax.Literal.{Literal}
use Rattle.gql_text_syntax.specs.declared.syntax.Literal.TheVariants as v

-- a token's text with its place
abbrev pub placed : Terminal → PlacedName
placed t = record { name = t.text; at = t.at }

-- Name, with its place
unfoldable pub key : Form PlacedName
key = placed <$> one s.names

-- IntValue within the range, section 2.9.1
unfoldable pub number : Form Literal
number = (λ t. v.Number (whole_value t.text)) <$> token WholeNumber

-- StringValue, section 2.9.4
unfoldable pub string : Form Literal
string = (λ t. v.String (string_text t.text)) <$> one s.strings

-- what a name is as a value: null, a Boolean, or an EnumValue
abbrev pub word_value : Terminal → Literal
word_value t = if t.sort == code WordNull then v.Null
    else (if t.sort == code WordTrue then v.Boolean true
    else (if t.sort == code WordFalse then v.Boolean false
    else v.Enum t.text))

-- NullValue, BooleanValue or EnumValue: sections 2.9.3, 2.9.5 and 2.9.6
unfoldable pub word : Form Literal
word = word_value <$> one s.names

-- a value that is one token
unfoldable pub leaf : Form Literal
leaf = alt number (alt string word)

-- a number that no value has: out of range, or a float
unfoldable pub refused_number : Form Literal
refused_number = refused s.refused_numbers

-- ListValue, section 2.9.7, of which the form of the values inside is given
unfoldable pub bracketed_list : Form Literal → Form Literal
bracketed_list value = (λ p. v.List p.1.0) <$> seq (token OpenBracket) (seq (many value) (token CloseBracket))

-- ObjectField, of which the form of its value is given
unfoldable pub entry : Form Literal → Form (PlacedName × Literal)
entry value = (λ p. (p.0, p.1.1)) <$> seq key (seq (token Colon) value)

-- ObjectValue, section 2.9.8, of which the form of the values inside is given
unfoldable pub object : Form Literal → Form Literal
object value = (λ p. v.Object p.1.0) <$> seq (token OpenBrace) (seq (many (entry value)) (token CloseBrace))

-- Value, of which the form of a list and an object is given
unfoldable pub value_with : Form Literal → Form Literal
value_with nested = alt leaf (alt refused_number nested)

-- a list or an object, of which the form of the values inside is given
unfoldable pub nest_with : Form Literal → Form Literal
nest_with value = alt (bracketed_list value) (object value)

-- a list or an object, where this many brackets may still be open
unfoldable pub nested : ℕ → Form Literal
nested zero = refused s.nests
nested (suc n) = nest_with (value_with (nested n))

-- a value in which this many brackets may be open
abbrev pub value_within : ℕ → Form Literal
value_within n = value_with (nested n)
