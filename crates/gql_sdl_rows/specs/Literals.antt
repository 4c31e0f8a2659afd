-- What may stand after the text of a value.
use Rattle.std.specs.Prelude.{ℕ, ◌||◌, ◌==◌, Bool}
use Rattle.gql_text_lexer.specs.Bytes.{quotation_mark, goes_on_number}

-- what may not follow a value: a byte that goes on a name or a number, or a quotation mark
abbrev pub goes_on_value : ℕ → Bool
goes_on_value b = goes_on_number b || b == quotation_mark
