-- Constant values: section 2.9 of the GraphQL specification, October 2021.
use Rattle.std.specs.Prelude.{◌≡◌, ℕ, if◌then◌else◌, List, ◌++◌, codes, String, string_bytes}
use Rattle.std.specs.List.{join_by}
use Rattle.std.specs.Fmt.{signed_decimal}
use Rattle.gql_text_lexer.specs.Quoting.{quote}
use Rattle.gql_text_values.specs.declared.const_value.ConstValue.{ConstValue, fold-ConstValue}
use Rattle.gql_text_values.specs.declared.const_value.ConstValue.TheOpen.{ConstValue-F}

-- texts with a comma and a space between them
abbrev pub separated : List (List ℕ) → List ℕ
separated = join_by (λ text. text) (codes ", ")

-- `key: value`
abbrev pub entry_text : List ℕ × List ℕ → List ℕ
entry_text entry = entry.0 ++ codes ": " ++ entry.1

-- entries with a comma and a space between them
abbrev pub entries_text : List (List ℕ × List ℕ) → List ℕ
entries_text = join_by entry_text (codes ", ")

-- one level of a value, with the text of each inner one in its place
abbrev pub value_text_step : ConstValue-F (List ℕ) → List ℕ
value_text_step ConstValue-F.Null = codes "null"
value_text_step (ConstValue-F.Number number) = signed_decimal number
value_text_step (ConstValue-F.String text) = quote text
value_text_step (ConstValue-F.Boolean b) = if b then codes "true" else codes "false"
value_text_step (ConstValue-F.Enum name) = name
value_text_step (ConstValue-F.List items) = codes "[" ++ separated items ++ codes "]"
value_text_step (ConstValue-F.Object entries) = codes "{" ++ entries_text entries ++ codes "}"

-- `null`, a decimal number, a quoted string, `true` or `false`, a name, `[a, b]`, or `{k: v, l: w}`
abbrev pub value_text : ConstValue → List ℕ
value_text = fold-ConstValue (List ℕ) value_text_step

-- the items of a list, with a comma and a space between them
abbrev pub items_text : List ConstValue → List ℕ
items_text = join_by value_text (codes ", ")

-- the entries of an object, each as `key: value`, with a comma and a space between them
abbrev pub keyed_text : List (List ℕ × ConstValue) → List ℕ
keyed_text = join_by (λ e. entry_text (e.0, value_text e.1)) (codes ", ")

-- the text has these bytes more at its end
abbrev pub Appends : {Z : Type 0} → String Z → String Z → List ℕ → Type 0
Appends old new bytes = string_bytes new ≡ string_bytes old ++ bytes
