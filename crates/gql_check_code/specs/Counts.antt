-- How many input objects a schema has, how many fields they have in all, and what a search over them costs at most.
use Rattle.std.specs.Prelude.{◌+◌, ◌*◌, ℕ, cond, List, [], ◌∷◌, length, Some}
use Rattle.gql_registry_meta.specs.Parts.{Text}
use Rattle.gql_check_rules.specs.Schema.{Definition, Schema, is_input_object}
use Rattle.gql_check_rules.specs.InputCycles.{input_fields_of}

-- how many of the types are input objects
abbrev pub input_count : List (Text × Definition) → ℕ
input_count [] = 0
input_count (type ∷ types) = cond (is_input_object type.1) 1 0 + input_count types

-- how many fields a type has as an input object
abbrev pub field_count : Definition → ℕ
field_count type = length (input_fields_of (Some type))

-- how many fields the input objects among types have in all
abbrev pub field_sum : List (Text × Definition) → ℕ
field_sum [] = 0
field_sum (type ∷ types) = field_count type.1 + field_sum types

-- how many fields all input objects of a schema have
abbrev pub field_total : Schema → ℕ
field_total s = field_sum s.types

-- What naming the first input object that needs itself costs at most: a look at each field, and from each input object a
-- search that reads what each field needs.
abbrev pub naming_bound : Schema → ℕ
naming_bound s = field_total s + input_count s.types * field_total s
