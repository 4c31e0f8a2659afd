-- The types of a schema by number, for the search for an input object that needs itself: each has the place at which it was
-- registered.
use Rattle.std.specs.Prelude.{ℕ, Bool, false, List, [], ◌∷◌, map, get_or, position, slice_get, Option, Some, None}
use Rattle.std.specs.Option.{option_map}
use Rattle.std.specs.Str.{bytes_eq}
use Rattle.gql_registry_meta.specs.Parts.{Text}
use Rattle.gql_check_rules.specs.Schema.{Input, Definition, Schema}
use Rattle.gql_check_rules.specs.InputCycles.{input_fields_of, needed_by}

-- the names of the types
abbrev pub names : Schema → List Text
names s = map (λ type. type.0) s.types

-- the name of a number
abbrev pub name_at : Schema → ℕ → Text
name_at s node = get_or (names s) node []

-- the type of a number, where there is one
abbrev pub definition_at : Schema → ℕ → Option Definition
definition_at s node = option_map (λ type. type.1) (slice_get s.types node)

-- the number of what a field needs
abbrev pub number : List Text → (needed : List Text) → Option ℕ
number names [] = None
number names (name ∷ more) = position (bytes_eq name) names

-- the numbers of what the fields of an input object need
abbrev pub row : Schema → List (Text × Input) → List (Option ℕ)
row s fields = map (λ field. number (names s) (needed_by s field.1.ty)) fields

-- the input fields of each type, each with the number of the input object that it needs
abbrev pub numbered : Schema → List (List (Option ℕ))
numbered s = map (λ type. row s (input_fields_of (Some type.1))) s.types

-- ---- answers

-- a name that was found, as a list of one or of none
abbrev pub one_or_none : Option Text → List Text
one_or_none None = []
one_or_none (Some name) = name ∷ []

-- the fields that were found, or none
abbrev pub or_no_fields : Option (List (Text × Input)) → List (Text × Input)
or_no_fields None = []
or_no_fields (Some fields) = fields

-- whether a name is the one that was found
abbrev pub is_found : Text → Option Text → Bool
is_found name None = false
is_found name (Some found) = bytes_eq name found
