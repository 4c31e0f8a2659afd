-- Input objects that need one another: section 3.10, circular references, of the GraphQL specification, October 2021.
use Rattle.std.specs.Prelude.{◌≡◌, Bool, true, List, [], ◌∷◌, Option, Some, length, ◌||◌, cond}
use Rattle.std.specs.List.{list_any, flat_map}
use Rattle.std.specs.Str.{bytes_eq}
use Rattle.gql_text_values.specs.TypeRefs.{Reference, named, non_null}
use Rattle.gql_registry_meta.specs.Parts.{Text, at_text, is_among}
use Rattle.gql_check_rules.specs.Schema.{Input, Definition, Schema, input_object, is_input_object, passes}
use Rattle.gql_check_rules.specs.Repeated.{repeated}

-- the fields of an input object; a type of another kind has none
abbrev pub input_fields_of : Option Definition → List (Text × Input)
input_fields_of (Some (input_object fields one_of)) = fields
input_fields_of _ = []

-- what a value of a field needs a value of: the input object `b` where the field's type is `b!`, and else nothing
abbrev pub needed_by : Schema → Reference → List Text
needed_by s (non_null (named name)) = cond (passes is_input_object (at_text name s.types)) (name ∷ []) []
needed_by s _ = []

-- the input objects that one needs, field by field
abbrev pub needs : Schema → Text → List Text
needs s name = flat_map (λ field. needed_by s field.1.ty) (input_fields_of (at_text name s.types))

-- ---- reaching

-- The input object of the second name needs the goal, or something from which the goal is reached.
pub data Reaches (s : Schema) (goal : Text) : Text → Type 0 where
  directly : (name : Text) → is_among goal (needs s name) ≡ true → Reaches s goal name
  through : (name next : Text) → is_among next (needs s name) ≡ true → Reaches s goal next → Reaches s goal name

-- one step of a search back from the goal: it is needed, or something is from which it was known to be reached
abbrev pub reaching_step : Schema → Text → (Text → Bool) → Text → Bool
reaching_step s goal known name = list_any (λ next. bytes_eq next goal || known next) (needs s name)

-- The same as a test. As many steps as there are types find all there is.
unfoldable pub reaches : Schema → Text → Text → Bool
reaches s goal name = repeated (reaching_step s goal) (length s.types) name

-- the test of section 3.10: the input object needs itself, directly or through others
abbrev pub reaches_itself : Schema → Text → Bool
reaches_itself s name = reaches s name name

-- ---- finite values

-- A value of an input object has within it a value of each input object that it needs. Every other field may be null,
-- an empty list or a leaf.
mutual
  pub data FiniteValue (s : Schema) : Text → Type 0 where
    value : (name : Text) → FiniteValues s (needs s name) → FiniteValue s name

  pub data FiniteValues (s : Schema) : List Text → Type 0 where
    no_value : FiniteValues s []
    and_value : (name : Text) (names : List Text) → FiniteValue s name → FiniteValues s names → FiniteValues s (name ∷ names)

-- each input object has a finite value
abbrev pub HasFiniteValues : Schema → Type 0
HasFiniteValues s = (name : Text) → passes is_input_object (at_text name s.types) ≡ true → FiniteValue s name
