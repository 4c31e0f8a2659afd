-- Laws of the rules.
use Rattle.std.specs.Prelude.{◌≡◌, ◌↔◌, IsTrue, Bool, List, Option, None}
use Rattle.gql_registry_meta.specs.Parts.{Text}
use Rattle.gql_check_rules.specs.Schema.{Definition, Schema}
use Rattle.gql_check_rules.specs.Faults.{Fault}
use Rattle.gql_check_rules.specs.InputCycles.{Reaches, HasFiniteValues}
use Rattle.gql_check_rules.specs.Order.{SameSchema, IsDistinctSchema, sorted_schema}

-- whether there is a fault does not depend on the order of types, fields, arguments and input fields
abbrev pub IsOrderIndependent : (Schema → Option Fault) → Type 0
IsOrderIndependent fault = (s t : Schema) → SameSchema s t → (fault s ≡ None) ↔ (fault t ≡ None)

-- where no name repeats, sorting by any order of names makes no fault and removes none
abbrev pub IsSortingIndependent : (Schema → Option Fault) → Type 0
IsSortingIndependent fault = (earlier : Text → Text → Bool) (s : Schema) → IsDistinctSchema s →
    (fault s ≡ None) ↔ (fault (sorted_schema earlier s) ≡ None)

-- the test finds exactly what is reached
abbrev pub DecidesReaching : (Schema → Text → Text → Bool) → Type 0
DecidesReaching test = (s : Schema) (goal name : Text) → IsTrue (test s goal name) ↔ Reaches s goal name

-- no cycle is found exactly where each input object has a finite value
abbrev pub IsKeptWhereFinite : (Schema → List (Text × Definition) → Option Text) → Type 0
IsKeptWhereFinite cycle = (s : Schema) → (cycle s s.types ≡ None) ↔ HasFiniteValues s

-- where there is no fault each input object has a finite value
abbrev pub MakesFinite : (Schema → Option Fault) → Type 0
MakesFinite fault = (s : Schema) → fault s ≡ None → HasFiniteValues s
