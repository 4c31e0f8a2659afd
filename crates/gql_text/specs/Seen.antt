-- What the sets of the code stand for.
use Rattle.std.specs.Prelude.{ℕ, List, [], Option, Some, None}
use Rattle.std.specs.Borrow.{Bor}
use Rattle.std.specs.List.{list_any}
use Rattle.std.specs.Str.{bytes_eq}
use Rattle.std.specs.BTreeSet.{BTreeSet, contains_by}
use Rattle.std.specs.Cmp.Lexicographic.{slice_cmp}
use Rattle.std.specs.Ordering.{nat_cmp}
use Rattle.gql_text.specs.declared.owner_fault.OwnerFault.{OwnerFault}
use Rattle.gql_text_syntax.specs.declared.syntax.PlacedName.{PlacedName}
use Rattle.gql_text.specs.Owners.{Names, with_seen_name, repeated}

-- the names in a set
abbrev pub names_in : BTreeSet (Bor (List ℕ)) → Names
names_in s = λ name. contains_by (λ k. slice_cmp nat_cmp name k.now) s

-- the names after one more, where there is one
abbrev pub with_key : Option PlacedName → Names → Names
with_key None names = names
with_key (Some key) names = with_seen_name key.name names

-- the fault of a name with its place, where it is among these
abbrev pub key_repeated : Names → PlacedName → List OwnerFault
key_repeated names key = repeated names key.name key.at

-- the same, where there is one
abbrev pub key_faults : Option PlacedName → Names → List OwnerFault
key_faults None names = []
key_faults (Some key) names = key_repeated names key

-- the names of these items, by their keys
abbrev pub names_among : {X : Type 0} → (X → PlacedName) → List X → Names
names_among key items = λ name. list_any (λ x. bytes_eq (key x).name name) items
