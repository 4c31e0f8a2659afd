-- Faults of values, one level at a time.
use Rattle.std.proofs.Common.{◌≡◌, List, ◌++◌, map, sym, ap, ap₂, ◌∙◌}
use Rattle.std.specs.Prelude.{flat_map}
use Rattle.std.proofs.lemmas.List.Folds.{flat_map-map}
use Rattle.std.proofs.lemmas.Simd.{map-map}
use Rattle.gql_text.specs.declared.owner_fault.OwnerFault.{OwnerFault}
use Rattle.gql_text_syntax.specs.declared.syntax.PlacedName.{PlacedName}
use Rattle.gql_text_syntax.specs.declared.syntax.Literal.{Literal, fold-roll-Literal}
use Rattle.gql_text_syntax.specs.declared.syntax.Literal.TheVariants as v
use Rattle.gql_text_syntax.specs.declared.syntax.Literal.TheVariants.{rolls-List, rolls-Object}
use Rattle.gql_text.specs.Owners.{duplicates, no_names, value_faults, value_faults_by}

pub value_faults_list : (items : List Literal) → value_faults (v.List items) ≡ flat_map value_faults items
value_faults_list items = ap value_faults (sym (rolls-List items)) ∙ fold-roll-Literal (List OwnerFault) value_faults_by _ ∙ flat_map-map (λ faults. faults) value_faults items

folded : PlacedName × Literal → PlacedName × List OwnerFault
folded e = (e.0, value_faults e.1)

keys_stay : (entries : List (PlacedName × Literal)) → map (λ e. e.0) (map folded entries) ≡ map (λ e. e.0) entries
unfolding folded
keys_stay entries = map-map (λ e. e.0) folded entries

values_stay : (entries : List (PlacedName × Literal)) → flat_map (λ e. e.1) (map folded entries) ≡ flat_map (λ e. value_faults e.1) entries
unfolding folded
values_stay entries = flat_map-map (λ e. e.1) folded entries

pub value_faults_object : (entries : List (PlacedName × Literal)) → value_faults (v.Object entries) ≡ duplicates no_names (map (λ e. e.0) entries) ++ flat_map (λ e. value_faults e.1) entries
unfolding folded
value_faults_object entries = ap value_faults (sym (rolls-Object entries)) ∙ fold-roll-Literal (List OwnerFault) value_faults_by _ ∙ ap₂ (λ a b. a ++ b) (ap (duplicates no_names) (keys_stay entries)) (values_stay entries)
