-- Values without the places of their keys, one level at a time.
use Rattle.std.proofs.Common.{◌≡◌, ℕ, List, map, sym, ap, ◌∙◌}
use Rattle.std.proofs.lemmas.Simd.{map-map}
use Rattle.gql_text_values.specs.declared.const_value.ConstValue.{ConstValue}
use Rattle.gql_text_values.specs.declared.const_value.ConstValue.TheVariants as value
use Rattle.gql_text_syntax.specs.declared.syntax.PlacedName.{PlacedName}
use Rattle.gql_text_syntax.specs.declared.syntax.Literal.{Literal, fold-roll-Literal}
use Rattle.gql_text_syntax.specs.declared.syntax.Literal.TheVariants as v
use Rattle.gql_text_syntax.specs.declared.syntax.Literal.TheVariants.{rolls-List, rolls-Object}
use Rattle.gql_text.specs.DocumentOf.{const_value_of, const_value_by, const_entry_of}

pub const_list : (items : List Literal) → const_value_of (v.List items) ≡ value.List (map const_value_of items)
const_list items = ap const_value_of (sym (rolls-List items)) ∙ fold-roll-Literal ConstValue const_value_by _

folded : PlacedName × Literal → PlacedName × ConstValue
folded e = (e.0, const_value_of e.1)

entry : PlacedName × ConstValue → List ℕ × ConstValue
entry e = (e.0.name, e.1)

entries_stay : (entries : List (PlacedName × Literal)) → map entry (map folded entries) ≡ map const_entry_of entries
unfolding folded entry
entries_stay entries = map-map entry folded entries

pub const_object : (entries : List (PlacedName × Literal)) → const_value_of (v.Object entries) ≡ value.Object (map const_entry_of entries)
unfolding folded entry
const_object entries = ap const_value_of (sym (rolls-Object entries)) ∙ fold-roll-Literal ConstValue const_value_by _ ∙ ap value.Object (entries_stay entries)

-- one level of a value that has others in it
pub ruleset const_values = (const_list, const_object)
