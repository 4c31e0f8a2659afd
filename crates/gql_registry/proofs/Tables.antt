-- Rows with distinct names, each put in turn.
use Rattle.std.proofs.Common.{◌≡◌, Bool, true, false, ◌||◌, ◌&&◌, not, List, [], ◌∷◌, fold, refl, ap, ◌∙◌, Bor}
use Rattle.std.specs.List.{AllByRecursion, IsDistinct}
use Rattle.std.specs.Map.{keys_of}
use Rattle.std.specs.Str.{bytes_eq}
use Rattle.indexmap.specs.IndexMap.{insert_all}
use Rattle.gql_registry_meta.specs.Parts.{Text, is_among, Field, EnumValue}
use Rattle.gql_registry_meta.specs.Views.{texts_in}
use Rattle.gql_registry_meta.proofs.Distinct.{inserted_anew}
use Rattle.gql_registry.specs.Tables.{are_distinct, with_value, all_values, field_at, with_row, all_rows, row_names}
use Rattle.gql_registry.specs.declared.introspection.Row.{Row}

first_false : (a b : Bool) → not (a || b) ≡ true → a ≡ false
first_false true b e = cc e
first_false false b e = refl

second_off : (a b : Bool) → not (a || b) ≡ true → not b ≡ true
second_off true b e = cc e
second_off false b e = e

both_first : (a b : Bool) → (a && b) ≡ true → a ≡ true
both_first true b e = refl
both_first false b e = cc e

both_second : (a b : Bool) → (a && b) ≡ true → b ≡ true
both_second true b e = e
both_second false b e = cc e

none_equal : (name : Text) (names : List Text) → not (is_among name names) ≡ true → AllByRecursion (λ other. bytes_eq name other ≡ false) names
none_equal name [] e = tt
none_equal name (other ∷ names) e = (first_false (bytes_eq name other) (is_among name names) e, none_equal name names (second_off (bytes_eq name other) (is_among name names) e))

-- the test finds no name twice
pub distinct_names : (names : List Text) → are_distinct names ≡ true → IsDistinct bytes_eq names
unfolding IsDistinct
distinct_names [] e = tt
distinct_names (name ∷ names) e =
    (none_equal name names (both_first (not (is_among name names)) (are_distinct names) e), distinct_names names (both_second (not (is_among name names)) (are_distinct names) e))

-- ---- values of an enum

values_inserted : (done : List (Text × EnumValue)) (names : List (Bor Text)) → fold (λ values name. with_value values name.now) done names ≡ insert_all bytes_eq done (all_values names)
values_inserted done [] = refl
values_inserted done (name ∷ names) = values_inserted (with_value done name.now) names

value_keys : (names : List (Bor Text)) → keys_of (all_values names) ≡ texts_in names
value_keys [] = refl
value_keys (name ∷ names) = ap (λ l. name.now ∷ l) (value_keys names)

-- a value of each name, put in turn
pub values_put : (names : List (Bor Text)) → are_distinct (texts_in names) ≡ true → fold (λ values name. with_value values name.now) [] names ≡ all_values names
values_put names distinct = values_inserted [] names ∙ inserted_anew (all_values names) (rw (value_keys names) (distinct_names (texts_in names) distinct))

-- ---- fields

rows_inserted : (done : List (Text × Field)) (rows : List Row) → fold with_row done rows ≡ insert_all bytes_eq done (all_rows rows)
rows_inserted done [] = refl
rows_inserted done (row ∷ rows) = rows_inserted (with_row done row) rows

row_keys : (rows : List Row) → keys_of (all_rows rows) ≡ row_names rows
row_keys [] = refl
row_keys (row ∷ rows) = ap (λ l. (field_at row).name ∷ l) (row_keys rows)

-- a field of each row, put in turn
pub rows_put : (rows : List Row) → are_distinct (row_names rows) ≡ true → fold with_row [] rows ≡ all_rows rows
rows_put rows distinct = rows_inserted [] rows ∙ inserted_anew (all_rows rows) (rw (row_keys rows) (distinct_names (row_names rows) distinct))
