-- A name of a location stands for that location.
use Rattle.std.proofs.Common.{◌≡◌, ℕ, Bool, true, false, cond, List, [], ◌∷◌, map, Option, Some, None, refl, sym, ap₂, subst, ◌∙◌}
use Rattle.std.specs.Prelude.{◌==◌, if◌then◌else◌}
use Rattle.std.specs.Cmp.Lexicographic.{bytes_decides}
use Rattle.std.specs.List.{AllByRecursion, filter_map, find}
use Rattle.std.specs.Str.{bytes_eq}
use Rattle.gql_grammar.specs.Form.{among}
use Rattle.gql_text_syntax.specs.Sorts.{code, only, sort_in, or_else, word_in, definition_words, other_words, locations, no_definition_word_sort, name_sort}
use Rattle.gql_text_syntax.specs.declared.sort.Sort.TheVariants.{Location, OtherName}
use Rattle.gql_registry_meta.specs.Parts.{Text}
use Rattle.gql_registry_meta.specs.Locations.{location_text}
use Rattle.gql_registry_meta.specs.declared.directive_location.DirectiveLocation.{DirectiveLocation}
use Rattle.gql_publish_document.specs.Types.{all_locations, location_named}
use Rattle.gql_sdl_rows.proofs.Parts.{IsLocation}

pub turned : (a b : Text) → bytes_eq a b ≡ bytes_eq b a
turned a b = by_tests (bytes_eq a b) (bytes_eq b a) refl refl
  where
    by_tests : (x y : Bool) → bytes_eq a b ≡ x → bytes_eq b a ≡ y → x ≡ y
    by_tests true true e f = refl
    by_tests true false e f = sym ((bytes_decides b a).1 (sym ((bytes_decides a b).0 e))) ∙ f
    by_tests false true e f = sym e ∙ (bytes_decides a b).1 (sym ((bytes_decides b a).0 f))
    by_tests false false e f = refl

-- ---- sorts of names that are no locations

abbrev IsOther : ℕ → Type 0
IsOther sort = among sort (only Location) ≡ false

others : (rows : List (Text × ℕ)) (text : Text) (other : ℕ) → AllByRecursion (λ row. IsOther row.1) rows → IsOther other → IsOther (sort_in rows text other)
others [] text other a o = o
others (row ∷ rows) text other a o = by_test (bytes_eq text row.0) a.0 (others rows text other a.1 o)
  where
    by_test : (t : Bool) → IsOther row.1 → IsOther (sort_in rows text other) → IsOther (if t then row.1 else sort_in rows text other)
    by_test true p q = p
    by_test false p q = q

either : (sort other : ℕ) → IsOther sort → IsOther other → IsOther (or_else sort other)
either sort other p q = by_test (sort == code OtherName)
  where
    by_test : (t : Bool) → IsOther (if t then other else sort)
    by_test true = q
    by_test false = p

no_row : (t : Bool) (place : DirectiveLocation) (name : Text) (rest : Option DirectiveLocation) → cond t (Some place) rest ≡ None → (t ≡ false) × (rest ≡ None)
no_row true place name rest e = absurd cc
no_row false place name rest e = (refl, e)

abbrev rows_of : List DirectiveLocation → List (Text × ℕ)
rows_of places = map (λ (l : DirectiveLocation). (location_text l, code Location)) places

not_found : (places : List DirectiveLocation) (name : Text) (other : ℕ) → find (λ place. bytes_eq name (location_text place)) places ≡ None → sort_in (rows_of places) name other ≡ other
not_found [] name other e = refl
not_found (l ∷ places) name other e =
    let tests = no_row (bytes_eq name (location_text l)) l name (find (λ place. bytes_eq name (location_text place)) places) e in
    rw tests.0 (not_found places name other tests.1)

-- a name that names no location has another sort
no_location : (name : Text) → location_named name ≡ None → IsOther (name_sort name)
no_location name e =
    let table : word_in locations name ≡ code OtherName = not_found all_locations name (code OtherName) e in
    either (word_in definition_words name) (no_definition_word_sort name) (others definition_words name (code OtherName) (refl, (refl, (refl, (refl, (refl, (refl, (refl, (refl, (refl, tt))))))))) refl)
    (either (word_in other_words name) (word_in locations name) (others other_words name (code OtherName) (refl, (refl, (refl, (refl, (refl, (refl, (refl, (refl, (refl, tt))))))))) refl)
    (subst IsOther (sym table) refl))

found : (places : List DirectiveLocation) (name : Text) (l : DirectiveLocation) → find (λ place. bytes_eq name (location_text place)) places ≡ Some l → location_text l ≡ name
found [] name l e = absurd cc
found (p ∷ places) name l e = by_test (bytes_eq name (location_text p)) refl e (λ f. found places name l f)
  where
    by_test : (t : Bool) → bytes_eq name (location_text p) ≡ t → cond t (Some p) (find (λ place. bytes_eq name (location_text place)) places) ≡ Some l
        → (find (λ place. bytes_eq name (location_text place)) places ≡ Some l → location_text l ≡ name) → location_text l ≡ name
    by_test true f g h = let same : p ≡ l = cc in subst (λ (q : DirectiveLocation). location_text q ≡ name) same (sym ((bytes_decides name (location_text p)).0 f))
    by_test false f g h = h g

one_location : (name : Text) (names : List Text) → IsLocation name → map location_text (filter_map location_named names) ≡ names → map location_text (filter_map location_named (name ∷ names)) ≡ name ∷ names
one_location name names i h = by_name (location_named name) refl
  where
    by_name : (o : Option DirectiveLocation) → location_named name ≡ o → map location_text (filter_map location_named (name ∷ names)) ≡ name ∷ names
    by_name None e = let clash : true ≡ false = sym i.1 ∙ no_location name e in absurd cc
    by_name (Some l) e = rw e (ap₂ (λ (t : Text) (ts : List Text). t ∷ ts) (found all_locations name l e) h)

-- names of locations are the words of what they stand for
pub locations_are : (names : List Text) → AllByRecursion IsLocation names → map location_text (filter_map location_named names) ≡ names
locations_are [] a = refl
locations_are (name ∷ names) a = one_location name names a.0 (locations_are names a.1)
