-- A set after one more name.
use Rattle.std.proofs.Common.{◌≡◌, ℕ, ◌+◌, ◌<◌, Bool, true, false, cond, List, [], length, take, drop, ◌++◌, get_or, refl, sym, ◌∙◌, ap, Bor, Some, None, arith, map, ◌∷◌}
use Rattle.std.specs.Prelude.{◌||◌}
use mathlib.Core.Path.{fun_ext}
use Rattle.std.specs.BTreeSet.{BTreeSet, UpdatesBy}
use Rattle.std.specs.Cmp.Lexicographic.{slice_cmp}
use Rattle.std.specs.Ordering.{nat_cmp, is_eq}
use Rattle.std.specs.List.{list_any, filter_map, cons_option}
use Rattle.std.specs.declared.option.Option.{Option}
use Rattle.std.specs.Str.{bytes_eq}
use Rattle.std.proofs.lemmas.Map.Text.{is_eq-slice_cmp}
use Rattle.gql_text.specs.declared.owner_fault.OwnerFault.{OwnerFault}
use Rattle.gql_text_syntax.specs.declared.syntax.PlacedName.{PlacedName}
use Rattle.gql_text.specs.Faults.{first_after}
use Rattle.gql_text.specs.Owners.{Names, with_seen_name, no_names, duplicates, repeated}
use Rattle.gql_text.specs.Seen.{names_among, names_in, with_key, key_faults}
use Rattle.std.proofs.lemmas.List.{take_more}
use Rattle.std.proofs.lemmas.List.Folds.{list_any-append}
use Rattle.gql_text.proofs.First.{first_after_append, left_at}

either : (b c : Bool) → cond b true c ≡ (b || c)
either true c = refl
either false c = refl

pub entered : (name : List ℕ) (old new : BTreeSet (Bor (List ℕ))) → UpdatesBy (λ x y. slice_cmp nat_cmp x.now y.now) (λ k. slice_cmp nat_cmp name k.now) old new true → names_in new ≡ with_seen_name name (names_in old)
entered name old new updates = fun_ext (λ x.
    let q : Bor (List ℕ) = record { ref_ptr = (0, 0); now = x } in
    updates.0 q ∙ rw (is_eq-slice_cmp name x) (either (bytes_eq name x) _))

-- a set as it is made
pub none_yet : (names : BTreeSet (Bor (List ℕ))) → names.keys ≡ [] → names_in names ≡ no_names
none_yet names e = ap (λ (keys : List (Bor (List ℕ))). λ name. list_any (λ k. is_eq (slice_cmp nat_cmp name k.now)) keys) e

next_key : (key : Option PlacedName) (keys : List PlacedName) (earlier : Names) (found : Option OwnerFault) → first_after found (duplicates earlier (cons_option key keys)) ≡ first_after (first_after found (key_faults key earlier)) (duplicates (with_key key earlier) keys)
next_key None keys earlier found = refl
next_key (Some key) keys earlier found = first_after_append found (repeated earlier key.name key.at) (duplicates (with_seen_name key.name earlier) keys)

-- what is left of the items that may give a name, after one of them
pub keys_left : {X : Type 0} (key : X → Option PlacedName) (xs : List X) (k : ℕ) (x : X) (earlier new : Names) (found now all : Option OwnerFault) → k < length xs → x ≡ get_or xs k x
    → new ≡ with_key (key x) earlier → now ≡ first_after found (key_faults (key x) earlier)
    → first_after found (duplicates earlier (filter_map key (drop k xs))) ≡ all → first_after now (duplicates new (filter_map key (drop (k + 1) xs))) ≡ all
keys_left key xs k x earlier new found now all below is names faults before =
    rw (names, faults) (sym (next_key (key x) (filter_map key (drop (k + 1) xs)) earlier found) ∙ rw (left_at xs k x below is) at before)

-- A name alone repeats none.
alone : (key : Option PlacedName) → duplicates no_names (cons_option key []) ≡ []
alone None = refl
alone (Some key) = refl

pub few_options : {X : Type 0} (key : X → Option PlacedName) (xs : List X) → length xs < 2 → duplicates no_names (filter_map key xs) ≡ []
few_options key [] h = refl
few_options key (x ∷ []) h = alone (key x)
few_options key (x ∷ y ∷ xs) h = absurd (omega arith)

-- ---- names without a set

or_swap : (b c : Bool) → (b || (c || false)) ≡ (c || b)
or_swap true true = refl
or_swap true false = refl
or_swap false true = refl
or_swap false false = refl

-- the names of the items before the next one
pub names_more : {X : Type 0} (key : X → PlacedName) (xs : List X) (k : ℕ) (x : X) → k < length xs → x ≡ get_or xs k x → names_among key (take (k + 1) xs) ≡ with_seen_name (key x).name (names_among key (take k xs))
names_more key xs k x below is = fun_ext (λ name.
    let more : take (k + 1) xs ≡ take k xs ++ x ∷ [] = take_more xs k x below ∙ ap (λ y. take k xs ++ y ∷ []) (sym is) in
    rw (more, list_any-append (λ y. bytes_eq (key y).name name) (take k xs) (x ∷ []))
    (or_swap (list_any (λ y. bytes_eq (key y).name name) (take k xs)) (bytes_eq (key x).name name)))

-- what is left after one more item
pub names_left : {X : Type 0} (key : X → PlacedName) (xs : List X) (k : ℕ) (x : X) (found now all : Option OwnerFault) → k < length xs → x ≡ get_or xs k x
    → now ≡ first_after found (repeated (names_among key (take k xs)) (key x).name (key x).at)
    → first_after found (duplicates (names_among key (take k xs)) (map key (drop k xs))) ≡ all
    → first_after now (duplicates (names_among key (take (k + 1) xs)) (map key (drop (k + 1) xs))) ≡ all
names_left key xs k x found now all below is faults before =
    let seen = names_among key (take k xs) in
    let step = first_after_append found (repeated seen (key x).name (key x).at) (duplicates (with_seen_name (key x).name seen) (map key (drop (k + 1) xs))) in
    rw (faults, names_more key xs k x below is) (sym step ∙ rw (left_at xs k x below is) at before)
