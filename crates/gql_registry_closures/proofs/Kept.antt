-- Names that are kept, and lists of them.
use Rattle.std.proofs.Common.{arith, Bor, ℕ, suc, ◌+◌, ◌<◌, length, get_or, take, ◌⊎◌, inl, inr, ◌≡◌, Bool, true, false, ◌&&◌, ◌||◌, cond, List, [], ◌∷◌, ◌++◌, map, filter, append_assoc, refl, ap, sym, ◌∙◌}
use Rattle.std.proofs.lemmas.Bool.{false≢true, and_from, and_parts, or_cases}
use Rattle.std.proofs.lemmas.List.Folds.{list_any-append}
use Rattle.std.proofs.lemmas.Map.Text.{is_eq-slice_cmp}
use Rattle.std.specs.BTreeSet.{insert_key}
use Rattle.std.specs.List.{AllByRecursion, IsDistinct}
use Rattle.std.specs.List.Sorted.{IsStrictlySortedBy}
use Rattle.std.proofs.lemmas.Map.Keys.{IsDistinct-from_sorted}
use Rattle.std.specs.Ordering.{match_ordering, is_eq, eq_by_cmp}
use Rattle.std.specs.String.{string_cmp}
use Rattle.std.specs.declared.cmp.Ordering.{Ordering}
use Rattle.std.specs.declared.cmp.Ordering.TheVariants.{Less, Equal, Greater}
use Rattle.std.specs.declared.string.String.{String}
use Rattle.std.specs.declared.alloc.Global.{Global}
use Rattle.std.specs.Str.{bytes_eq}
use Rattle.gql_registry_meta.specs.Parts.{Text, text_cmp, is_among}
use Rattle.gql_registry_meta.specs.Views.{text_of, texts_in}
use Rattle.gql_registry_meta.proofs.Borrowed.{texts_last}
use Rattle.std.proofs.Math.Seq.{take-suc}
use Rattle.gql_registry_closures.specs.Reached.{is_system_name}
use Rattle.gql_registry_closures.specs.Answers.{Tells, Leaves, HoldsExactly}
use Rattle.gql_registry_closures.specs.Walk.{is_name_marked, is_name_kept, left_of}
use Rattle.gql_registry_closures.proofs.Places.{same_text}

pub or_left : (a b : Bool) → a ≡ true → (a || b) ≡ true
or_left true b e = refl
or_left false b e = absurd (false≢true e)

pub or_right : (a b : Bool) → b ≡ true → (a || b) ≡ true
or_right true b e = refl
or_right false b e = e

-- kept are system names, and those of which the marks tell
pub kept_tells : (names : List Text) (marks : List Bool) (S : Text → Type 0) → Tells (is_name_marked names marks) S → Tells (is_name_kept names marks) (λ name. (is_system_name name ≡ true) ⊎ S name)
kept_tells names marks S tells name = (
  λ k. elim (or_cases (is_system_name name) (is_name_marked names marks name) k) [ inl s ↦ inl s | inr m ↦ inr ((tells name).0 m) ],
  λ k. elim k [
    | inl s ↦ or_left (is_system_name name) (is_name_marked names marks name) s
    | inr m ↦ or_right (is_system_name name) (is_name_marked names marks name) ((tells name).1 m)
  ],
)

pub leaves : (names : List Text) (marks : List Bool) (S : Text → Type 0) (left : List Text) → Tells (is_name_marked names marks) S → left ≡ left_of names marks names → Leaves (λ name. (is_system_name name ≡ true) ⊎ S name) names left
leaves names marks S left tells e = (is_name_kept names marks, kept_tells names marks S tells, e)

module _ (test : Text → Bool) (name : Text) where
  among_by : (x : Text) (xs : List Text) (b : Bool) → test x ≡ b → is_among name (filter test xs) ≡ (is_among name xs && test name) → is_among name (cond b (x ∷ filter test xs) (filter test xs)) ≡ (is_among name (x ∷ xs) && test name)
  among_by x xs true e ih = first (bytes_eq name x) refl
    where
      first : (b : Bool) → bytes_eq name x ≡ b → (b || is_among name (filter test xs)) ≡ ((b || is_among name xs) && test name)
      first true s = sym (ap test (same_text name x s) ∙ e)
      first false s = ih
  among_by x xs false e ih = first (bytes_eq name x) refl
    where
      both_false : (b c : Bool) → b ≡ (c && false) → b ≡ false
      both_false b true h = h
      both_false b false h = h

      first : (b : Bool) → bytes_eq name x ≡ b → is_among name (filter test xs) ≡ ((b || is_among name xs) && test name)
      first true s = let f : test name ≡ false = ap test (same_text name x s) ∙ e in
          both_false (is_among name (filter test xs)) (is_among name xs) (ih ∙ ap (λ t. is_among name xs && t) f) ∙ sym f
      first false s = ih

  -- what is among those that pass
  pub among_filter : (xs : List Text) → is_among name (filter test xs) ≡ (is_among name xs && test name)
  among_filter [] = refl
  among_filter (x ∷ xs) = among_by x xs (test x) refl (among_filter xs)

pub holds_exactly : (names : List Text) (marks : List Bool) (S : Text → Type 0) (set : List Text) → Tells (is_name_marked names marks) S → ((name : Text) → is_among name set ≡ is_among name (filter (is_name_kept names marks) names)) → HoldsExactly (λ name. (is_system_name name ≡ true) ⊎ S name) names set
holds_exactly names marks S set tells same name =
    let whole : is_among name set ≡ (is_among name names && is_name_kept names marks name) = same name ∙ among_filter (is_name_kept names marks) name names in
    let kept = kept_tells names marks S tells name in (
      λ k. let parts = and_parts (is_among name names) (is_name_kept names marks name) (sym whole ∙ k) in (parts.0, kept.0 parts.1),
      λ h. whole ∙ and_from (is_among name names) (is_name_kept names marks name) h.0 (kept.1 h.1),
    )

-- ---- lists and sets, name by name

first-passing : {X : Type 0} (p : X → Bool) (x : X) (xs : List X) (b : Bool) → cond b (x ∷ []) [] ++ filter p xs ≡ cond b (x ∷ filter p xs) (filter p xs)
first-passing p x xs true = refl
first-passing p x xs false = refl

-- those that pass, one by one
pub first_passing : {X : Type 0} (p : X → Bool) (x : X) (xs : List X) → filter p (x ∷ []) ++ filter p xs ≡ filter p (x ∷ xs)
first_passing p x xs = first-passing p x xs (p x)

-- one name more
pub one_left : (p : Text → Bool) (before middle whole : List Text) (x : String Global) (it rest : List (String Global)) → middle ≡ before ++ filter p (text_of x ∷ []) → it ≡ x ∷ rest → before ++ filter p (map text_of it) ≡ whole → middle ++ filter p (map text_of rest) ≡ whole
one_left p before middle whole x it rest m i w =
    ap (λ l. l ++ filter p (map text_of rest)) m
    ∙ append_assoc before (filter p (text_of x ∷ [])) (filter p (map text_of rest))
    ∙ ap (λ l. before ++ l) (first_passing p (text_of x) (map text_of rest))
    ∙ sym (ap (λ l. before ++ filter p (map text_of l)) i) ∙ w

or_assoc : (a b c : Bool) → ((a || b) || c) ≡ (a || (b || c))
or_assoc true b c = refl
or_assoc false b c = refl

pub one_kept : (p : Text → Bool) (other : Text) (before middle : List Text) (whole : Bool) (x : String Global) (it rest : List (String Global)) → is_among other middle ≡ (is_among other before || is_among other (filter p (text_of x ∷ []))) → it ≡ x ∷ rest → (is_among other before || is_among other (filter p (map text_of it))) ≡ whole → (is_among other middle || is_among other (filter p (map text_of rest))) ≡ whole
one_kept p other before middle whole x it rest m i w =
    ap (λ b. b || is_among other (filter p (map text_of rest))) m
    ∙ or_assoc (is_among other before) (is_among other (filter p (text_of x ∷ []))) (is_among other (filter p (map text_of rest)))
    ∙ ap (λ b. is_among other before || b) (sym (list_any-append (bytes_eq other) (filter p (text_of x ∷ [])) (filter p (map text_of rest))))
    ∙ ap (λ l. is_among other before || is_among other l) (first_passing p (text_of x) (map text_of rest))
    ∙ sym (ap (λ l. is_among other before || is_among other (filter p (map text_of l))) i) ∙ w

pub all_kept : (p : Text → Bool) (other : Text) (after : List Text) (whole : Bool) (it : List (String Global)) → it ≡ [] → (is_among other after || is_among other (filter p (map text_of it))) ≡ whole → is_among other after ≡ whole
all_kept p other after whole it i w = sym (or-false (is_among other after)) ∙ sym (ap (λ l. is_among other after || is_among other (filter p (map text_of l))) i) ∙ w
  where
    or-false : (b : Bool) → (b || false) ≡ b
    or-false true = refl
    or-false false = refl

or_swap : (a b : Bool) → (a || b) ≡ (b || (a || false))
or_swap true true = refl
or_swap true false = refl
or_swap false true = refl
or_swap false false = refl

or_again : (a b : Bool) → (a || b) ≡ ((a || b) || (a || false))
or_again true b = refl
or_again false true = refl
or_again false false = refl

inserted-by : (other : Text) (k x : String Global) (xs : List (String Global)) (o : Ordering) → (is_eq o ≡ true → text_of k ≡ text_of x) → is_among other (map text_of (insert_key string_cmp xs k)) ≡ (is_among other (map text_of xs) || (bytes_eq other (text_of k) || false)) → is_among other (map text_of (match_ordering o (k ∷ x ∷ xs) (x ∷ xs) (x ∷ insert_key string_cmp xs k))) ≡ (is_among other (map text_of (x ∷ xs)) || (bytes_eq other (text_of k) || false))
inserted-by other k x xs Less same ih = or_swap (bytes_eq other (text_of k)) (is_among other (map text_of (x ∷ xs)))
inserted-by other k x xs Equal same ih =
    or_again (bytes_eq other (text_of x)) (is_among other (map text_of xs))
    ∙ ap (λ t. is_among other (map text_of (x ∷ xs)) || (bytes_eq other t || false)) (sym (same refl))
inserted-by other k x xs Greater same ih =
    ap (λ b. bytes_eq other (text_of x) || b) ih
    ∙ sym (or_assoc (bytes_eq other (text_of x)) (is_among other (map text_of xs)) (bytes_eq other (text_of k) || false))

-- what is among the names of a set with one more
pub inserted : (other : Text) (ks : List (String Global)) (k : String Global) → is_among other (map text_of (insert_key string_cmp ks k)) ≡ (is_among other (map text_of ks) || is_among other (text_of k ∷ []))
inserted other [] k = refl
inserted other (x ∷ xs) k = inserted-by other k x xs (string_cmp k x) (λ e. same_text (text_of k) (text_of x) (sym (is_eq-slice_cmp (text_of k) (text_of x)) ∙ e)) (inserted other xs k)

-- ---- names in order

apart_texts : (k : String Global) (ks : List (String Global)) → AllByRecursion (λ q. eq_by_cmp string_cmp k q ≡ false) ks → AllByRecursion (λ t. bytes_eq (text_of k) t ≡ false) (map text_of ks)
apart_texts k [] h = tt
apart_texts k (q ∷ ks) h = (sym (is_eq-slice_cmp (text_of k) (text_of q)) ∙ h.0, apart_texts k ks h.1)

distinct_texts : (ks : List (String Global)) → IsDistinct (eq_by_cmp string_cmp) ks → IsDistinct bytes_eq (map text_of ks)
unfolding IsDistinct
distinct_texts [] h = tt
distinct_texts (k ∷ ks) h = (apart_texts k ks h.0, distinct_texts ks h.1)

-- names that ascend are distinct
pub ascending_distinct : (ks : List (String Global)) → IsStrictlySortedBy string_cmp ks → IsDistinct bytes_eq (map text_of ks)
ascending_distinct ks h = distinct_texts ks (IsDistinct-from_sorted string_cmp ks h)

-- ---- the texts of a list, each once

pub ordered_texts : (ks : List (String Global)) → IsStrictlySortedBy string_cmp ks → IsStrictlySortedBy text_cmp (map text_of ks)
unfolding IsStrictlySortedBy
ordered_texts [] h = tt
ordered_texts (k ∷ ks) h = (below k ks h.0, ordered_texts ks h.1)
  where
    below : (k : String Global) (ks : List (String Global)) → AllByRecursion (λ q. string_cmp k q ≡ Less) ks → AllByRecursion (λ t. text_cmp (text_of k) t ≡ Less) (map text_of ks)
    below k [] a = tt
    below k (q ∷ qs) a = (a.0, below k qs a.1)

-- one text more of a list
pub taken_more : (xs : List (Bor Text)) (i : ℕ) (d : Bor Text) → i < length xs → texts_in (take (i + 1) xs) ≡ texts_in (take i xs) ++ (get_or xs i d).now ∷ []
taken_more xs i d below =
    let step : i + 1 ≡ suc i = search (arith) in
    ap (λ n. texts_in (take n xs)) step ∙ ap texts_in (take-suc xs i d below) ∙ texts_last (take i xs) (get_or xs i d)

pub set_more : (other : Text) (before : List (String Global)) (xs : List (Bor Text)) (i : ℕ) (d : Bor Text) (k : String Global) → i < length xs → text_of k ≡ (get_or xs i d).now → is_among other (map text_of before) ≡ is_among other (texts_in (take i xs)) → is_among other (map text_of (insert_key string_cmp before k)) ≡ is_among other (texts_in (take (i + 1) xs))
set_more other before xs i d k below same h =
    inserted other before k
    ∙ ap (λ b. b || is_among other (text_of k ∷ [])) h
    ∙ ap (λ t. is_among other (texts_in (take i xs)) || is_among other (t ∷ [])) same
    ∙ sym (list_any-append (bytes_eq other) (texts_in (take i xs)) ((get_or xs i d).now ∷ []))
    ∙ ap (is_among other) (sym (taken_more xs i d below))
