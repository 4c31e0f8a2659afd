-- The parts that are asked, and what is left where types are removed.
use Rattle.std.proofs.Common.{arith, ◌≡◌, ℕ, suc, ◌+◌, ◌<◌, ◌≤◌, Bool, true, false, not, ◌&&◌, ◌||◌, cond, List, [], ◌∷◌, ◌++◌, map, filter, take, length, get_or, refl, ap, sym, ◌∙◌, subst}
use Rattle.std.proofs.lemmas.Bool.{false≢true, true≢false}
use Rattle.std.proofs.lemmas.List.{length-map, take_all}
use Rattle.std.proofs.lemmas.List.Folds.{list_any-append}
use Rattle.std.proofs.Math.ListN.{get_or-map}
use Rattle.std.proofs.Math.Seq.{take-suc}
use Rattle.std.specs.List.{AllByRecursion}
use Rattle.std.specs.Map.{keys_of}
use Rattle.std.specs.Str.{bytes_eq}
use Rattle.std.specs.declared.string.String.{String}
use Rattle.std.specs.declared.alloc.Global.{Global}
use Rattle.gql_registry_meta.specs.Parts.{Text, at_text, is_among, Meta, Directive}
use Rattle.gql_registry_meta.specs.Views.{text_of}
use Rattle.gql_registry_closures.specs.Links.{Parts}
use Rattle.gql_registry_closures.specs.Reached.{Needed}
use Rattle.gql_registry_closures.specs.Answers.{Tells, Leaves}
use Rattle.gql_registry_closures.proofs.Kept.{among_filter}
use Rattle.gql_registry_closures.proofs.Places.{same_text, text_same}
use Rattle.gql_registry_closures.proofs.Again.{stays, kept_still}
use Rattle.gql_registry.specs.Registry.{Contents}
use Rattle.gql_registry.specs.Created.{without, without_all}
use Rattle.gql_registry.specs.Asked.{parts_in, with_types_that, KeepsUsed}

abbrev parts_with : List (Text × Meta) → List (Text × Directive) → List Text → Parts
parts_with t d r = record { types = t; directives = d; roots = r }

-- parts are the same where each of the three is
pub same_parts : (t u : List (Text × Meta)) (d e : List (Text × Directive)) (r s : List Text) → t ≡ u → d ≡ e → r ≡ s → parts_with t d r ≡ parts_with u e s
same_parts t u d e r s p q o = ap (λ x. parts_with x d r) p ∙ ap (λ x. parts_with u x r) q ∙ ap (λ x. parts_with u e x) o

-- ---- lists that pass tests

filter_equal : {X : Type 0} (p q : X → Bool) → ((x : X) → p x ≡ q x) → (xs : List X) → filter p xs ≡ filter q xs
filter_equal p q h [] = refl
filter_equal p q h (x ∷ xs) = ap (λ b. cond b (x ∷ filter p xs) (filter p xs)) (h x) ∙ ap (λ l. cond (q x) (x ∷ l) l) (filter_equal p q h xs)

filter_alike : {X : Type 0} (p q : X → Bool) (xs : List X) → AllByRecursion (λ x. p x ≡ q x) xs → filter p xs ≡ filter q xs
filter_alike p q [] h = refl
filter_alike p q (x ∷ xs) h = ap (λ b. cond b (x ∷ filter p xs) (filter p xs)) h.0 ∙ ap (λ l. cond (q x) (x ∷ l) l) (filter_alike p q xs h.1)

filter_twice : {X : Type 0} (p q : X → Bool) (xs : List X) → filter q (filter p xs) ≡ filter (λ x. p x && q x) xs
filter_twice p q [] = refl
filter_twice p q (x ∷ xs) = by (p x) (q x) refl (filter_twice p q xs)
  where
    by : (b c : Bool) → q x ≡ c → filter q (filter p xs) ≡ filter (λ x. p x && q x) xs
        → filter q (cond b (x ∷ filter p xs) (filter p xs)) ≡ cond (b && c) (x ∷ filter (λ x. p x && q x) xs) (filter (λ x. p x && q x) xs)
    by true c e ih = ap (λ t. cond t (x ∷ filter q (filter p xs)) (filter q (filter p xs))) e ∙ ap (λ l. cond c (x ∷ l) l) ih
    by false c e ih = ih

all_pass : {X : Type 0} (xs : List X) → filter (λ _. true) xs ≡ xs
all_pass [] = refl
all_pass (x ∷ xs) = ap (λ l. x ∷ l) (all_pass xs)

eq_swap : (a b : Text) → bytes_eq a b ≡ bytes_eq b a
eq_swap a b = by (bytes_eq a b) (bytes_eq b a) refl refl
  where
    by : (p q : Bool) → bytes_eq a b ≡ p → bytes_eq b a ≡ q → p ≡ q
    by true true e f = refl
    by false false e f = refl
    by true false e f = absurd (true≢false (sym (text_same b a (sym (same_text a b e))) ∙ f))
    by false true e f = absurd (true≢false (sym (text_same a b (sym (same_text b a f))) ∙ e))

-- what holds of each of the names holds of each entry
by_names : {X : Type 0} (P : Text → Type 0) (es : List (Text × X)) → ((t : Text) → is_among t (keys_of es) ≡ true → P t) → AllByRecursion (λ (e : Text × X). P e.0) es
by_names P [] h = tt
by_names P (e ∷ es) h = (
  h e.0 (ap (λ b. b || is_among e.0 (keys_of es)) (text_same e.0 e.0 refl)),
  by_names P es (λ t m. h t (later (bytes_eq t e.0) (is_among t (keys_of es)) m)),
)
  where
    later : (a b : Bool) → b ≡ true → (a || b) ≡ true
    later true b m = refl
    later false b m = m

-- the names of entries that pass
names_pass : {X : Type 0} (test : Text → Bool) (t : Text) (es : List (Text × X)) → is_among t (keys_of (filter (λ (e : Text × X). test e.0) es)) ≡ true → test t ≡ true
names_pass {X = X} test t [] m = absurd (false≢true m)
names_pass {X = X} test t (e ∷ es) m = by (test e.0) refl (names_pass test t es) m
  where
    Later : Type 0
    Later = is_among t (keys_of (filter (λ (e : Text × X). test e.0) es)) ≡ true → test t ≡ true

    here : (b : Bool) → Later → bytes_eq t e.0 ≡ b → test e.0 ≡ true → (b || is_among t (keys_of (filter (λ (e : Text × X). test e.0) es))) ≡ true → test t ≡ true
    here true later s p k = ap test (same_text t e.0 s) ∙ p
    here false later s p k = later k

    by : (b : Bool) → test e.0 ≡ b → Later → is_among t (keys_of (cond b (e ∷ filter (λ (e : Text × X). test e.0) es) (filter (λ (e : Text × X). test e.0) es))) ≡ true → test t ≡ true
    by true p later k = here (bytes_eq t e.0) later refl p k
    by false p later k = later k

-- ---- what is taken out

-- nothing is taken out
pub none_out : (before : Contents) → before ≡ without_all before []
none_out before = ap (λ types. record before { types = types }) (sym (all_pass before.types))

apart : (a b : Bool) → (not a && not b) ≡ not (a || (b || false))
apart true b = refl
apart false true = refl
apart false false = refl

-- one name more
one_out : (before : Contents) (names : List Text) (name : Text) → without (without_all before names) name ≡ without_all before (names ++ name ∷ [])
one_out before names name =
    ap (λ types. record before { types = types })
    (filter_twice (λ (e : Text × Meta). not (is_among e.0 names)) (λ (e : Text × Meta). not (bytes_eq name e.0)) before.types
    ∙ filter_equal _ _ (λ (e : Text × Meta).
    ap (λ b. not (is_among e.0 names) && not b) (eq_swap name e.0)
    ∙ apart (is_among e.0 names) (bytes_eq e.0 name)
    ∙ ap not (sym (list_any-append (bytes_eq e.0) names (name ∷ [])))) before.types)

-- one name more of a list
pub out_more : (before : Contents) (xs : List (String Global)) (i : ℕ) (d : String Global) → i < length xs
    → without (without_all before (take i (map text_of xs))) (text_of (get_or xs i d)) ≡ without_all before (take (i + 1) (map text_of xs))
out_more before xs i d below =
    let more : i + 1 ≡ suc i = search (arith) in
    one_out before (take i (map text_of xs)) (text_of (get_or xs i d))
    ∙ ap (without_all before)
    (ap (λ t. take i (map text_of xs) ++ t ∷ []) (sym (get_or-map text_of xs i d))
    ∙ sym (take-suc (map text_of xs) i (text_of d) (rw length-map below))
    ∙ ap (λ n. take n (map text_of xs)) (sym more))

-- all of the names
pub out_all : (before : Contents) (xs : List (String Global)) (i : ℕ) → length xs ≤ i → without_all before (take i (map text_of xs)) ≡ without_all before (map text_of xs)
out_all before xs i h = ap (without_all before) (take_all i (map text_of xs) (rw length-map h))

-- ---- what is left

not_twice : (b : Bool) → not (not b) ≡ b
not_twice true = refl
not_twice false = refl

-- where the others are taken out, those are left that pass
pub left_pass : (before : Contents) (test : Text → Bool) → without_all before (filter (λ (name : Text). not (test name)) (keys_of before.types)) ≡ with_types_that test before
left_pass before test =
    let names = keys_of before.types in
    let out = filter (λ (name : Text). not (test name)) names in
    ap (λ types. record before { types = types })
    (filter_alike (λ (e : Text × Meta). not (is_among e.0 out)) (λ (e : Text × Meta). test e.0) before.types
    (by_names (λ t. not (is_among t out) ≡ test t) before.types (λ t m.
    ap not (among_filter (λ (name : Text). not (test name)) t names ∙ ap (λ b. b && not (test t)) m)
    ∙ not_twice (test t))))

-- the registry without the names that are left is the one that keeps what is used
pub removed : (before after : Contents) (names : List Text) → Leaves (Needed (parts_in before)) (keys_of before.types) names → after ≡ without_all before names → KeepsUsed before after
removed before after names (test, tells, e) out = (test, tells, out ∙ ap (without_all before) e ∙ left_pass before test)

-- a type that is kept stands as it stood
pub kept_stays : (before after : Contents) → KeepsUsed before after → (name : Text) → Needed (parts_in before) name → at_text name after.types ≡ at_text name before.types
kept_stays before after (test, tells, e) name k =
    ap (λ (contents : Contents). at_text name contents.types) e ∙ stays test name ((tells name).1 k) before.types

-- a second removal leaves what the first left
pub kept_once : (before after third : Contents) → KeepsUsed before after → KeepsUsed after third → third ≡ after
kept_once before after third (test, tells, e) (test2, tells2, e2) =
    let left = with_types_that test before in
    let again : Tells test2 (Needed (parts_in left)) = subst (λ (contents : Contents). Tells test2 (Needed (parts_in contents))) e tells2 in
    let passes = by_names (λ t. test2 t ≡ true) left.types (λ t m.
    (again t).1 (kept_still (parts_in before) test tells t (names_pass test t before.types m))) in
    e2 ∙ ap (with_types_that test2) e
    ∙ ap (λ types. record left { types = types }) (filter_alike (λ (x : Text × Meta). test2 x.0) (λ _. true) left.types passes ∙ all_pass left.types)
    ∙ sym e
