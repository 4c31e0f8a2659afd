-- Entries in ascending order of their names: what stands under each name tells them.
use Rattle.std.proofs.Common.{◌≡◌, Bool, true, false, cond, ◌&&◌, List, [], ◌∷◌, map, filter, refl, ap, ap₂, sym, ◌∙◌, Some, None}
use Rattle.std.specs.Prelude.{if◌then◌else◌}
use Rattle.std.specs.declared.option.Option.{Option}
use Rattle.std.specs.declared.cmp.Ordering.{Ordering}
use Rattle.std.specs.declared.cmp.Ordering.TheVariants.{Less, Equal, Greater}
use Rattle.std.specs.List.{AllByRecursion, IsDistinct, list_all}
use Rattle.std.specs.Map.{keys_of, values_of}
use Rattle.std.specs.Str.{bytes_eq}
use Rattle.std.specs.Ordering.{is_lt, is_eq, ordering_reverse}
use Rattle.std.specs.Cmp.Lexicographic.{nat_list_cmp_total}
use Rattle.std.proofs.lemmas.Map.Keys.{IsDistinct-head, IsDistinct-tail}
use Rattle.std.proofs.lemmas.Map.Text.{is_eq-slice_cmp}
use Rattle.std.proofs.lemmas.Slice.Eq.{bytes_eq-Decides}
use Rattle.gql_registry_meta.specs.Parts.{Text, text_cmp, at_text}
use Rattle.gql_sdl_view.specs.Ordered.{goes_before, placed, arranged}
use Rattle.gql_publish_document.specs.Standing.{IsAscending}

-- ---- tests and names

both : (a b : Bool) → a && b ≡ true → (a ≡ true) × (b ≡ true)
both true b e = (refl, e)
both false b e = absurd cc

and_true : (a b : Bool) → a ≡ true → b ≡ true → a && b ≡ true
and_true true b p q = q
and_true false b p q = absurd cc

less : (o : Ordering) → is_lt o ≡ true → o ≡ Less
less Less e = refl
less Equal e = absurd cc
less Greater e = absurd cc

chain : (a b c : Text) → goes_before a b ≡ true → goes_before b c ≡ true → goes_before a c ≡ true
chain a b c p q = ap is_lt (nat_list_cmp_total.trans a b c (less (text_cmp a b) p) (less (text_cmp b c) q))

after_greater : (t k : Text) → text_cmp t k ≡ Greater → goes_before k t ≡ true
after_greater t k e = ap is_lt (nat_list_cmp_total.antisymm k t ∙ ap ordering_reverse e)

all_after : (a b : Text) (names : List Text) → goes_before a b ≡ true → list_all (goes_before b) names ≡ true → list_all (goes_before a) names ≡ true
all_after a b [] p q = refl
all_after a b (n ∷ ns) p q =
    let parts = both (goes_before b n) (list_all (goes_before b) ns) q in
    and_true (goes_before a n) (list_all (goes_before a) ns) (chain a b n p parts.0) (all_after a b ns p parts.1)

-- a name that goes before another is another
apart_less : (a b : Text) → goes_before a b ≡ true → bytes_eq a b ≡ false
apart_less a b p = sym (is_eq-slice_cmp a b) ∙ ap is_eq (less (text_cmp a b) p)

-- of two names that differ one goes before the other
less_apart : (a b : Text) → bytes_eq a b ≡ false → goes_before b a ≡ false → goes_before a b ≡ true
less_apart a b apart after = by (text_cmp a b) refl
  where
    by : (o : Ordering) → text_cmp a b ≡ o → is_lt o ≡ true
    by Less p = refl
    by Equal p = absurd (cc (sym apart ∙ sym (is_eq-slice_cmp a b) ∙ ap is_eq p))
    by Greater p = absurd (cc (sym after ∙ after_greater a b p))

-- ---- what stands under a name

module _ {X : Type 0} where
  pub here : (n : Text) (e : Text × X) (es : List (Text × X)) → bytes_eq n e.0 ≡ true → at_text n (e ∷ es) ≡ Some e.1
  here n e es p = ap (λ b. cond b (Some e.1) (at_text n es)) p

  pub further : (n : Text) (e : Text × X) (es : List (Text × X)) → bytes_eq n e.0 ≡ false → at_text n (e ∷ es) ≡ at_text n es
  further n e es p = ap (λ b. cond b (Some e.1) (at_text n es)) p

  none_before : (n : Text) (es : List (Text × X)) → list_all (goes_before n) (keys_of es) ≡ true → at_text n es ≡ None
  none_before n [] h = refl
  none_before n (e ∷ es) h =
      let parts = both (goes_before n e.0) (list_all (goes_before n) (keys_of es)) h in
      further n e es (apart_less n e.0 parts.0) ∙ none_before n es parts.1

  -- the first of two lists has an entry before the second begins
  no_first : (e : Text × X) (es fs : List (Text × X)) → list_all (goes_before e.0) (keys_of fs) ≡ true → at_text e.0 (e ∷ es) ≡ at_text e.0 fs → ⊥
  no_first e es fs a h = cc (sym (here e.0 e es ((bytes_eq-Decides e.0 e.0).1 refl)) ∙ h ∙ none_before e.0 fs a)

  -- the entries after two that stand under one name
  tails : (e f : Text × X) (es fs : List (Text × X)) → e.0 ≡ f.0 → list_all (goes_before e.0) (keys_of es) ≡ true → list_all (goes_before f.0) (keys_of fs) ≡ true
      → ((name : Text) → at_text name (e ∷ es) ≡ at_text name (f ∷ fs)) → (name : Text) → at_text name es ≡ at_text name fs
  tails e f es fs same a b h name = by (bytes_eq name e.0) refl
    where
      by : (t : Bool) → bytes_eq name e.0 ≡ t → at_text name es ≡ at_text name fs
      by true p =
          let is : name ≡ e.0 = (bytes_eq-Decides name e.0).0 p in
          ap (λ n. at_text n es) is ∙ none_before e.0 es a ∙ sym (ap (λ n. at_text n fs) (is ∙ same) ∙ none_before f.0 fs b)
      by false p = sym (further name e es p) ∙ h name ∙ further name f fs (sym (ap (bytes_eq name) same) ∙ p)

-- entries in ascending order, under each name of which the same stands
pub ascending_same : {X : Type 0} (es fs : List (Text × X)) → IsAscending (keys_of es) → IsAscending (keys_of fs) → ((name : Text) → at_text name es ≡ at_text name fs) → es ≡ fs
ascending_same [] [] a b h = refl
ascending_same [] (f ∷ fs) a b h = absurd (no_first f fs [] refl (sym (h f.0)))
ascending_same (e ∷ es) [] a b h = absurd (no_first e es [] refl (h e.0))
ascending_same {X} (e ∷ es) (f ∷ fs) a b h = by (text_cmp e.0 f.0) refl (ascending_same es fs a.1 b.1)
  where
    by : (o : Ordering) → text_cmp e.0 f.0 ≡ o → (((name : Text) → at_text name es ≡ at_text name fs) → es ≡ fs) → (e ∷ es) ≡ (f ∷ fs)
    by Less p rest =
        let first : goes_before e.0 f.0 ≡ true = ap is_lt p in
        absurd (no_first e es (f ∷ fs) (and_true (goes_before e.0 f.0) (list_all (goes_before e.0) (keys_of fs)) first (all_after e.0 f.0 (keys_of fs) first b.0)) (h e.0))
    by Equal p rest =
        let equal : bytes_eq e.0 f.0 ≡ true = sym (is_eq-slice_cmp e.0 f.0) ∙ ap is_eq p in
        let same : e.0 ≡ f.0 = (bytes_eq-Decides e.0 f.0).0 equal in
        let found : Some e.1 ≡ Some f.1 = sym (here e.0 e es ((bytes_eq-Decides e.0 e.0).1 refl)) ∙ h e.0 ∙ here e.0 f fs equal in
        let value : e.1 ≡ f.1 = cc found in
        ap₂ (λ (x : Text × X) (l : List (Text × X)). x ∷ l) (ap₂ (λ (k : Text) (v : X). (k, v)) same value) (rest (tails e f es fs same a.0 b.0 h))
    by Greater p rest =
        let first : goes_before f.0 e.0 ≡ true = after_greater e.0 f.0 p in
        absurd (no_first f fs (e ∷ es) (and_true (goes_before f.0 e.0) (list_all (goes_before f.0) (keys_of es)) first (all_after f.0 e.0 (keys_of es) first a.0)) (sym (h f.0)))

-- ---- items in the order of their names

-- what each item has
module _ {X : Type 0} (P : X → Type 0) (name : X → Text) where
  each_placed : (x : X) (ys : List X) → P x → AllByRecursion P ys → AllByRecursion P (placed (λ a b. goes_before (name a) (name b)) x ys)
  each_placed x [] own all = (own, tt)
  each_placed x (y ∷ ys) own all = by (goes_before (name y) (name x)) (each_placed x ys own all.1)
    where
      by : (t : Bool) → AllByRecursion P (placed (λ a b. goes_before (name a) (name b)) x ys) → AllByRecursion P (if t then y ∷ placed (λ a b. goes_before (name a) (name b)) x ys else x ∷ y ∷ ys)
      by true rest = (all.0, rest)
      by false rest = (own, all)

  pub all_arranged : (xs : List X) → AllByRecursion P xs → AllByRecursion P (arranged name true xs)
  all_arranged [] all = tt
  all_arranged (x ∷ xs) all = each_placed x (arranged name true xs) all.0 (all_arranged xs all.1)

module _ {X : Type 0} (name : X → Text) where
  abbrev earlier : X → X → Bool
  earlier a b = goes_before (name a) (name b)

  -- none of the items has this name
  abbrev IsApart : Text → List X → Type 0
  IsApart n xs = AllByRecursion (λ x. bytes_eq n (name x) ≡ false) xs

  apart_items : (n : Text) (xs : List X) → AllByRecursion (λ m. bytes_eq n m ≡ false) (map name xs) → IsApart n xs
  apart_items n [] all = tt
  apart_items n (x ∷ xs) all = (all.0, apart_items n xs all.1)

  all_placed : (test : Text → Bool) (x : X) (ys : List X) → test (name x) ≡ true → list_all test (map name ys) ≡ true → list_all test (map name (placed earlier x ys)) ≡ true
  all_placed test x [] own all = and_true (test (name x)) true own refl
  all_placed test x (y ∷ ys) own all = by (earlier y x) (all_placed test x ys own parts.1)
    where
      parts : (test (name y) ≡ true) × (list_all test (map name ys) ≡ true)
      parts = both (test (name y)) (list_all test (map name ys)) all

      by : (t : Bool) → list_all test (map name (placed earlier x ys)) ≡ true → list_all test (map name (if t then y ∷ placed earlier x ys else x ∷ y ∷ ys)) ≡ true
      by true rest = and_true (test (name y)) (list_all test (map name (placed earlier x ys))) parts.0 rest
      by false rest = and_true (test (name x)) (test (name y) && list_all test (map name ys)) own all

  placed_ascends : (x : X) (ys : List X) → IsApart (name x) ys → IsAscending (map name ys) → IsAscending (map name (placed earlier x ys))
  placed_ascends x [] apart h = (refl, tt)
  placed_ascends x (y ∷ ys) apart h = by (earlier y x) refl (placed_ascends x ys apart.1 h.1)
    where
      by : (t : Bool) → earlier y x ≡ t → IsAscending (map name (placed earlier x ys)) → IsAscending (map name (if t then y ∷ placed earlier x ys else x ∷ y ∷ ys))
      by true p rest = (all_placed (goes_before (name y)) x ys p h.0, rest)
      by false p rest =
          let first : goes_before (name x) (name y) ≡ true = less_apart (name x) (name y) apart.0 p in
          (and_true (goes_before (name x) (name y)) (list_all (goes_before (name x)) (map name ys)) first (all_after (name x) (name y) (map name ys) first h.0), h)

  -- items of distinct names, in the order of their names
  pub ascending_arranged : (xs : List X) → IsDistinct bytes_eq (map name xs) → IsAscending (map name (arranged name true xs))
  ascending_arranged [] distinct = tt
  ascending_arranged (x ∷ xs) distinct =
      placed_ascends x (arranged name true xs)
      (all_arranged (λ y. bytes_eq (name x) (name y) ≡ false) name xs (apart_items (name x) xs (IsDistinct-head bytes_eq (name x) (map name xs) distinct)))
      (ascending_arranged xs (IsDistinct-tail bytes_eq (name x) (map name xs) distinct))

-- ---- entries that are made of items

-- items, each under its name
abbrev pub entries : {X Y : Type 0} → (X → Text) → (X → Y) → List X → List (Text × Y)
entries name of xs = map (λ x. (name x, of x)) xs

module _ {X Y : Type 0} (name : X → Text) (of : X → Y) where
  pub keys_entries : (xs : List X) → keys_of (entries name of xs) ≡ map name xs
  keys_entries [] = refl
  keys_entries (x ∷ xs) = ap (λ (l : List Text). name x ∷ l) (keys_entries xs)

  pub values_entries : (xs : List X) → values_of (entries name of xs) ≡ map of xs
  values_entries [] = refl
  values_entries (x ∷ xs) = ap (λ (l : List Y). of x ∷ l) (values_entries xs)

  swapped : (n : Text) (x y : X) (o : Option Y) → goes_before (name y) (name x) ≡ true
      → cond (bytes_eq n (name y)) (Some (of y)) (cond (bytes_eq n (name x)) (Some (of x)) o) ≡ cond (bytes_eq n (name x)) (Some (of x)) (cond (bytes_eq n (name y)) (Some (of y)) o)
  swapped n x y o p = by (bytes_eq n (name x)) refl (bytes_eq n (name y)) refl
    where
      by : (s : Bool) → bytes_eq n (name x) ≡ s → (t : Bool) → bytes_eq n (name y) ≡ t → cond t (Some (of y)) (cond s (Some (of x)) o) ≡ cond s (Some (of x)) (cond t (Some (of y)) o)
      by true q true r =
          let apart : bytes_eq (name y) (name x) ≡ false = apart_less (name y) (name x) p in
          let equal : bytes_eq (name y) (name x) ≡ true = ap (λ m. bytes_eq m (name x)) (sym ((bytes_eq-Decides n (name y)).0 r)) ∙ q in
          absurd (cc (sym equal ∙ apart))
      by true q false r = refl
      by false q t r = refl

  at_placed : (n : Text) (x : X) (ys : List X) → at_text n (entries name of (placed (λ a b. goes_before (name a) (name b)) x ys)) ≡ at_text n (entries name of (x ∷ ys))
  at_placed n x [] = refl
  at_placed n x (y ∷ ys) = by (goes_before (name y) (name x)) refl (at_placed n x ys)
    where
      by : (t : Bool) → goes_before (name y) (name x) ≡ t → at_text n (entries name of (placed (λ a b. goes_before (name a) (name b)) x ys)) ≡ at_text n (entries name of (x ∷ ys))
          → at_text n (entries name of (if t then y ∷ placed (λ a b. goes_before (name a) (name b)) x ys else x ∷ y ∷ ys)) ≡ at_text n (entries name of (x ∷ y ∷ ys))
      by true p rest = ap (λ o. cond (bytes_eq n (name y)) (Some (of y)) o) rest ∙ swapped n x y (at_text n (entries name of ys)) p
      by false p rest = refl

  -- what stands under a name does not depend on the order: items of one name stay in their order
  pub at_arranged : (n : Text) (xs : List X) → at_text n (entries name of (arranged name true xs)) ≡ at_text n (entries name of xs)
  at_arranged n [] = refl
  at_arranged n (x ∷ xs) = at_placed n x (arranged name true xs) ∙ ap (λ o. cond (bytes_eq n (name x)) (Some (of x)) o) (at_arranged n xs)

-- ---- some of the entries

-- it, where it passes the test
abbrev pub kept_if : {X : Type 0} → (X → Bool) → Option X → Option X
kept_if test None = None
kept_if test (Some x) = cond (test x) (Some x) None

module _ {X : Type 0} (test : X → Bool) where
  all_filter : (p : Text → Bool) (es : List (Text × X)) → list_all p (keys_of es) ≡ true → list_all p (keys_of (filter (λ e. test e.1) es)) ≡ true
  all_filter p [] all = refl
  all_filter p (e ∷ es) all = by (test e.1) (all_filter p es parts.1)
    where
      parts : (p e.0 ≡ true) × (list_all p (keys_of es) ≡ true)
      parts = both (p e.0) (list_all p (keys_of es)) all

      by : (t : Bool) → list_all p (keys_of (filter (λ e. test e.1) es)) ≡ true → list_all p (keys_of (cond t (e ∷ filter (λ e. test e.1) es) (filter (λ e. test e.1) es))) ≡ true
      by true rest = and_true (p e.0) (list_all p (keys_of (filter (λ e. test e.1) es))) parts.0 rest
      by false rest = rest

  -- they ascend where all do
  pub ascending_filter : (es : List (Text × X)) → IsAscending (keys_of es) → IsAscending (keys_of (filter (λ e. test e.1) es))
  ascending_filter [] h = tt
  ascending_filter (e ∷ es) h = by (test e.1) (ascending_filter es h.1)
    where
      by : (t : Bool) → IsAscending (keys_of (filter (λ e. test e.1) es)) → IsAscending (keys_of (cond t (e ∷ filter (λ e. test e.1) es) (filter (λ e. test e.1) es)))
      by true rest = (all_filter (goes_before e.0) es h.0, rest)
      by false rest = rest

  pub at_filter : (name : Text) (es : List (Text × X)) → IsAscending (keys_of es) → at_text name (filter (λ e. test e.1) es) ≡ kept_if test (at_text name es)
  at_filter name [] h = refl
  at_filter name (e ∷ es) h = by (test e.1) refl (bytes_eq name e.0) refl (at_filter name es h.1)
    where
      by : (t : Bool) → test e.1 ≡ t → (b : Bool) → bytes_eq name e.0 ≡ b → at_text name (filter (λ e. test e.1) es) ≡ kept_if test (at_text name es)
          → at_text name (cond t (e ∷ filter (λ e. test e.1) es) (filter (λ e. test e.1) es)) ≡ kept_if test (cond b (Some e.1) (at_text name es))
      by true p true q rest = here name e (filter (λ e. test e.1) es) q ∙ sym (ap (λ b. cond b (Some e.1) None) p)
      by true p false q rest = further name e (filter (λ e. test e.1) es) q ∙ rest
      by false p true q rest =
          ap (λ n. at_text n (filter (λ e. test e.1) es)) ((bytes_eq-Decides name e.0).0 q)
          ∙ none_before e.0 (filter (λ e. test e.1) es) (all_filter (goes_before e.0) es h.0)
          ∙ sym (ap (λ b. cond b (Some e.1) None) p)
      by false p false q rest = rest

  -- the values that pass
  pub values_filter : (es : List (Text × X)) → values_of (filter (λ e. test e.1) es) ≡ filter test (values_of es)
  values_filter [] = refl
  values_filter (e ∷ es) = by (test e.1) (values_filter es)
    where
      by : (t : Bool) → values_of (filter (λ e. test e.1) es) ≡ filter test (values_of es)
          → values_of (cond t (e ∷ filter (λ e. test e.1) es) (filter (λ e. test e.1) es)) ≡ cond t (e.1 ∷ filter test (values_of es)) (filter test (values_of es))
      by true rest = ap (λ (l : List X). e.1 ∷ l) rest
      by false rest = rest
