-- What is found by number is what is found by name.
use Rattle.std.proofs.Common.{arith, inl, inr, ⊎_elim, ◌≡◌, ◌<◌, ◌≤◌, ◌+◌, ◌*◌, ◌-◌, ℕ, zero, suc, Bool, true, false, cond, ◌||◌, ◌&&◌, List, [], ◌∷◌, map, length, get_or, position, Option, Some, None, refl, sym, ap, ◌∙◌, subst}
use Rattle.std.specs.Option.{option_map}
use Rattle.std.specs.List.{list_any, flat_map, position_or_len}
use Rattle.std.specs.Prelude.{nat_lt}
use Rattle.std.specs.Str.{bytes_eq}
use Rattle.std.proofs.lemmas.Slice.Eq.{bytes_eq-Decides}
use Rattle.std.proofs.lemmas.Nat.{mul-le}
use Rattle.std.proofs.lemmas.List.{get_or-map, get_or_past, length-map}
use Rattle.std.proofs.lemmas.List.Folds.{list_any-append}
use Rattle.std.proofs.lemmas.List.Quantifiers.{position-Some}
use Rattle.std.proofs.lemmas.Bool.{cases_lt, or_cases, or_left, or_right, cond-true, cond-false, lt-ltb, and_parts, and_from, false_from_ne_true}
use Rattle.gql_text_values.specs.TypeRefs.{Reference, named, non_null, list_of}
use Rattle.gql_registry_meta.specs.Parts.{Text, at_text, is_among}
use Rattle.gql_check_cycles.specs.Graph.{Among, IsFirst, IsWithin, targets, one_or_none, fields_of, unlooked, weighted_sum}
use Rattle.gql_check_cycles.specs.Graph as graph
use Rattle.gql_check_cycles.proofs.Among.{among_append, among_left, among_right}
use Rattle.gql_check_rules.specs.Schema.{Input, Definition, Schema, scalar, input_object, passes, is_input_object}
use Rattle.gql_check_rules.specs.Order.{HasDistinctNames}
use Rattle.gql_check_rules.specs.InputCycles.{input_fields_of, needed_by, needs, Reaches, directly, through, reaches, reaches_itself}
use Rattle.gql_check_rules.specs.Laws.{DecidesReaching}
use Rattle.gql_check_rules.specs.Tests.{fault_if, or_else, first_in}
use Rattle.gql_check_rules.specs.Rules.{first_cycle}
use Rattle.gql_check_code.specs.Counts.{field_sum, field_total, field_count, input_count, naming_bound}
use Rattle.gql_check_code.specs.Cycles.{names, name_at, number, row, numbered}

same_text : (a b : Text) → bytes_eq a b ≡ true → a ≡ b
same_text a b e = (bytes_eq-Decides a b).0 e

eq_self : (a : Text) → bytes_eq a a ≡ true
eq_self a = (bytes_eq-Decides a a).1 refl

-- ---- places

any_place : (p : Text → Bool) (xs : List Text) → list_any p xs ≡ true → position_or_len p xs < length xs
any_place p [] e = cc e
any_place p (x ∷ xs) e = pick (p x) refl e (any_place p xs)
  where
    pick : (b : Bool) → p x ≡ b → b || list_any p xs ≡ true → (list_any p xs ≡ true → position_or_len p xs < length xs) → position_or_len p (x ∷ xs) < suc (length xs)
    pick true q k ih = grind arith
    pick false q k ih = let l : position_or_len p xs < length xs = ih k in grind arith

-- what is there has a place
placed : (p : Text → Bool) (xs : List Text) → list_any p xs ≡ true → (b : ℕ) × (position p xs ≡ Some b)
placed p xs e = (position_or_len p xs, cond-true (nat_lt (position_or_len p xs) (length xs)) (Some (position_or_len p xs)) None (lt-ltb (position_or_len p xs) (length xs) (any_place p xs e)))

-- a type that is found has a name among the names
found_named : {X : Type 0} (name : Text) (ts : List (Text × X)) (x : X) → at_text name ts ≡ Some x → list_any (bytes_eq name) (map (λ t. t.0) ts) ≡ true
found_named name [] x e = cc e
found_named name (t ∷ ts) x e = pick (bytes_eq name t.0) refl e (found_named name ts x)
  where
    pick : (b : Bool) → bytes_eq name t.0 ≡ b → cond b (Some t.1) (at_text name ts) ≡ Some x → (at_text name ts ≡ Some x → list_any (bytes_eq name) (map (λ t. t.0) ts) ≡ true) → list_any (bytes_eq name) (map (λ t. t.0) (t ∷ ts)) ≡ true
    pick true q k ih = or_left (bytes_eq name t.0) (list_any (bytes_eq name) (map (λ t. t.0) ts)) q
    pick false q k ih = or_right (bytes_eq name t.0) (list_any (bytes_eq name) (map (λ t. t.0) ts)) (ih k)

-- ---- one type a name

missing : Text × Definition
missing = ([], scalar)

-- what stands under the name of a type
own : (ts : List (Text × Definition)) (i : ℕ) → HasDistinctNames ts → i < length ts → at_text (get_or ts i missing).0 ts ≡ Some (get_or ts i missing).1
own [] i u l = absurd (omega arith)
own (t ∷ ts) zero u l = cond-true (bytes_eq t.0 t.0) (Some t.1) (at_text t.0 ts) (eq_self t.0)
own (t ∷ ts) (suc i) u l = pick (bytes_eq (get_or ts i missing).0 t.0) refl (own ts i u.1 (omega arith))
  where
    pick : (b : Bool) → bytes_eq (get_or ts i missing).0 t.0 ≡ b → at_text (get_or ts i missing).0 ts ≡ Some (get_or ts i missing).1 → cond (bytes_eq (get_or ts i missing).0 t.0) (Some t.1) (at_text (get_or ts i missing).0 ts) ≡ Some (get_or ts i missing).1
    pick true q h = let n : at_text (get_or ts i missing).0 ts ≡ None = ap (λ y. at_text y ts) (same_text (get_or ts i missing).0 t.0 q) ∙ u.0 in cc
    pick false q h = cond-false (bytes_eq (get_or ts i missing).0 t.0) (Some t.1) (at_text (get_or ts i missing).0 ts) q ∙ h

one_place : (ts : List (Text × Definition)) (i j : ℕ) → HasDistinctNames ts → i < length ts → j < length ts → (get_or ts i missing).0 ≡ (get_or ts j missing).0 → i ≡ j
one_place [] i j u l k e = absurd (omega arith)
one_place (t ∷ ts) zero zero u l k e = refl
one_place (t ∷ ts) zero (suc j) u l k e = let h = own ts j u.1 (omega arith) in let n : at_text (get_or ts j missing).0 ts ≡ None = ap (λ y. at_text y ts) (sym e) ∙ u.0 in cc
one_place (t ∷ ts) (suc i) zero u l k e = let h = own ts i u.1 (omega arith) in let n : at_text (get_or ts i missing).0 ts ≡ None = ap (λ y. at_text y ts) e ∙ u.0 in cc
one_place (t ∷ ts) (suc i) (suc j) u l k e = ap suc (one_place ts i j u.1 (omega arith) (omega arith) e)

-- ---- the first that a test finds

module _ (p : Text × Definition → Bool) where
  found_at : (ts : List (Text × Definition)) (i : ℕ) → i < length ts → p (get_or ts i missing) ≡ true → ((j : ℕ) → j < i → p (get_or ts j missing) ≡ false) → first_in (λ t. fault_if (p t) t.0) ts ≡ Some (get_or ts i missing).0
  found_at [] i l e h = absurd (omega arith)
  found_at (t ∷ ts) zero l e h = ap (λ b. or_else (fault_if b t.0) (first_in (λ t. fault_if (p t) t.0) ts)) e
  found_at (t ∷ ts) (suc i) l e h = ap (λ b. or_else (fault_if b t.0) (first_in (λ t. fault_if (p t) t.0) ts)) (h 0 (omega arith)) ∙ found_at ts i (omega arith) e (λ j k. h (suc j) (omega arith))

  found_none : (ts : List (Text × Definition)) → ((j : ℕ) → j < length ts → p (get_or ts j missing) ≡ false) → first_in (λ t. fault_if (p t) t.0) ts ≡ None
  found_none [] h = refl
  found_none (t ∷ ts) h = ap (λ b. or_else (fault_if b t.0) (first_in (λ t. fault_if (p t) t.0) ts)) (h 0 (omega arith)) ∙ found_none ts (λ j k. h (suc j) (omega arith))

abbrev is_cyclic : Schema → Text × Definition → Bool
is_cyclic s t = is_input_object t.1 && reaches_itself s t.0

module _ (s : Schema) where
  -- the number of what a field needs
  need_number : (r : Reference) (c : Text) → is_among c (needed_by s r) ≡ true → (b : ℕ) × (number (names s) (needed_by s r) ≡ Some b) × (name_at s b ≡ c)
  need_number (named n) c m = cc m
  need_number (list_of r) c m = cc m
  need_number (non_null (non_null r)) c m = cc m
  need_number (non_null (list_of r)) c m = cc m
  need_number (non_null (named n)) c m = pick (at_text n s.types) refl m
    where
      at : (b : ℕ) → position (bytes_eq n) (names s) ≡ Some b → bytes_eq c n ≡ true → name_at s b ≡ c
      at b p e = let k = position-Some (bytes_eq n) (names s) b [] p in sym (same_text n (name_at s b) k.1) ∙ sym (same_text c n e)

      chosen : (d : Bool) → list_any (bytes_eq n) (names s) ≡ true → is_among c (cond d (n ∷ []) []) ≡ true → (b : ℕ) × (number (names s) (cond d (n ∷ []) []) ≡ Some b) × (name_at s b ≡ c)
      chosen true l m = let w = placed (bytes_eq n) (names s) l in (w.0, w.1, at w.0 w.1 (⊎_elim (λ e. e) (λ e. cc e) (or_cases (bytes_eq c n) false m)))
      chosen false l m = cc m

      pick : (o : Option Definition) → at_text n s.types ≡ o → is_among c (cond (passes is_input_object o) (n ∷ []) []) ≡ true → (b : ℕ) × (number (names s) (cond (passes is_input_object o) (n ∷ []) []) ≡ Some b) × (name_at s b ≡ c)
      pick None h m = cc m
      pick (Some d) h m = chosen (is_input_object d) (found_named n s.types d h) m

  -- a number is that of what a field needs
  number_need : (ns : List Text) (b : ℕ) → number (names s) ns ≡ Some b → (is_among (name_at s b) ns ≡ true) × (b < length (names s))
  number_need [] b e = cc e
  number_need (n ∷ ns) b e =
      let k = position-Some (bytes_eq n) (names s) b [] e in
      (or_left (bytes_eq (name_at s b) n) (is_among (name_at s b) ns) (subst (λ x. bytes_eq x n ≡ true) (same_text n (name_at s b) k.1) (eq_self n)), k.0)

  -- the same of all fields
  row_up : (fields : List (Text × Input)) (c : Text) → is_among c (flat_map (λ f. needed_by s f.1.ty) fields) ≡ true → (b : ℕ) × Among b (targets (row s fields)) × (name_at s b ≡ c)
  row_up [] c m = cc m
  row_up (f ∷ fields) c m = elim (or_cases (is_among c (needed_by s f.1.ty)) (is_among c (flat_map (λ f. needed_by s f.1.ty) fields)) (sym (list_any-append (bytes_eq c) (needed_by s f.1.ty) (flat_map (λ f. needed_by s f.1.ty) fields)) ∙ m)) [
    | inl k ↦ let w = need_number f.1.ty c k in (w.0, among_left w.0 (one_or_none (number (names s) (needed_by s f.1.ty))) (targets (row s fields)) (subst (λ o. Among w.0 (one_or_none o)) (sym w.1) (inl refl)), w.2)
    | inr k ↦ let w = row_up fields c k in (w.0, among_right w.0 (one_or_none (number (names s) (needed_by s f.1.ty))) (targets (row s fields)) w.1, w.2)
  ]

  one : (o : Option ℕ) (b : ℕ) → Among b (one_or_none o) → o ≡ Some b
  one None b m = absurd m
  one (Some x) b (inl e) = ap Some (sym e)
  one (Some x) b (inr e) = absurd e

  row_down : (fields : List (Text × Input)) (b : ℕ) → Among b (targets (row s fields)) → (is_among (name_at s b) (flat_map (λ f. needed_by s f.1.ty) fields) ≡ true) × (b < length (names s))
  row_down [] b m = absurd m
  row_down (f ∷ fields) b m = elim (among_append b (one_or_none (number (names s) (needed_by s f.1.ty))) (targets (row s fields)) m) [
    | inl k ↦ let w = number_need (needed_by s f.1.ty) b (one (number (names s) (needed_by s f.1.ty)) b k) in
        (list_any-append (bytes_eq (name_at s b)) (needed_by s f.1.ty) (flat_map (λ f. needed_by s f.1.ty) fields) ∙ or_left (is_among (name_at s b) (needed_by s f.1.ty)) (is_among (name_at s b) (flat_map (λ f. needed_by s f.1.ty) fields)) w.0, w.1)
    | inr k ↦ let w = row_down fields b k in
        (list_any-append (bytes_eq (name_at s b)) (needed_by s f.1.ty) (flat_map (λ f. needed_by s f.1.ty) fields) ∙ or_right (is_among (name_at s b) (needed_by s f.1.ty)) (is_among (name_at s b) (flat_map (λ f. needed_by s f.1.ty) fields)) w.0, w.1)
  ]

  -- ---- the numbers of types

  row_at : (i : ℕ) → i < length s.types → fields_of (numbered s) i ≡ row s (input_fields_of (Some (get_or s.types i missing).1))
  row_at i l = get_or-map (λ t. row s (input_fields_of (Some t.1))) s.types i missing [] l

  name_is : (i : ℕ) → i < length s.types → name_at s i ≡ (get_or s.types i missing).0
  name_is i l = get_or-map (λ t. t.0) s.types i missing [] l

  no_row : (i : ℕ) → length s.types ≤ i → graph.needs (numbered s) i ≡ []
  no_row i l = ap targets (get_or_past (numbered s) i [] (omega (arith, l, length-map s.types (λ t. row s (input_fields_of (Some t.1))))))

  -- what leads to something is a type
  from_type : (a b : ℕ) → Among b (graph.needs (numbered s) a) → a < length s.types
  from_type a b m = elim (cases_lt a (length s.types)) [ inl l ↦ l | inr g ↦ absurd (subst (Among b) (no_row a g) m) ]

  to_type : (a b : ℕ) → Among b (graph.needs (numbered s) a) → b < length s.types
  to_type a b m = let l = from_type a b m in let w = row_down (input_fields_of (Some (get_or s.types a missing).1)) b (subst (λ fields. Among b (targets fields)) (row_at a l) m) in omega (arith, w.1, length-map s.types (λ t. t.0))

  module _ (u : HasDistinctNames s.types) where
    needs_at : (i : ℕ) → i < length s.types → needs s (name_at s i) ≡ flat_map (λ f. needed_by s f.1.ty) (input_fields_of (Some (get_or s.types i missing).1))
    needs_at i l = ap (λ o. flat_map (λ f. needed_by s f.1.ty) (input_fields_of o)) (ap (λ n. at_text n s.types) (name_is i l) ∙ own s.types i u l)

    step_down : (a b : ℕ) → Among b (graph.needs (numbered s) a) → is_among (name_at s b) (needs s (name_at s a)) ≡ true
    step_down a b m = let l = from_type a b m in
        let w = row_down (input_fields_of (Some (get_or s.types a missing).1)) b (subst (λ fields. Among b (targets fields)) (row_at a l) m) in
        ap (is_among (name_at s b)) (needs_at a l) ∙ w.0

    step_up : (a : ℕ) (c : Text) → a < length s.types → is_among c (needs s (name_at s a)) ≡ true → (b : ℕ) × Among b (graph.needs (numbered s) a) × (name_at s b ≡ c)
    step_up a c l m = let w = row_up (input_fields_of (Some (get_or s.types a missing).1)) c (sym (ap (is_among c) (needs_at a l)) ∙ m) in (w.0, subst (λ fields. Among w.0 (targets fields)) (sym (row_at a l)) w.1, w.2)

    same_number : (i j : ℕ) → i < length s.types → j < length s.types → name_at s i ≡ name_at s j → i ≡ j
    same_number i j l k e = one_place s.types i j u l k (sym (name_is i l) ∙ (e ∙ name_is j k))

    -- a way by numbers is a way by names
    to_names : (goal a : ℕ) → graph.Reaches (graph.needs (numbered s)) goal a → Reaches s (name_at s goal) (name_at s a)
    to_names goal a (graph.directly _ m) = directly (name_at s a) (step_down a goal m)
    to_names goal a (graph.through _ b m way) = through (name_at s a) (name_at s b) (step_down a b m) (to_names goal b way)

    to_numbers : (goal name : Text) → Reaches s goal name → (j a : ℕ) → j < length s.types → a < length s.types → name_at s j ≡ goal → name_at s a ≡ name → graph.Reaches (graph.needs (numbered s)) j a
    to_numbers goal name (directly _ m) j a l k e f =
        let w = step_up a goal k (subst (λ n. is_among goal (needs s n) ≡ true) (sym f) m) in
        graph.directly a (subst (λ b. Among b (graph.needs (numbered s) a)) (same_number w.0 j (to_type a w.0 w.1) l (w.2 ∙ sym e)) w.1)
    to_numbers goal name (through _ next m way) j a l k e f =
        let w = step_up a next k (subst (λ n. is_among next (needs s n) ≡ true) (sym f) m) in
        graph.through a w.0 w.1 (to_numbers goal next way j w.0 l (to_type a w.0 w.1) e w.2)

    -- what leads to something is an input object
    has_fields : (d : Definition) (b : ℕ) → Among b (targets (row s (input_fields_of (Some d)))) → is_input_object d ≡ true
    has_fields (input_object fields one_of) b m = refl
    has_fields _ b m = absurd m

    leads : (goal a : ℕ) → graph.Reaches (graph.needs (numbered s)) goal a → (b : ℕ) × Among b (graph.needs (numbered s) a)
    leads goal a (graph.directly _ m) = (goal, m)
    leads goal a (graph.through _ b m way) = (b, m)

    passes_at : DecidesReaching reaches → (i : ℕ) → graph.Reaches (graph.needs (numbered s)) i i → (i < length s.types) × (is_cyclic s (get_or s.types i missing) ≡ true)
    passes_at decides i way =
        let m = leads i i way in
        let l = from_type i m.0 m.1 in (
          l,
          and_from (is_input_object (get_or s.types i missing).1) (reaches_itself s (get_or s.types i missing).0)
              (has_fields (get_or s.types i missing).1 m.0 (subst (λ fields. Among m.0 (targets fields)) (row_at i l) m.1))
              (subst (λ n. reaches s n n ≡ true) (name_is i l) ((decides s (name_at s i) (name_at s i)).1 (to_names i i way))),
        )

    fails_at : DecidesReaching reaches → (i : ℕ) → i < length s.types → (graph.Reaches (graph.needs (numbered s)) i i → ⊥) → is_cyclic s (get_or s.types i missing) ≡ false
    fails_at decides i l never = false_from_ne_true (is_cyclic s (get_or s.types i missing)) (λ e.
        let k = and_parts (is_input_object (get_or s.types i missing).1) (reaches_itself s (get_or s.types i missing).0) e in
        never (to_numbers (name_at s i) (name_at s i) ((decides s (name_at s i) (name_at s i)).0 (subst (λ n. reaches s n n ≡ true) (sym (name_is i l)) k.1)) i i l l refl refl))

-- each number is that of a type
pub numbers_within : (s : Schema) → IsWithin (numbered s)
numbers_within s a b m = let l = to_type s a b m in omega (arith, l, length-map s.types (λ t. row s (input_fields_of (Some t.1))))

-- the first number that reaches itself is that of the first input object that does
pub first_by_number : DecidesReaching reaches → (s : Schema) → HasDistinctNames s.types → (found : Option ℕ) → IsFirst (graph.needs (numbered s)) found → option_map (name_at s) found ≡ first_cycle s s.types
first_by_number decides s u None f = sym (found_none (is_cyclic s) s.types (λ j l. fails_at s u decides j l (f j)))
first_by_number decides s u (Some i) f =
    let w = passes_at s u decides i f.0 in
    ap Some (name_is s i w.0) ∙ sym (found_at (is_cyclic s) s.types i w.0 w.1 (λ j k. fails_at s u decides j (omega (arith, w.0, k)) (f.1 j k)))

totals : (s : Schema) (ts : List (Text × Definition)) → weighted_sum (λ (fields : List (Option ℕ)) (k : ℕ). length fields - k) 0 (map (λ t. row s (input_fields_of (Some t.1))) ts) [] ≡ field_sum ts
totals s [] = refl
totals s (t ∷ ts) = omega (arith, totals s ts, length-map (input_fields_of (Some t.1)) (λ f. number (names s) (needed_by s f.1.ty)))

-- as many fields
pub same_total : (s : Schema) → graph.field_total (numbered s) ≡ field_total s
same_total s = totals s s.types

-- no more types with fields than input objects
nonempty_below : (s : Schema) (ts : List (Text × Definition)) → graph.nonempty_count (map (λ t. row s (input_fields_of (Some t.1))) ts) ≤ input_count ts
nonempty_below s [] = omega arith
nonempty_below s (t ∷ ts) = pick t.1 (nonempty_below s ts)
  where
    pick : (d : Definition) → graph.nonempty_count (map (λ t. row s (input_fields_of (Some t.1))) ts) ≤ input_count ts → graph.nonempty_count (row s (input_fields_of (Some d)) ∷ map (λ t. row s (input_fields_of (Some t.1))) ts) ≤ cond (is_input_object d) 1 0 + input_count ts
    pick (input_object [] one_of) h = omega (arith, h)
    pick (input_object (f ∷ fields) one_of) h = omega (arith, h)
    pick _ h = omega (arith, h)

-- what naming costs at most, by numbers and by names
pub same_bound : (s : Schema) → graph.search_bound (numbered s) ≤ naming_bound s
same_bound s = omega (
  arith,
  same_total s,
  mul-le (graph.nonempty_count (numbered s)) (graph.field_total (numbered s)) (input_count s.types) (field_total s) (nonempty_below s s.types) (omega (arith, same_total s)),
)
