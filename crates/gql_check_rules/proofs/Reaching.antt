-- The test of reaching finds exactly what is reached.
use Rattle.std.proofs.Common.{◌⊎◌, inl, inr, ◌++◌, ◌≡◌, ◌↔◌, IsTrue, ℕ, zero, suc, Bool, true, false, cond, ◌||◌, List, [], ◌∷◌, map, length, refl, sym, ap, ◌∙◌, subst, Option, Some, None}
use Rattle.std.specs.List.{list_any, flat_map}
use Rattle.std.specs.Str.{bytes_eq}
use Rattle.std.proofs.lemmas.List.Folds.{list_any-append}
use Rattle.gql_text_values.specs.TypeRefs.{Reference, named as named_reference, non_null, list_of}
use Rattle.gql_registry_meta.specs.Parts.{Text, at_text, is_among}
use Rattle.gql_check_rules.specs.Schema.{Input, Definition, Schema, is_input_object, passes}
use Rattle.gql_check_rules.specs.Repeated.{repeated}
use Rattle.gql_check_rules.specs.InputCycles.{needs, needed_by, input_fields_of, reaching_step, reaches, Reaches, directly, through}
use Rattle.gql_check_rules.proofs.Counting.{Member, IsWithin, repeated-full}
use Rattle.gql_check_rules.proofs.Texts.{bytes_eq-true, bytes_eq-same, or_true, or_left, or_right}

-- one that passes
pub witness : (p : Text → Bool) (xs : List Text) → list_any p xs ≡ true → (x : Text) × (is_among x xs ≡ true) × (p x ≡ true)
witness p [] e = cc e
witness p (x ∷ xs) e = elim (or_true (p x) (list_any p xs) e) [
  | inl h ↦ (x, or_left (bytes_eq x x) (is_among x xs) (bytes_eq-same x), h)
  | inr h ↦ let w = witness p xs h in (w.0, or_right (bytes_eq w.0 x) (is_among w.0 xs) w.1, w.2)
]

pub witnessed : (p : Text → Bool) (xs : List Text) (x : Text) → is_among x xs ≡ true → p x ≡ true → list_any p xs ≡ true
witnessed p [] x m h = cc m
witnessed p (y ∷ ys) x m h = elim (or_true (bytes_eq x y) (is_among x ys) m) [
  | inl e ↦ or_left (p y) (list_any p ys) (subst (λ z. p z ≡ true) (bytes_eq-true x y e) h)
  | inr e ↦ or_right (p y) (list_any p ys) (witnessed p ys x e h)
]

any-grows : (p q : Text → Bool) (xs : List Text) → IsWithin p q → list_any p xs ≡ true → list_any q xs ≡ true
any-grows p q xs h e = let w = witness p xs e in witnessed q xs w.0 w.1 (h w.0 w.2)

abbrev pub names : Schema → List Text
names s = map (λ t. t.0) s.types

or-grows : (b c d : Bool) → (c ≡ true → d ≡ true) → b || c ≡ true → b || d ≡ true
or-grows true c d h e = refl
or-grows false c d h e = h e

reach_step-grows : (s : Schema) (b : Text) (p q : Text → Bool) → IsWithin p q → IsWithin (reaching_step s b p) (reaching_step s b q)
reach_step-grows s b p q h a e = any-grows (λ c. bytes_eq c b || p c) (λ c. bytes_eq c b || q c) (needs s a) (λ c. or-grows (bytes_eq c b) (p c) (q c) (h c)) e

-- what needs something is a type
named_step : {X : Type 0} (name : Text) (t : Text × X) (ts : List (Text × X)) (x : X) (b : Bool) → bytes_eq name t.0 ≡ b → cond b (Some t.1) (at_text name ts) ≡ Some x → (at_text name ts ≡ Some x → Member name (map (λ t. t.0) ts)) → Member name (map (λ t. t.0) (t ∷ ts))
named_step name t ts x true h e ih = inl (bytes_eq-true name t.0 h)
named_step name t ts x false h e ih = inr (ih e)

named : {X : Type 0} (name : Text) (ts : List (Text × X)) (x : X) → at_text name ts ≡ Some x → Member name (map (λ t. t.0) ts)
named name [] x e = cc e
named name (t ∷ ts) x e = named_step name t ts x (bytes_eq name t.0) refl e (named name ts x)

pub needing : (s : Schema) (p : Text → Bool) (a : Text) → list_any p (needs s a) ≡ true → Member a (names s)
needing s p a e = pick (at_text a s.types) refl e
  where
    pick : (d : Option Definition) → at_text a s.types ≡ d → list_any p (flat_map (λ f. needed_by s f.1.ty) (input_fields_of d)) ≡ true → Member a (names s)
    pick None h e = cc e
    pick (Some d) h e = named a s.types d h

-- what is needed is a type
need_type : (s : Schema) (t : Reference) (c : Text) → is_among c (needed_by s t) ≡ true → Member c (names s)
need_type s (named_reference name) c m = cc m
need_type s (list_of t) c m = cc m
need_type s (non_null (non_null t)) c m = cc m
need_type s (non_null (list_of t)) c m = cc m
need_type s (non_null (named_reference name)) c m = pick (at_text name s.types) refl m
  where
    at : (d : Definition) → at_text name s.types ≡ Some d → (bytes_eq c name ≡ true) ⊎ (false ≡ true) → Member c (names s)
    at d h (inl e) = subst (λ x. Member x (names s)) (sym (bytes_eq-true c name e)) (named name s.types d h)
    at d h (inr e) = cc e

    chosen : (b : Bool) (d : Definition) → at_text name s.types ≡ Some d → is_among c (cond b (name ∷ []) []) ≡ true → Member c (names s)
    chosen true d h m = at d h (or_true (bytes_eq c name) false m)
    chosen false d h m = cc m

    pick : (d : Option Definition) → at_text name s.types ≡ d → is_among c (cond (passes is_input_object d) (name ∷ []) []) ≡ true → Member c (names s)
    pick None h m = cc m
    pick (Some d) h m = chosen (is_input_object d) d h m

among_append : (c : Text) (xs ys : List Text) → is_among c (xs ++ ys) ≡ true → (is_among c xs ≡ true) ⊎ (is_among c ys ≡ true)
among_append c xs ys m = or_true (is_among c xs) (is_among c ys) (sym (list_any-append (bytes_eq c) xs ys) ∙ m)

all_needs : (s : Schema) (fields : List (Text × Input)) (c : Text) → is_among c (flat_map (λ f. needed_by s f.1.ty) fields) ≡ true → Member c (names s)
all_needs s [] c m = cc m
all_needs s (f ∷ fields) c m = elim (among_append c (needed_by s f.1.ty) (flat_map (λ f. needed_by s f.1.ty) fields) m) [
  | inl e ↦ need_type s f.1.ty c e
  | inr e ↦ all_needs s fields c e
]

pub needed : (s : Schema) (a c : Text) → is_among c (needs s a) ≡ true → Member c (names s)
needed s a c m = all_needs s (input_fields_of (at_text a s.types)) c m

length-names : (s : Schema) → length (names s) ≡ length s.types
length-names s = same (s.types)
  where
    same : (ts : List (Text × Definition)) → length (map (λ t. t.0) ts) ≡ length ts
    same [] = refl
    same (t ∷ ts) = ap suc (same ts)

repeated-sound : (s : Schema) (b : Text) (n : ℕ) (a : Text) → repeated (reaching_step s b) n a ≡ true → Reaches s b a
repeated-sound s b zero a e = cc e
repeated-sound s b (suc n) a e = let w = witness (λ c. bytes_eq c b || repeated (reaching_step s b) n c) (needs s a) e in
    elim (or_true (bytes_eq w.0 b) (repeated (reaching_step s b) n w.0) w.2) [
      | inl h ↦ directly a (subst (λ z. is_among z (needs s a) ≡ true) (bytes_eq-true w.0 b h) w.1)
      | inr h ↦ through a w.0 w.1 (repeated-sound s b n w.0 h)
    ]

repeated-complete : (s : Schema) (b a : Text) → Reaches s b a → (n : ℕ) × (repeated (reaching_step s b) n a ≡ true)
repeated-complete s b a (directly _ m) = (1, witnessed (λ c. bytes_eq c b || false) (needs s a) b m (or_left (bytes_eq b b) false (bytes_eq-same b)))
repeated-complete s b a (through _ c m way) =
    let shorter = repeated-complete s b c way in
    (suc shorter.0, witnessed (λ c. bytes_eq c b || repeated (reaching_step s b) shorter.0 c) (needs s a) c m (or_right (bytes_eq c b) (repeated (reaching_step s b) shorter.0 c) shorter.1))

pub reaches-decides : (s : Schema) (b a : Text) → IsTrue (reaches s b a) ↔ Reaches s b a
unfolding reaches
reaches-decides s b a = (
  repeated-sound s b (length s.types) a,
  λ way. let long = repeated-complete s b a way in
      subst (λ n. repeated (reaching_step s b) n a ≡ true) (length-names s)
      (repeated-full (reaching_step s b) (reach_step-grows s b) (names s) (λ p x e. needing s (λ c. bytes_eq c b || p c) x e) long.0 a long.1),
)
