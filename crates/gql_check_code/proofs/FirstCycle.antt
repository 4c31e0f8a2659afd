-- The first input object that reaches itself, as a list of types is gone through.
use Rattle.std.proofs.Common.{◌≡◌, Bool, true, false, List, [], ◌∷◌, Option, Some, None, IsTrue, ◌&&◌, refl, sym, ap, ◌∙◌, subst}
use Rattle.std.proofs.lemmas.Slice.Eq.{bytes_eq-Decides}
use Rattle.gql_registry_meta.specs.Parts.{Text}
use Rattle.gql_check_rules.specs.Tests.{or_else, fault_if, first_of, first_in}
use Rattle.gql_check_rules.specs.Schema.{Definition, Schema, scalar, object, interface, union, enum, input_object, subscription, upload, is_input_object}
use Rattle.gql_check_rules.specs.InputCycles.{reaches_itself}
use Rattle.gql_check_rules.specs.Faults.{Fault, input_cycle}
use Rattle.gql_check_rules.specs.Rules.{first_cycle, input_fault, input_field_fault}
use Rattle.gql_check_code.specs.Cycles.{is_found}

-- what was found reaches itself
found_step : (s : Schema) (t : Text × Definition) (more : Option Text) (n : Text) (i r : Bool) → reaches_itself s t.0 ≡ r → or_else (fault_if (i && r) t.0) more ≡ Some n → (more ≡ Some n → reaches_itself s n ≡ true) → reaches_itself s n ≡ true
found_step s t more n true true e h k = let same : t.0 ≡ n = cc h in subst (λ x. reaches_itself s x ≡ true) same e
found_step s t more n true false e h k = k h
found_step s t more n false r e h k = k h

found_cycle : (s : Schema) (ts : List (Text × Definition)) (n : Text) → first_cycle s ts ≡ Some n → reaches_itself s n ≡ true
found_cycle s [] n h = cc h
found_cycle s (t ∷ ts) n h = found_step s t (first_cycle s ts) n (is_input_object t.1) (reaches_itself s t.0) refl h (found_cycle s ts n)

not_found : (s : Schema) (t : Text) (cycle : Option Text) → reaches_itself s t ≡ false → ((n : Text) → cycle ≡ Some n → reaches_itself s n ≡ true) → (b : Bool) → is_found t cycle ≡ b → b ≡ false
not_found s t None e k b h = sym h
not_found s t (Some n) e k true h = let same : t ≡ n = (bytes_eq-Decides t n).0 h in cc (e, k n refl, ap (reaches_itself s) same)
not_found s t (Some n) e k false h = refl

exact_step : (s : Schema) (t : Text) (more : Option Text) (r : Bool) → reaches_itself s t ≡ r → ((n : Text) → more ≡ Some n → reaches_itself s n ≡ true) → is_found t (or_else (fault_if r t) more) ≡ r
exact_step s t more true e k = (bytes_eq-Decides t t).1 refl
exact_step s t more false e k = not_found s t more e k (is_found t more) refl

-- an input object that is first reaches itself exactly where it is the one found
is_found-first : (s : Schema) (name : Text) (d : Definition) (ts : List (Text × Definition)) → IsTrue (is_input_object d) → is_found name (first_cycle s ((name, d) ∷ ts)) ≡ reaches_itself s name
is_found-first s name scalar ts i = absurd cc
is_found-first s name (object f j e) ts i = absurd cc
is_found-first s name (interface f j) ts i = absurd cc
is_found-first s name (union m) ts i = absurd cc
is_found-first s name enum ts i = absurd cc
is_found-first s name (subscription f) ts i = absurd cc
is_found-first s name upload ts i = absurd cc
is_found-first s name (input_object f o) ts i = exact_step s name (first_cycle s ts) (reaches_itself s name) refl (found_cycle s ts)

pub is_found-next : (s : Schema) (name : Text) (d : Definition) (ts : List (Text × Definition)) (cycle : Option Text) → cycle ≡ first_cycle s ((name, d) ∷ ts) → IsTrue (is_input_object d) → is_found name cycle ≡ reaches_itself s name
is_found-next s name d ts cycle e i = ap (is_found name) e ∙ is_found-first s name d ts i

last_none : (a : Option Fault) (b : Bool) (c : Fault) → first_of (a ∷ fault_if b c ∷ []) ≡ None → b ≡ false
last_none None true c h = cc h
last_none None false c h = refl
last_none (Some f) b c h = cc h

-- past a type that keeps its rules the first cycle is that of the rest
pub first_cycle-next : (s : Schema) (name : Text) (d : Definition) (ts : List (Text × Definition)) (cycle : Option Text) → cycle ≡ first_cycle s ((name, d) ∷ ts) → input_fault s (name, d) ≡ None → cycle ≡ first_cycle s ts
first_cycle-next s name scalar ts cycle e h = e
first_cycle-next s name (object f j k) ts cycle e h = e
first_cycle-next s name (interface f j) ts cycle e h = e
first_cycle-next s name (union m) ts cycle e h = e
first_cycle-next s name enum ts cycle e h = e
first_cycle-next s name (subscription f) ts cycle e h = e
first_cycle-next s name upload ts cycle e h = e
first_cycle-next s name (input_object f o) ts cycle e h =
    e ∙ ap (λ r. or_else (fault_if r name) (first_cycle s ts)) (last_none (first_in (input_field_fault s name o) f) (reaches_itself s name) (input_cycle name) h)

pub ruleset nexts = (is_found-next, first_cycle-next)
