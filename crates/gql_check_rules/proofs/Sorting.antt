-- Entries under distinct names, sorted or changed one by one, are the same in another order.
use Rattle.std.proofs.Common.{◌≡◌, Bool, true, false, cond, List, [], ◌∷◌, Option, Some, None, refl, sym, ap, ◌∙◌, subst}
use Rattle.std.specs.Str.{bytes_eq}
use Rattle.gql_registry_meta.specs.Parts.{Text, at_text}
use Rattle.gql_check_rules.specs.Schema.{Field, Definition, Schema, scalar, object, interface, union, enum, input_object, subscription, upload}
use Rattle.gql_check_rules.specs.Order.{Each, IsByName, HasDistinctNames, AreBoth, SameByName, Equal, SameField, SameFields, SameDefinition, SameSchema, scalars, objects, interfaces, unions, enums, input_objects, subscriptions, uploads}
use Rattle.gql_check_rules.specs.Order.{inserted, sorted, changed, sorted_field, sorted_fields, sorted_definition, sorted_schema, IsDistinctFields, IsDistinctDefinition, IsDistinctSchema}
use Rattle.gql_check_rules.proofs.Texts.{bytes_eq-true, bytes_eq-same}
use Rattle.gql_check_rules.proofs.Soundness.{each-weaken}

swap_step : {X : Type 0} (n a b : Text) (x y : X) (more other : Option X) (p q r : Bool) → bytes_eq n a ≡ p → bytes_eq n b ≡ q → bytes_eq a b ≡ r → cond r (Some y) other ≡ None → cond q (Some y) (cond p (Some x) more) ≡ cond p (Some x) (cond q (Some y) more)
swap_step n a b x y more other false q r e f g h = refl
swap_step n a b x y more other true false r e f g h = refl
swap_step n a b x y more other true true true e f g h = cc h
swap_step n a b x y more other true true false e f g h = let same : a ≡ b = sym (bytes_eq-true n a e) ∙ bytes_eq-true n b f in cc (g, ap (bytes_eq a) same, bytes_eq-same a)

swap_none : {X : Type 0} (n a b : Text) (x y : X) (ys : List (Text × X)) → cond (bytes_eq a b) (Some y) (at_text a ys) ≡ None → cond (bytes_eq n b) (Some y) (cond (bytes_eq n a) (Some x) (at_text n ys)) ≡ cond (bytes_eq n a) (Some x) (cond (bytes_eq n b) (Some y) (at_text n ys))
swap_none n a b x y ys h = swap_step n a b x y (at_text n ys) (at_text a ys) (bytes_eq n a) (bytes_eq n b) (bytes_eq a b) refl refl refl h

past : {X : Type 0} (b : Bool) (y : X) (o : Option X) → cond b (Some y) o ≡ None → o ≡ None
past true y o h = cc h
past false y o h = h

at_step : {X : Type 0} (x y : Text × X) (ys zs : List (Text × X)) (n : Text) (b : Bool) → at_text x.0 (y ∷ ys) ≡ None → at_text n zs ≡ cond (bytes_eq n x.0) (Some x.1) (at_text n ys) → at_text n (cond b (y ∷ zs) (x ∷ y ∷ ys)) ≡ at_text n (x ∷ y ∷ ys)
at_step x y ys zs n false h e = refl
at_step x y ys zs n true h e = ap (cond (bytes_eq n y.0) (Some y.1)) e ∙ swap_none n x.0 y.0 x.1 y.1 ys h

module _ {X : Type 0} (earlier : Text → Text → Bool) where
  at_inserted : (x : Text × X) (ys : List (Text × X)) (n : Text) → at_text x.0 ys ≡ None → at_text n (inserted earlier x ys) ≡ at_text n (x ∷ ys)
  at_inserted x [] n h = refl
  at_inserted x (y ∷ ys) n h = at_step x y ys (inserted earlier x ys) n (earlier y.0 x.0) h (at_inserted x ys n (past (bytes_eq x.0 y.0) y.1 (at_text x.0 ys) h))

  at_sorted : (xs : List (Text × X)) → HasDistinctNames xs → (n : Text) → at_text n (sorted earlier xs) ≡ at_text n xs
  at_sorted [] u n = refl
  at_sorted (x ∷ xs) u n = at_inserted x (sorted earlier xs) n (at_sorted xs u.1 x.0 ∙ u.0) ∙ ap (cond (bytes_eq n x.0) (Some x.1)) (at_sorted xs u.1 n)

  each_step : (P : Text × X → Type 0) (x y : Text × X) (ys zs : List (Text × X)) (b : Bool) → P x → P y → Each P ys → Each P zs → Each P (cond b (y ∷ zs) (x ∷ y ∷ ys))
  each_step P x y ys zs true px py pys pzs = (py, pzs)
  each_step P x y ys zs false px py pys pzs = (px, (py, pys))

  each_inserted : (P : Text × X → Type 0) (x : Text × X) (ys : List (Text × X)) → P x → Each P ys → Each P (inserted earlier x ys)
  each_inserted P x [] px a = (px, tt)
  each_inserted P x (y ∷ ys) px a = each_step P x y ys (inserted earlier x ys) (earlier y.0 x.0) px a.0 a.1 (each_inserted P x ys px a.1)

  each_sorted : (P : Text × X → Type 0) (xs : List (Text × X)) → Each P xs → Each P (sorted earlier xs)
  each_sorted P [] a = tt
  each_sorted P (x ∷ xs) a = each_inserted P x (sorted earlier xs) a.0 (each_sorted P xs a.1)

own_first : {X : Type 0} (x : Text × X) (xs : List (Text × X)) → at_text x.0 (x ∷ xs) ≡ Some x.1
own_first x xs = ap (λ b. cond b (Some x.1) (at_text x.0 xs)) (bytes_eq-same x.0)

still : {X : Type 0} (e x : Text × X) (xs : List (Text × X)) → at_text x.0 xs ≡ None → at_text e.0 xs ≡ Some e.1 → (b : Bool) → bytes_eq e.0 x.0 ≡ b → cond b (Some x.1) (at_text e.0 xs) ≡ Some e.1
still e x xs u h false g = h
still e x xs u h true g = let same : e.0 ≡ x.0 = bytes_eq-true e.0 x.0 g in cc (h, u, ap (λ n. at_text n xs) same)

pub distinct : {X : Type 0} (xs : List (Text × X)) → HasDistinctNames xs → IsByName xs
distinct [] u = tt
distinct (x ∷ xs) u = (own_first x xs, each-weaken _ _ xs (λ e h. still e x xs u.0 h (bytes_eq e.0 x.0) refl) (distinct xs u.1))

own : {X : Type 0} (o : Option X) → AreBoth Equal o o
own None = tt
own (Some x) = refl

-- a sorted list is the same in another order
pub sorted-same : {X : Type 0} (earlier : Text → Text → Bool) (xs : List (Text × X)) → HasDistinctNames xs → SameByName Equal xs (sorted earlier xs)
sorted-same earlier xs u = record {
  at = λ n. subst (AreBoth Equal (at_text n xs)) (sym (at_sorted earlier xs u n)) (own (at_text n xs));
  one = distinct xs u;
  other = each-weaken _ _ (sorted earlier xs) (λ e h. at_sorted earlier xs u e.0 ∙ h) (each_sorted earlier _ xs (distinct xs u));
}

both_then : {X : Type 0} (R : X → X → Type 0) (o p q : Option X) → AreBoth R o p → AreBoth Equal p q → AreBoth R o q
both_then R None None None r e = tt
both_then R (Some x) (Some y) (Some z) r e = subst (R x) e r
both_then R None (Some y) q r e = absurd r
both_then R (Some x) None q r e = absurd r
both_then R None None (Some z) r e = absurd e
both_then R (Some x) (Some y) None r e = absurd e

pub same-then : {X : Type 0} (R : X → X → Type 0) (xs ys zs : List (Text × X)) → SameByName R xs ys → SameByName Equal ys zs → SameByName R xs zs
same-then R xs ys zs a b = record { at = λ n. both_then R (at_text n xs) (at_text n ys) (at_text n zs) (a.at n) (b.at n); one = a.one; other = b.other }

-- each value changed into a like one
at_step_changed : {X : Type 0} (R : X → X → Type 0) (x y : X) → R x y → (b : Bool) (o p : Option X) → AreBoth R o p → AreBoth R (cond b (Some x) o) (cond b (Some y) p)
at_step_changed R x y r true o p h = r
at_step_changed R x y r false o p h = h

at_changed : {X : Type 0} (R : X → X → Type 0) (f : X → X) (n : Text) (xs : List (Text × X)) → Each (λ e. R e.1 (f e.1)) xs → AreBoth R (at_text n xs) (at_text n (changed f xs))
at_changed R f n [] r = tt
at_changed R f n (x ∷ xs) r = at_step_changed R x.1 (f x.1) r.0 (bytes_eq n x.0) (at_text n xs) (at_text n (changed f xs)) (at_changed R f n xs r.1)

none_step : {X : Type 0} (x y : X) (b : Bool) (o p : Option X) → cond b (Some x) o ≡ None → (o ≡ None → p ≡ None) → cond b (Some y) p ≡ None
none_step x y true o p h k = cc h
none_step x y false o p h k = k h

none_changed : {X : Type 0} (f : X → X) (n : Text) (xs : List (Text × X)) → at_text n xs ≡ None → at_text n (changed f xs) ≡ None
none_changed f n [] h = refl
none_changed f n (x ∷ xs) h = none_step x.1 (f x.1) (bytes_eq n x.0) (at_text n xs) (at_text n (changed f xs)) h (none_changed f n xs)

distinct_changed : {X : Type 0} (f : X → X) (xs : List (Text × X)) → HasDistinctNames xs → HasDistinctNames (changed f xs)
distinct_changed f [] u = tt
distinct_changed f (x ∷ xs) u = (none_changed f x.0 xs u.0, distinct_changed f xs u.1)

pub changed-same : {X : Type 0} (R : X → X → Type 0) (f : X → X) (xs : List (Text × X)) → Each (λ e. R e.1 (f e.1)) xs → HasDistinctNames xs → SameByName R xs (changed f xs)
changed-same R f xs r u = record { at = λ n. at_changed R f n xs r; one = distinct xs u; other = distinct (changed f xs) (distinct_changed f xs u) }

-- ---- a schema, sorted

field-same : (earlier : Text → Text → Bool) (f : Field) → HasDistinctNames f.arguments → SameField f (sorted_field earlier f)
field-same earlier f u = record { ty = refl; arguments = sorted-same earlier f.arguments u }

fields-same : (earlier : Text → Text → Bool) (fields : List (Text × Field)) → IsDistinctFields fields → SameFields fields (sorted_fields earlier fields)
fields-same earlier fields u = same-then SameField fields (changed (sorted_field earlier) fields) (sorted_fields earlier fields)
    (changed-same SameField (sorted_field earlier) fields (each-weaken _ _ fields (λ f h. field-same earlier f.1 h) u.1) u.0)
    (sorted-same earlier (changed (sorted_field earlier) fields) (distinct_changed (sorted_field earlier) fields u.0))

definition-same : (earlier : Text → Text → Bool) (d : Definition) → IsDistinctDefinition d → SameDefinition d (sorted_definition earlier d)
definition-same earlier (object f i k) u = objects f (sorted_fields earlier f) i k (fields-same earlier f u)
definition-same earlier (interface f i) u = interfaces f (sorted_fields earlier f) i (fields-same earlier f u)
definition-same earlier (input_object f o) u = input_objects f (sorted earlier f) o (sorted-same earlier f u)
definition-same earlier (subscription f) u = subscriptions f (sorted_fields earlier f) (fields-same earlier f u)
definition-same earlier scalar u = scalars
definition-same earlier (union m) u = unions m
definition-same earlier enum u = enums
definition-same earlier upload u = uploads

pub schema-same : (earlier : Text → Text → Bool) (s : Schema) → IsDistinctSchema s → SameSchema s (sorted_schema earlier s)
schema-same earlier s u = record {
  types = same-then SameDefinition s.types (changed (sorted_definition earlier) s.types) (sorted earlier (changed (sorted_definition earlier) s.types))
      (changed-same SameDefinition (sorted_definition earlier) s.types (each-weaken _ _ s.types (λ t h. definition-same earlier t.1 h) u.1) u.0)
      (sorted-same earlier (changed (sorted_definition earlier) s.types) (distinct_changed (sorted_definition earlier) s.types u.0));
  query = refl;
  mutation = refl;
  subscription = refl;
}
