-- Where one list of tests finds no fault, another finds none.
use Rattle.std.proofs.Common.{◌||◌, ◌≡◌, Bool, true, false, cond, List, [], ◌∷◌, Option, Some, None, is_some, refl, sym, ap, ◌∙◌, subst}
use Rattle.std.specs.Str.{bytes_eq}
use Rattle.std.specs.List.{list_any}
use Rattle.gql_registry_meta.specs.Parts.{Text, at_text, is_empty}
use Rattle.gql_check_rules.specs.Schema.{passes}
use Rattle.gql_check_rules.specs.Tests.{fault_if, or_else, first_of, first_in, found_or}
use Rattle.gql_check_rules.specs.Order.{Each, AreBoth, SameByName}
use Rattle.gql_check_rules.proofs.Texts.{bytes_eq-true}

-- the second has no fault where the first has none
abbrev pub StaysSound : {F : Type 0} → Option F → Option F → Type 0
StaysSound a b = a ≡ None → b ≡ None

pub each-weaken : {X : Type 0} (P Q : X → Type 0) (xs : List X) → ((x : X) → P x → Q x) → Each P xs → Each Q xs
each-weaken P Q [] f h = tt
each-weaken P Q (x ∷ xs) f h = (f x h.0, each-weaken P Q xs f h.1)

module _ {F : Type 0} where
  pub or_else-left : (a b : Option F) → or_else a b ≡ None → a ≡ None
  or_else-left None b e = refl
  or_else-left (Some x) b e = cc e

  pub or_else-right : (a b : Option F) → or_else a b ≡ None → b ≡ None
  or_else-right None b e = e
  or_else-right (Some x) b e = cc e

  or_else-both : (a b : Option F) → a ≡ None → b ≡ None → or_else a b ≡ None
  or_else-both a b p q = ap (λ o. or_else o b) p ∙ q

  pub or_else-sound : (a b c d : Option F) → StaysSound a b → StaysSound c d → StaysSound (or_else a c) (or_else b d)
  or_else-sound a b c d p q e = or_else-both b d (p (or_else-left a c e)) (q (or_else-right a c e))

  -- place by place
  abbrev pub EachStaysSound : List (Option F) → List (Option F) → Type 0
  EachStaysSound [] [] = Unit {0}
  EachStaysSound (a ∷ cs) (b ∷ ds) = StaysSound a b × EachStaysSound cs ds
  EachStaysSound [] (b ∷ ds) = ⊥
  EachStaysSound (a ∷ cs) [] = ⊥

  pub first_of-sound : (cs ds : List (Option F)) → EachStaysSound cs ds → StaysSound (first_of cs) (first_of ds)
  first_of-sound [] [] k e = e
  first_of-sound (a ∷ cs) (b ∷ ds) k e = or_else-sound a b (first_of cs) (first_of ds) k.0 (first_of-sound cs ds k.1) e
  first_of-sound [] (b ∷ ds) k e = absurd k
  first_of-sound (a ∷ cs) [] k e = absurd k

  pub test-sound : (b c : Bool) (x : F) → b ≡ c → StaysSound (fault_if b x) (fault_if c x)
  test-sound b c x e h = ap (λ t. fault_if t x) (sym e) ∙ h

  pub fault_if-sound : (b c : Bool) (x y : F) → (b ≡ false → c ≡ false) → StaysSound (fault_if b x) (fault_if c y)
  fault_if-sound true c x y h e = cc e
  fault_if-sound false c x y h e = ap (λ t. fault_if t y) (h refl)

  pub found_or-sound : {X : Type 0} (R : X → X → Type 0) (a b : Option X) (f g : X → Option F) (p q : Option F) → AreBoth R a b → ((x y : X) → R x y → StaysSound (f x) (g y)) → StaysSound p q → StaysSound (found_or a f p) (found_or b g q)
  found_or-sound R None None f g p q r k h = h
  found_or-sound R (Some x) (Some y) f g p q r k h = k x y r
  found_or-sound R None (Some y) f g p q r k h = absurd r
  found_or-sound R (Some x) None f g p q r k h = absurd r

  -- what holds of all holds of what stands under a name
  found_step : {X : Type 0} (f : Text × X → Option F) (name : Text) (e : Text × X) (more : Option X) (x : X) (b : Bool) → bytes_eq name e.0 ≡ b → cond b (Some e.1) more ≡ Some x → f e ≡ None → (more ≡ Some x → f (name, x) ≡ None) → f (name, x) ≡ None
  found_step f name e more x true t h k ih = let same : name ≡ e.0 = bytes_eq-true name e.0 t in let value : e.1 ≡ x = cc h in subst (λ v. f (name, v) ≡ None) value (subst (λ n. f (n, e.1) ≡ None) (sym same) k)
  found_step f name e more x false t h k ih = ih h

  pub first_in-found : {X : Type 0} (f : Text × X → Option F) (xs : List (Text × X)) (name : Text) (x : X) → first_in f xs ≡ None → at_text name xs ≡ Some x → f (name, x) ≡ None
  first_in-found f [] name x h k = cc k
  first_in-found f (e ∷ xs) name x h k = found_step f name e (at_text name xs) x (bytes_eq name e.0) refl k (or_else-left (f e) (first_in f xs) h) (first_in-found f xs name x (or_else-right (f e) (first_in f xs) h))

  first_in-none : {X : Type 0} (f : X → Option F) (xs : List X) → Each (λ x. f x ≡ None) xs → first_in f xs ≡ None
  first_in-none f [] h = refl
  first_in-none f (x ∷ xs) h = or_else-both (f x) (first_in f xs) h.0 (first_in-none f xs h.1)

  one-sound : {X : Type 0} (R : X → X → Type 0) (f g : Text × X → Option F) (name : Text) (y : X) (a b : Option X) → AreBoth R a b → b ≡ Some y → ((x : X) → a ≡ Some x → f (name, x) ≡ None) → ((n : Text) (x y : X) → R x y → StaysSound (f (n, x)) (g (n, y))) → g (name, y) ≡ None
  one-sound R f g name y (Some x) (Some z) r e h k = let same : z ≡ y = cc e in subst (λ w. g (name, w) ≡ None) same (k name x z r (h x refl))
  one-sound R f g name y None None r e h k = cc e
  one-sound R f g name y None (Some z) r e h k = absurd r
  one-sound R f g name y (Some x) None r e h k = absurd r

  -- over members in any order
  pub first_in-sound : {X : Type 0} (R : X → X → Type 0) (f g : Text × X → Option F) (xs ys : List (Text × X)) → SameByName R xs ys → ((n : Text) (x y : X) → R x y → StaysSound (f (n, x)) (g (n, y))) → StaysSound (first_in f xs) (first_in g ys)
  first_in-sound R f g xs ys same k h = first_in-none g ys (each-weaken _ _ ys (λ y own. one-sound R f g y.0 y.1 (at_text y.0 xs) (at_text y.0 ys) (same.at y.0) own (λ x found. first_in-found f xs y.0 x h found) k) same.other)

  -- over the same names in the same order
  pub each_name-sound : {X : Type 0} (f g : X → Option F) (xs : List X) → ((x : X) → StaysSound (f x) (g x)) → StaysSound (first_in f xs) (first_in g xs)
  each_name-sound f g [] k h = refl
  each_name-sound f g (x ∷ xs) k h = or_else-sound (f x) (g x) (first_in f xs) (first_in g xs) (k x) (each_name-sound f g xs k) h

-- tests of what stands under a name
pub passes-same : {X : Type 0} (R : X → X → Type 0) (test : X → Bool) (a b : Option X) → ((x y : X) → R x y → test x ≡ test y) → AreBoth R a b → passes test a ≡ passes test b
passes-same R test None None k r = refl
passes-same R test (Some x) (Some y) k r = k x y r
passes-same R test None (Some y) k r = absurd r
passes-same R test (Some x) None k r = absurd r

pub is_some-same : {X : Type 0} (R : X → X → Type 0) (a b : Option X) → AreBoth R a b → is_some a ≡ is_some b
is_some-same R None None r = refl
is_some-same R (Some x) (Some y) r = refl
is_some-same R None (Some y) r = absurd r
is_some-same R (Some x) None r = absurd r

-- ---- Tests over members in any order

-- the other way round
pub turned : {X : Type 0} (R : X → X → Type 0) (xs ys : List (Text × X)) → SameByName R xs ys → SameByName (λ x y. R y x) ys xs
turned R xs ys same = record { at = λ name. turned_both R (at_text name xs) (at_text name ys) (same.at name); one = same.other; other = same.one }
  where
    turned_both : {X : Type 0} (R : X → X → Type 0) (a b : Option X) → AreBoth R a b → AreBoth (λ x y. R y x) b a
    turned_both R None None r = tt
    turned_both R (Some x) (Some y) r = r
    turned_both R None (Some y) r = absurd r
    turned_both R (Some x) None r = absurd r

any_step : (b c : Bool) (more : Option Bool) → or_else (fault_if b true) more ≡ None → (more ≡ None → c ≡ false) → b || c ≡ false
any_step true c more e h = cc e
any_step false c more e h = h e

over_step : (b c : Bool) (more : Option Bool) → b || c ≡ false → (c ≡ false → more ≡ None) → or_else (fault_if b true) more ≡ None
over_step true c more e h = cc e
over_step false c more e h = h e

any_from_over : {X : Type 0} (p : X → Bool) (xs : List X) → first_in (λ x. fault_if (p x) true) xs ≡ None → list_any p xs ≡ false
any_from_over p [] h = refl
any_from_over p (x ∷ xs) h = any_step (p x) (list_any p xs) (first_in (λ x. fault_if (p x) true) xs) h (any_from_over p xs)

over_from_any : {X : Type 0} (p : X → Bool) (xs : List X) → list_any p xs ≡ false → first_in (λ x. fault_if (p x) true) xs ≡ None
over_from_any p [] h = refl
over_from_any p (x ∷ xs) h = over_step (p x) (list_any p xs) (first_in (λ x. fault_if (p x) true) xs) h (over_from_any p xs)

pub list_any-stays_false : {X : Type 0} (R : X → X → Type 0) (p q : Text × X → Bool) (xs ys : List (Text × X)) → SameByName R xs ys → ((n : Text) (x y : X) → R x y → p (n, x) ≡ false → q (n, y) ≡ false) → list_any p xs ≡ false → list_any q ys ≡ false
list_any-stays_false R p q xs ys same k h = any_from_over q ys (first_in-sound R (λ x. fault_if (p x) true) (λ y. fault_if (q y) true) xs ys same (λ n x y r. fault_if-sound (p (n, x)) (q (n, y)) true true (k n x y r)) (over_from_any p xs h))

pub bool-same : (a b : Bool) → (a ≡ true → b ≡ true) → (b ≡ true → a ≡ true) → a ≡ b
bool-same true b f g = sym (f refl)
bool-same false true f g = g refl
bool-same false false f g = refl

both_false : (a b : Bool) → (a ≡ false → b ≡ false) → (b ≡ false → a ≡ false) → a ≡ b
both_false true true f g = refl
both_false false false f g = refl
both_false true false f g = g refl
both_false false true f g = sym (f refl)

pub list_any-same : {X : Type 0} (R : X → X → Type 0) (p q : Text × X → Bool) (xs ys : List (Text × X)) → SameByName R xs ys → ((n : Text) (x y : X) → R x y → p (n, x) ≡ q (n, y)) → list_any p xs ≡ list_any q ys
list_any-same R p q xs ys same k = both_false (list_any p xs) (list_any q ys)
    (list_any-stays_false R p q xs ys same (λ n x y r e. sym (k n x y r) ∙ e))
    (list_any-stays_false (λ x y. R y x) q p ys xs (turned R xs ys same) (λ n x y r e. k n y x r ∙ e))

pub is_empty-same : {X : Type 0} (R : X → X → Type 0) (xs ys : List (Text × X)) → SameByName R xs ys → is_empty xs ≡ is_empty ys
is_empty-same R [] [] same = refl
is_empty-same R (x ∷ xs) (y ∷ ys) same = refl
is_empty-same R [] (y ∷ ys) same = absurd (subst (AreBoth R None) same.other.0 (same.at y.0))
is_empty-same R (x ∷ xs) [] same = absurd (subst (λ o. AreBoth R o None) same.one.0 (same.at x.0))

-- nothing is found where neither the tests of a list find something nor one that comes after the first of them
pub none_apart : {F : Type 0} (a b c : Option F) → or_else a (or_else b c) ≡ None → (or_else a c ≡ None) × (b ≡ None)
none_apart None None c e = (e, refl)
none_apart None (Some y) c e = cc e
none_apart (Some x) b c e = cc e

pub none_together : {F : Type 0} (a b c : Option F) → or_else a c ≡ None → b ≡ None → or_else a (or_else b c) ≡ None
none_together None None c e k = e
none_together None (Some y) c e k = k
none_together (Some x) b c e k = e
