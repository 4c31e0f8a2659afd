-- Members that are lent, and the members of a view.
use Rattle.std.proofs.Common.{◌≡◌, Bool, true, false, cond, List, [], ◌∷◌, map, filter, refl, ap, ap₂, sym, ◌∙◌, Bor}
use Rattle.std.specs.Map.{values_of}
use Rattle.std.specs.declared.string.String.{String}
use Rattle.std.specs.declared.alloc.Global.{Global}
use Rattle.gql_registry_meta.specs.Parts.{Text}
use Rattle.gql_registry_meta.specs.Views.{text_of, entries_of}
use Rattle.gql_sdl_view.specs.Ordered.{goes_before, placed, sorted, arranged, changed}

module _ {X Y : Type 0} (f : X → Y) (name : X → Text) (part_name : Y → Text) (same : (a : X) → part_name (f a) ≡ name a) where
  -- the order of names, before and after
  abbrev before : X → X → Bool
  before a b = goes_before (name a) (name b)

  abbrev after : Y → Y → Bool
  after a b = goes_before (part_name a) (part_name b)

  order-same : (a b : X) → after (f a) (f b) ≡ before a b
  order-same a b = ap₂ goes_before (same a) (same b)

  map-cond : (b : Bool) (xs ys : List X) → map f (cond b xs ys) ≡ cond b (map f xs) (map f ys)
  map-cond true xs ys = refl
  map-cond false xs ys = refl

  placed-map : (x : X) (xs : List X) → map f (placed before x xs) ≡ placed after (f x) (map f xs)
  placed-map x [] = refl
  placed-map x (y ∷ xs) = map-cond (before y x) (y ∷ placed before x xs) (x ∷ y ∷ xs)
      ∙ ap₂ (λ b l. cond b (f y ∷ l) (f x ∷ f y ∷ map f xs)) (sym (order-same y x)) (placed-map x xs)

  sorted-map : (xs : List X) → map f (sorted before xs) ≡ sorted after (map f xs)
  sorted-map [] = refl
  sorted-map (x ∷ xs) = placed-map x (sorted before xs) ∙ ap (placed after (f x)) (sorted-map xs)

  -- parts stand for arranged items in the same order
  pub arranged-map : (b : Bool) (xs : List X) → map f (arranged name b xs) ≡ arranged part_name b (map f xs)
  arranged-map true xs = sorted-map xs
  arranged-map false xs = refl

pub map-twice : {X Y Z : Type 0} (f : X → Y) (g : Y → Z) (xs : List X) → map (λ x. g (f x)) xs ≡ map g (map f xs)
map-twice f g [] = refl
map-twice f g (x ∷ xs) = ap (λ l. g (f x) ∷ l) (map-twice f g xs)

values-map : {X : Type 0} (es : List (Text × X)) → values_of es ≡ map (λ e. e.1) es
values-map [] = refl
values-map (e ∷ es) = ap (λ l. e.1 ∷ l) (values-map es)

module _ {A B C : Type 0} (view : A → B) (change : B → C) where
  filtered-step : (b : Bool) (a : A) (es : List (Text × B)) (rest : List A) → values_of (changed change es) ≡ map (λ x. change (view x)) rest
      → (n : Text) → values_of (changed change (cond b ((n, view a) ∷ es) es)) ≡ map (λ x. change (view x)) (cond b (a ∷ rest) rest)
  filtered-step true a es rest h n = ap (λ l. change (view a) ∷ l) h
  filtered-step false a es rest h n = h

  values-filtered : (test : B → Bool) (es : List (String Global × A))
      → values_of (changed change (filter (λ e. test e.1) (entries_of view es))) ≡ map (λ x. change (view x)) (filter (λ x. test (view x)) (values_of es))
  values-filtered test [] = refl
  values-filtered test (e ∷ es) = filtered-step (test (view e.1)) e.1 (filter (λ e. test e.1) (entries_of view es)) (filter (λ x. test (view x)) (values_of es)) (values-filtered test es) (text_of e.0)

  pub values-changed : (es : List (String Global × A)) → values_of (changed change (entries_of view es)) ≡ map (λ x. change (view x)) (values_of es)
  values-changed [] = refl
  values-changed (e ∷ es) = ap (λ l. change (view e.1) ∷ l) (values-changed es)

module _ {A B C : Type 0} (view : A → B) (change : B → C) (name : A → Text) (part_name : C → Text) (same : (a : A) → part_name (change (view a)) ≡ name a) where
  arranged-values : (b : Bool) (es : List (Text × C)) → values_of (arranged (λ e. part_name e.1) b es) ≡ arranged part_name b (values_of es)
  arranged-values b es = values-map (arranged (λ e. part_name e.1) b es)
      ∙ arranged-map (λ (e : Text × C). e.1) (λ e. part_name e.1) part_name (λ e. refl) b es
      ∙ ap (arranged part_name b) (sym (values-map es))

  lent-map : (b : Bool) (items : List (Bor A)) → map (λ v. change (view v.now)) (arranged (λ v. name v.now) b items) ≡ arranged part_name b (map (λ x. change (view x)) (map (λ v. v.now) items))
  lent-map b items = arranged-map (λ v. change (view v.now)) (λ v. name v.now) part_name (λ v. same v.now) b items
      ∙ ap (arranged part_name b) (map-twice (λ v. v.now) (λ x. change (view x)) items)

  -- all members of a map
  pub lent_is : (b : Bool) (items : List (Bor A)) (es : List (String Global × A)) → map (λ v. v.now) items ≡ values_of es
      → map (λ v. change (view v.now)) (arranged (λ v. name v.now) b items) ≡ values_of (arranged (λ e. part_name e.1) b (changed change (entries_of view es)))
  lent_is b items es h = lent-map b items ∙ ap (λ l. arranged part_name b (map (λ x. change (view x)) l)) h
      ∙ sym (arranged-values b (changed change (entries_of view es)) ∙ ap (arranged part_name b) (values-changed view change es))

  -- the members that pass a test
  pub kept_is : (test : B → Bool) (b : Bool) (items : List (Bor A)) (es : List (String Global × A)) → map (λ v. v.now) items ≡ filter (λ x. test (view x)) (values_of es)
      → map (λ v. change (view v.now)) (arranged (λ v. name v.now) b items) ≡ values_of (arranged (λ e. part_name e.1) b (changed change (filter (λ e. test e.1) (entries_of view es))))
  kept_is test b items es h = lent-map b items ∙ ap (λ l. arranged part_name b (map (λ x. change (view x)) l)) h
      ∙ sym (arranged-values b (changed change (filter (λ e. test e.1) (entries_of view es))) ∙ ap (arranged part_name b) (values-filtered view change test es))
