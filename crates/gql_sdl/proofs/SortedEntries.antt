-- Entries that a stable sort puts in the order of the names of their values.
use Rattle.std.proofs.Common.{◌≡◌, Bool, true, false, cond, List, [], ◌∷◌, map, refl, ap, ap₂, ◌∙◌}
use Rattle.std.specs.Cmp.{IsStrictWeakOrder}
use Rattle.std.specs.List.Sorted.{IsSortedBy, IsStableBy}
use Rattle.std.specs.String.{string_cmp, string_cmp_total}
use Rattle.std.specs.declared.string.String.{String}
use Rattle.std.specs.declared.alloc.Global.{Global}
use Rattle.std.proofs.lemmas.List.Sorted.{ranks_by}
use Rattle.gql_registry_meta.specs.Parts.{Text}
use Rattle.gql_registry_meta.specs.Views.{text_of, entries_of}
use Rattle.gql_sdl_view.specs.Ordered.{goes_before, placed, sorted, arranged}
use Rattle.gql_sdl_text.proofs.Sorting.{stable_sort_is, ascends_from_sort}

module _ {X Y : Type 0} (f : X → Y) (before : X → X → Bool) (after : Y → Y → Bool) (same : (a b : X) → after (f a) (f b) ≡ before a b) where
  placed-step : (x y : X) (xs zs : List X) (b c : Bool) → c ≡ b → map f (cond b (y ∷ zs) (x ∷ y ∷ xs)) ≡ cond c (f y ∷ map f zs) (f x ∷ f y ∷ map f xs)
  placed-step x y xs zs true true e = refl
  placed-step x y xs zs true false e = absurd (different e)
    where
      different : false ≡ true → ⊥
      different d = cc d
  placed-step x y xs zs false true e = absurd (different e)
    where
      different : true ≡ false → ⊥
      different d = cc d
  placed-step x y xs zs false false e = refl

  placed-map : (x : X) (xs : List X) → map f (placed before x xs) ≡ placed after (f x) (map f xs)
  placed-map x [] = refl
  placed-map x (y ∷ xs) = placed-step x y xs (placed before x xs) (before y x) (after (f y) (f x)) (same y x)
      ∙ ap (λ l. cond (after (f y) (f x)) (f y ∷ l) (f x ∷ f y ∷ map f xs)) (placed-map x xs)

  -- sorted items stand for sorted parts
  pub sorted-map : (xs : List X) → map f (sorted before xs) ≡ sorted after (map f xs)
  sorted-map [] = refl
  sorted-map (x ∷ xs) = placed-map x (sorted before xs) ∙ ap (placed after (f x)) (sorted-map xs)

module _ {A B : Type 0} (f : A → B) (name : A → String Global) (part_name : B → Text) (same : (a : A) → part_name (f a) ≡ text_of (name a)) where
  -- the order of the names of two values
  abbrev pub earlier : String Global × A → String Global × A → Bool
  earlier p q = goes_before (text_of (name p.1)) (text_of (name q.1))

  pub earlier-order : IsStrictWeakOrder earlier
  earlier-order = ranks_by {R = string_cmp} string_cmp_total (λ e. name e.1)

  -- entries that ascend, with ties in their old order, are the sorted ones
  pub sorted_entries : (old new : List (String Global × A)) → IsSortedBy earlier new → IsStableBy earlier old new
      → entries_of f new ≡ arranged (λ e. part_name e.1) true (entries_of f old)
  sorted_entries old new ascends stable =
      ap (entries_of f) (stable_sort_is earlier earlier-order old new (ascends_from_sort earlier earlier-order new ascends) stable)
      ∙ sorted-map (λ e. (text_of e.0, f e.1)) earlier (λ p q. goes_before (part_name p.1) (part_name q.1)) (λ p q. ap₂ goes_before (same p.1) (same q.1)) old
