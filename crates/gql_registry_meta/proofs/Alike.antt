-- Items that look alike, place by place, make lists that look alike.
use Rattle.std.proofs.Common.{◌≡◌, List, [], ◌∷◌, map, refl, ap₂}
use Rattle.std.specs.List.{AllZip}
use Rattle.std.specs.declared.string.String.{String}
use Rattle.std.specs.declared.alloc.Global.{Global}
use Rattle.gql_registry_meta.specs.Views.{text_of, entries_of}

pub map_alike : {A B : Type 0} (f : A → B) (xs ys : List A) → AllZip (λ x y. f y ≡ f x) xs ys → map f ys ≡ map f xs
map_alike f [] [] h = refl
map_alike f [] (y ∷ ys) h = absurd h
map_alike f (x ∷ xs) [] h = absurd h
map_alike f (x ∷ xs) (y ∷ ys) h = ap₂ (λ b bs. b ∷ bs) h.0 (map_alike f xs ys h.1)

pub entries_alike : {A B : Type 0} (f : A → B) (xs ys : List (String Global × A)) → AllZip (λ p q. (text_of q.0 ≡ text_of p.0) × (f q.1 ≡ f p.1)) xs ys → entries_of f ys ≡ entries_of f xs
entries_alike f [] [] h = refl
entries_alike f [] (y ∷ ys) h = absurd h
entries_alike f (x ∷ xs) [] h = absurd h
entries_alike f (x ∷ xs) (y ∷ ys) h = ap₂ (λ b bs. b ∷ bs) (ap₂ (λ t v. (t, v)) h.0.0 h.0.1) (entries_alike f xs ys h.1)
