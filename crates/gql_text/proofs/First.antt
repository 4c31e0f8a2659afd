-- The first of faults that are met in turn.
use Rattle.std.proofs.Common.{◌≡◌, ℕ, ◌+◌, ◌<◌, List, [], ◌∷◌, ◌++◌, length, take, drop, get_or, Some, refl, sym, ap, ◌∙◌, add-one, append-nil}
use Rattle.std.specs.Prelude.{flat_map}
use Rattle.std.proofs.lemmas.List.{take_more}
use Rattle.std.proofs.lemmas.Grind.{flat_map-append}
use Rattle.std.proofs.Math.Seq.{drop-cons}
use Rattle.std.specs.declared.option.Option.{Option}
use Rattle.gql_text.specs.declared.owner_fault.OwnerFault.{OwnerFault}
use Rattle.gql_text.specs.Faults.{earlier, first_after}

pub first_after_append : (found : Option OwnerFault) (faults more : List OwnerFault) → first_after found (faults ++ more) ≡ first_after (first_after found faults) more
first_after_append found [] more = refl
first_after_append found (fault ∷ faults) more = first_after_append (Some (earlier found fault)) faults more

-- what is left at an index: the item there, and what is left after it
pub left_at : {X : Type 0} (xs : List X) (k : ℕ) (x : X) → k < length xs → x ≡ get_or xs k x → drop k xs ≡ x ∷ drop (k + 1) xs
left_at xs k x below is = drop-cons xs k x below ∙ rw (sym is, add-one) refl

-- the first so far, after one more item
pub first_more : {X : Type 0} (f : X → List OwnerFault) (xs : List X) (k : ℕ) (x : X) (found : Option OwnerFault) → k < length xs → x ≡ get_or xs k x → first_after found (flat_map f (take (k + 1) xs)) ≡ first_after (first_after found (flat_map f (take k xs))) (f x)
first_more f xs k x found below is =
    let more : take (k + 1) xs ≡ take k xs ++ x ∷ [] = take_more xs k x below ∙ ap (λ y. take k xs ++ y ∷ []) (sym is) in
    rw (more, flat_map-append f (take k xs) (x ∷ []), append-nil (f x)) (first_after_append found (flat_map f (take k xs)) (f x))
