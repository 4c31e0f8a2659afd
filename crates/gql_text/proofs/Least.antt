-- The first of the faults that were met is one of them, and none of them is before it.
use Rattle.std.proofs.Common.{◌≡◌, inl, inr, Bool, true, false, cond, List, [], ◌∷◌, Some, None, refl, sym, ap, ◌∙◌, arith, subst}
use Rattle.std.specs.Prelude.{not, ◌&&◌}
use Rattle.std.specs.declared.option.Option.{Option}
use Rattle.std.proofs.lemmas.Bool.Decides.{nat_tests}
use Rattle.gql_text.specs.declared.owner_fault.OwnerFault.{OwnerFault}
use Rattle.gql_text.specs.Faults.{is_before, none_before, IsFirst, IsFirstOf, earlier, first_after}

asymmetric : (a b : OwnerFault) → is_before a b ≡ true → is_before b a ≡ false
asymmetric a b e = grind (arith, nat_tests)

irreflexive : (a : OwnerFault) → is_before a a ≡ false
irreflexive a = grind (arith, nat_tests)

chained : (a b c : OwnerFault) → is_before b a ≡ false → is_before c b ≡ false → is_before c a ≡ false
chained a b c e f = grind (arith, nat_tests)

-- what is no later than the first of two comes before the other
strictly : (f g m : OwnerFault) → is_before g f ≡ true → is_before g m ≡ false → is_before m f ≡ true
strictly f g m e n = grind (arith, nat_tests)

still_before : (m f g : OwnerFault) → is_before m f ≡ true → is_before g f ≡ false → is_before m g ≡ true
still_before m f g e n = grind (arith, nat_tests)

least_of : OwnerFault → List OwnerFault → OwnerFault
least_of f [] = f
least_of f (g ∷ gs) = least_of (earlier (Some f) g) gs

is_least_of : (f : OwnerFault) (gs : List OwnerFault) → first_after (Some f) gs ≡ Some (least_of f gs)
unfolding least_of
is_least_of f [] = refl
is_least_of f (g ∷ gs) = is_least_of (earlier (Some f) g) gs

both : (a b : Bool) → a ≡ false → b ≡ true → (not a && b) ≡ true
both false true e f = refl
both false false e f = absurd cc
both true b e f = absurd cc

abbrev Least : OwnerFault → OwnerFault → List OwnerFault → Type 0
Least m f gs = IsFirst m (f ∷ gs) × (is_before f m ≡ false)

-- after a step to the later one, or none
stepped : (f g : OwnerFault) (gs : List OwnerFault) (m : OwnerFault) (b : Bool) → is_before g f ≡ b → Least m (cond b g f) gs → Least m f (g ∷ gs)
stepped f g gs m true e h = let s = strictly f g m e h.1 in (inr (s, h.0), asymmetric m f s)
stepped f g gs m false e h = (kept h.0, h.1)
  where
    kept : IsFirst m (f ∷ gs) → IsFirst m (f ∷ g ∷ gs)
    kept (inl (same, none)) = inl (same, both (is_before g m) (none_before m gs) (chained m f g h.1 e) none)
    kept (inr (before, first)) = inr (before, inr (still_before m f g before e, first))

least : (f : OwnerFault) (gs : List OwnerFault) → Least (least_of f gs) f gs
unfolding least_of
least f [] = (inl (refl, refl), irreflexive f)
least f (g ∷ gs) = stepped f g gs (least_of (earlier (Some f) g) gs) (is_before g f) refl (least (earlier (Some f) g) gs)

pub first_of_all : (faults : List OwnerFault) (found : Option OwnerFault) → found ≡ first_after None faults → IsFirstOf found faults
first_of_all [] found e = subst (λ (o : Option OwnerFault). IsFirstOf o []) (sym e) refl
first_of_all (f ∷ gs) found e = subst (λ (o : Option OwnerFault). IsFirstOf o (f ∷ gs)) (sym (e ∙ is_least_of f gs)) (least f gs).0

-- ---- there is one first fault

none_here : (b c : Bool) → (not b && c) ≡ true → (b ≡ false) × (c ≡ true)
none_here false c e = (refl, e)
none_here true c e = absurd cc

not_later : (m f : OwnerFault) (gs : List OwnerFault) → none_before m gs ≡ true → IsFirst f gs → is_before f m ≡ false
not_later m f [] e h = absurd h
not_later m f (g ∷ gs) e (inl (same, none)) = let p = none_here (is_before g m) (none_before m gs) e in ap (λ (x : OwnerFault). is_before x m) same ∙ p.0
not_later m f (g ∷ gs) e (inr (before, first)) = not_later m f gs (none_here (is_before g m) (none_before m gs) e).1 first

pub one_first : (faults : List OwnerFault) (f g : OwnerFault) → IsFirst f faults → IsFirst g faults → f ≡ g
one_first [] f g h k = absurd h
one_first (x ∷ xs) f g (inl (p, none)) (inl (q, others)) = p ∙ sym q
one_first (x ∷ xs) f g (inr (p, first)) (inr (q, other)) = one_first xs f g first other
one_first (x ∷ xs) f g (inl (p, none)) (inr (q, other)) = let n = not_later f g xs none other in let m = ap (is_before g) p ∙ q in absurd cc
one_first (x ∷ xs) f g (inr (p, first)) (inl (q, others)) = let n = not_later g f xs others first in let m = ap (is_before f) q ∙ p in absurd cc
