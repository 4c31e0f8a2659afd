-- A reference is a sub-type exactly where every shape that it takes is one that the wider takes.
use Rattle.std.proofs.Common.{rules, ◌≡◌, ℕ, true, List, refl, ◌∙◌, ◌↔◌, IsTrue}
use Rattle.std.specs.Str.{bytes_eq}
use Rattle.gql_text_values.specs.TypeRefs.{Reference, named, non_null, list_of, is_subtype, IsSingle}
use Rattle.gql_text_values.specs.Shapes.{Shape, Shapes, null, leaf, items, none, and, Each, Fits}

each_more : (P Q : Shape → Type 0) → ((s : Shape) → P s → Q s) → (ss : Shapes) → Each P ss → Each Q ss
each_more P Q f none h = tt
each_more P Q f (and s ss) h = (f s h.0, each_more P Q f ss h.1)

same_bytes : (a b : List ℕ) → bytes_eq a b ≡ true → a ≡ b
same_bytes a b e = search rules

eq_bytes : (a b : List ℕ) → a ≡ b → bytes_eq a b ≡ true
eq_bytes a b e = search rules

pub is_subtype-sound : (a b : Reference) → is_subtype a b ≡ true → (s : Shape) → Fits b s → Fits a s
is_subtype-sound (non_null a) (non_null b) e null h = absurd h
is_subtype-sound (non_null a) (non_null b) e (leaf n) h = is_subtype-sound a b e (leaf n) h
is_subtype-sound (non_null a) (non_null b) e (items ss) h = is_subtype-sound a b e (items ss) h
is_subtype-sound (named a) (non_null b) e null h = absurd h
is_subtype-sound (named a) (non_null b) e (leaf n) h = is_subtype-sound (named a) b e (leaf n) h
is_subtype-sound (named a) (non_null b) e (items ss) h = is_subtype-sound (named a) b e (items ss) h
is_subtype-sound (list_of a) (non_null b) e null h = absurd h
is_subtype-sound (list_of a) (non_null b) e (leaf n) h = is_subtype-sound (list_of a) b e (leaf n) h
is_subtype-sound (list_of a) (non_null b) e (items ss) h = is_subtype-sound (list_of a) b e (items ss) h
is_subtype-sound (named a) (named b) e null h = tt
is_subtype-sound (named a) (named b) e (leaf n) h = same_bytes a b e ∙ h
is_subtype-sound (named a) (named b) e (items ss) h = h
is_subtype-sound (list_of a) (list_of b) e null h = tt
is_subtype-sound (list_of a) (list_of b) e (leaf n) h = h
is_subtype-sound (list_of a) (list_of b) e (items ss) h = each_more (Fits b) (Fits a) (is_subtype-sound a b e) ss h
is_subtype-sound (named a) (list_of b) e s h = absurd cc
is_subtype-sound (list_of a) (named b) e s h = absurd cc
is_subtype-sound (non_null a) (named b) e s h = absurd cc
is_subtype-sound (non_null a) (list_of b) e s h = absurd cc

pub is_subtype-complete : (a b : Reference) → IsSingle a → IsSingle b → ((s : Shape) → Fits b s → Fits a s) → is_subtype a b ≡ true
is_subtype-complete (non_null (non_null a)) b p q h = absurd p
is_subtype-complete a (non_null (non_null b)) p q h = absurd q
is_subtype-complete (non_null (named a)) (non_null (named b)) p q h = eq_bytes a b (h (leaf b) refl)
is_subtype-complete (non_null (named a)) (non_null (list_of b)) p q h = absurd (h (items none) tt)
is_subtype-complete (non_null (list_of a)) (non_null (named b)) p q h = absurd (h (leaf b) refl)
is_subtype-complete (non_null (list_of a)) (non_null (list_of b)) p q h = is_subtype-complete a b p q (λ s k. (h (items (and s none)) (k, tt)).0)
is_subtype-complete (named a) (non_null (named b)) p q h = eq_bytes a b (h (leaf b) refl)
is_subtype-complete (named a) (non_null (list_of b)) p q h = absurd (h (items none) tt)
is_subtype-complete (list_of a) (non_null (named b)) p q h = absurd (h (leaf b) refl)
is_subtype-complete (list_of a) (non_null (list_of b)) p q h = is_subtype-complete a b p q (λ s k. (h (items (and s none)) (k, tt)).0)
is_subtype-complete (named a) (named b) p q h = eq_bytes a b (h (leaf b) refl)
is_subtype-complete (list_of a) (list_of b) p q h = is_subtype-complete a b p q (λ s k. (h (items (and s none)) (k, tt)).0)
is_subtype-complete (named a) (list_of b) p q h = absurd (h (items none) tt)
is_subtype-complete (list_of a) (named b) p q h = absurd (h (leaf b) refl)
is_subtype-complete (non_null a) (named b) p q h = absurd (h null tt)
is_subtype-complete (non_null a) (list_of b) p q h = absurd (h null tt)

pub is_subtype-exact : (a b : Reference) → IsSingle a → IsSingle b → IsTrue (is_subtype a b) ↔ ((s : Shape) → Fits b s → Fits a s)
is_subtype-exact a b p q = ((λ t. is_subtype-sound a b t), (λ h. is_subtype-complete a b p q h))

pub is_subtype-reflexive : (a : Reference) → IsSingle a → is_subtype a a ≡ true
is_subtype-reflexive a p = is_subtype-complete a a p p (λ s h. h)

pub is_subtype-transitive : (a b c : Reference) → IsSingle a → IsSingle c → is_subtype a b ≡ true → is_subtype b c ≡ true → is_subtype a c ≡ true
is_subtype-transitive a b c p q e f = is_subtype-complete a c p q (λ s h. is_subtype-sound a b e s (is_subtype-sound b c f s h))
