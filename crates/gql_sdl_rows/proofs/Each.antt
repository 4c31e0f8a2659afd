-- Texts of the items of a list, one after the other or with a separator between them, where each text is of an item that
-- shows the item of its place in another list.
use Rattle.std.proofs.Common.{◌≡◌, ℕ, List, [], ◌∷◌, ◌++◌, map, flat_map, refl, sym, ap₂, subst, ◌∙◌, append_assoc}
use Rattle.std.specs.List.{AllByRecursion, AllZip, join_by}
use Rattle.gql_grammar.specs.Form.{Form, many}
use Rattle.gql_sdl_readback.proofs.Texts.{Says}
use Rattle.gql_sdl_readback.proofs.Says.{weaken, none, cons_says, IsCons}
use Rattle.gql_sdl_readback.proofs.Lists.{AreBlank, blanks}

-- what is made of each of the first is what is made of each of the second
pub all_same : {X V B : Type 0} (of : X → B) (to : V → B) (vs : List V) (xs : List X) → AllZip (λ v x. of x ≡ to v) vs xs → map of xs ≡ map to vs
all_same of to [] [] z = refl
all_same of to [] (x ∷ xs) z = absurd z
all_same of to (v ∷ vs) [] z = absurd z
all_same {X} {V} {B} of to (v ∷ vs) (x ∷ xs) z = ap₂ (λ (b : B) (bs : List B). b ∷ bs) z.0 (all_same of to vs xs z.1)

module _ {A M C B : Type 0} (f : Form A) (of : A → B) (to : C → B) (text : M → List ℕ) (Shows : M → C → Type 0) (IsSound : C → Type 0) (Follows : List ℕ → Type 0) where
  -- the text of each item that shows a sound one says what that is made to
  abbrev pub SaysItem : Type 0
  SaysItem = (m : M) (c : C) (rest : List ℕ) → Shows m c → IsSound c → Follows rest → Says f (λ x. of x ≡ to c) (text m) rest

  -- the items that were read are those that were shown
  abbrev pub AreSame : List C → List A → Type 0
  AreSame cs xs = map of xs ≡ map to cs

  none_same : (xs : List A) → xs ≡ [] → AreSame [] xs
  none_same [] e = refl
  none_same (x ∷ xs) e = cc

  one_more : (c : C) (cs : List C) (xs : List A) → IsCons (λ x. of x ≡ to c) (AreSame cs) xs → AreSame (c ∷ cs) xs
  one_more c cs [] h = absurd h
  one_more c cs (x ∷ xs) h = ap₂ (λ (b : B) (bs : List B). b ∷ bs) h.0 h.1

  pub each_says : SaysItem → ((m : M) (rest : List ℕ) → Follows (text m ++ rest)) → (ms : List M) (cs : List C) (rest : List ℕ) → AllZip Shows ms cs → AllByRecursion IsSound cs → Follows rest
      → Says (many f) (AreSame cs) (flat_map text ms) rest
  each_says law begins [] [] rest z s k = weaken _ (none f rest) none_same
  each_says law begins [] (c ∷ cs) rest z s k = absurd z
  each_says law begins (m ∷ ms) [] rest z s k = absurd z
  each_says law begins (m ∷ ms) (c ∷ cs) rest z s k =
      weaken _ (cons_says (text m) (flat_map text ms) rest (law m c (flat_map text ms ++ rest) z.0 s.0 (follow_all ms)) (each_says law begins ms cs rest z.1 s.1 k)) (λ xs h. one_more c cs xs h)
    where
      follow_all : (ms : List M) → Follows (flat_map text ms ++ rest)
      follow_all [] = k
      follow_all (n ∷ ns) = subst Follows (sym (append_assoc (text n) (flat_map text ns) rest)) (begins n (flat_map text ns ++ rest))

module _ {A M C B : Type 0} (f : Form A) (of : A → B) (to : C → B) (text : M → List ℕ) (Shows : M → C → Type 0) (IsSound : C → Type 0) (Follows : List ℕ → Type 0) where
  -- the same, with blanks between the items, where the blanks may follow an item
  pub separated_each : SaysItem f of to text Shows IsSound Follows → (sep : List ℕ) → AreBlank sep → ((rest : List ℕ) → Follows (sep ++ rest)) → (ms : List M) (cs : List C) (rest : List ℕ) → AllZip Shows ms cs
      → AllByRecursion IsSound cs → Follows rest → Says (many f) (λ xs. map of xs ≡ map to cs) (join_by text sep ms) rest
  separated_each law sep a may [] [] rest z s k = weaken _ (none f rest) (none_same f of to text Shows IsSound Follows)
  separated_each law sep a may [] (c ∷ cs) rest z s k = absurd z
  separated_each law sep a may (m ∷ ms) [] rest z s k = absurd z
  separated_each law sep a may (m ∷ ms) (c ∷ cs) rest z s k =
      let more : List ℕ = flat_map (λ (n : M). sep ++ text n) ms in
      weaken _ (cons_says (text m) more rest (law m c (more ++ rest) z.0 s.0 (follow_all ms))
      (each_says f of to (λ (n : M). sep ++ text n) Shows IsSound Follows (λ n d r t i h. blanks sep a (law n d r t i h)) (λ n r. subst Follows (sym (append_assoc sep (text n) r)) (may (text n ++ r))) ms cs rest z.1 s.1 k))
      (λ xs h. one_more f of to text Shows IsSound Follows c cs xs h)
    where
      follow_all : (ns : List M) → Follows (flat_map (λ (n : M). sep ++ text n) ns ++ rest)
      follow_all [] = k
      follow_all (n ∷ ns) =
          let more : List ℕ = flat_map (λ (w : M). sep ++ text w) ns in
          subst Follows (sym (append_assoc (sep ++ text n) more rest ∙ append_assoc sep (text n) (more ++ rest))) (may (text n ++ (more ++ rest)))
