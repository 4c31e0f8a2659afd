-- Blanks before a text, and items with blanks between them.
use Rattle.std.proofs.Common.{◌≡◌, ℕ, true, List, [], ◌∷◌, ◌++◌, flat_map, sym, subst, ◌∙◌, append_assoc}
use Rattle.std.specs.List.{AllByRecursion, AllZip, join_by}
use Rattle.gql_grammar.specs.Form.{Form, many}
use Rattle.gql_text_lexer.specs.Bytes.{is_blank}
use Rattle.gql_sdl_readback.proofs.Texts.{Says}
use Rattle.gql_sdl_readback.proofs.Says.{blank, weaken, none, cons_says, IsCons, SaysEach, many_says}

abbrev pub AreBlank : List ℕ → Type 0
AreBlank bytes = AllByRecursion (λ b. is_blank b ≡ true) bytes

pub blanks : {A : Type 0} {f : Form A} {Is : A → Type 0} (front : List ℕ) {text rest : List ℕ} → AreBlank front → Says f Is text rest → Says f Is (front ++ text) rest
blanks [] a s = s
blanks (b ∷ front) a s = blank a.0 (blanks front a.1 s)

module _ {A V : Type 0} (f : Form A) (Is : V → A → Type 0) (text : V → List ℕ) (Follows : List ℕ → Type 0) where
  zipped : (v : V) (vs : List V) (xs : List A) → IsCons (Is v) (AllZip Is vs) xs → AllZip Is (v ∷ vs) xs
  zipped v vs [] h = absurd h
  zipped v vs (x ∷ xs) h = h

  zipped_none : (xs : List A) → xs ≡ [] → AllZip Is [] xs
  zipped_none [] e = tt
  zipped_none (x ∷ xs) e = cc

  -- each item after the first, with the separator before it
  behind_separators : (sep : List ℕ) → AreBlank sep → (vs : List V) → SaysEach f Is text Follows vs → SaysEach f Is (λ v. sep ++ text v) Follows vs
  behind_separators sep a [] all = tt
  behind_separators sep a (v ∷ vs) all = (λ rest k. blanks sep a (all.0 rest k), behind_separators sep a vs all.1)

  follow_all : (sep : List ℕ) → ((rest : List ℕ) → Follows (sep ++ rest)) → (vs : List V) (rest : List ℕ) → Follows rest → Follows (flat_map (λ v. sep ++ text v) vs ++ rest)
  follow_all sep may [] rest k = k
  follow_all sep may (v ∷ vs) rest k =
      let more : List ℕ = flat_map (λ (w : V). sep ++ text w) vs in
      subst Follows (sym (append_assoc (sep ++ text v) more rest ∙ append_assoc sep (text v) (more ++ rest))) (may (text v ++ (more ++ rest)))

  -- items with blanks between them, where the blanks may follow an item
  pub separated_says : (sep : List ℕ) → AreBlank sep → ((rest : List ℕ) → Follows (sep ++ rest)) → (vs : List V) (rest : List ℕ) → SaysEach f Is text Follows vs → Follows rest
      → Says (many f) (AllZip Is vs) (join_by text sep vs) rest
  separated_says sep a may [] rest all k = weaken _ (none f rest) zipped_none
  separated_says sep a may (v ∷ vs) rest all k =
      let more : List ℕ = flat_map (λ (w : V). sep ++ text w) vs in
      weaken _ (cons_says (text v) more rest (all.0 (more ++ rest) (follow_all sep may vs rest k))
      (many_says f Is (λ w. sep ++ text w) Follows (λ w r. subst Follows (sym (append_assoc sep (text w) r)) (may (text w ++ r))) vs rest (behind_separators sep a vs all.1) k))
      (λ xs h. zipped v vs xs h)
