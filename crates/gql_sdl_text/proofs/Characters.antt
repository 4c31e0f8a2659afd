-- Characters after which no indent comes.
use Rattle.std.proofs.Common.{arith, cond, ◌==◌, ne_eqb, get_or, length, append-nil, encode_utf8, suc, ◌<◌, ◌≢◌, ◌≡◌, ℕ, List, [], ◌∷◌, ◌++◌, flat_map, refl, ap₂, ◌∙◌, sym}
use Rattle.std.proofs.lemmas.Str.{inside_one}
use Rattle.gql_registry_meta.specs.Parts.{Text}
use Rattle.gql_sdl_readback.specs.Descriptions.{indented}

flat_map-plain : (f : ℕ → Text) (bs : List ℕ) → ((k : ℕ) → k < length bs → f (get_or bs k 0) ≡ get_or bs k 0 ∷ []) → flat_map f bs ≡ bs
flat_map-plain f [] h = refl
flat_map-plain f (b ∷ bs) h = ap₂ (λ (x xs : Text). x ++ xs) (h 0 (omega arith)) (flat_map-plain f bs (λ k l. h (suc k) (omega arith)))

plain-byte : (indent : Text) (b : ℕ) → b ≢ 10 → indented indent (b ∷ []) ≡ b ∷ []
plain-byte indent b p = rw (ne_eqb b 10 p) refl

-- a character after which no indent comes
pub indented-char : (indent : Text) (c : ℕ) → c ≢ 10 → indented indent (encode_utf8 c) ≡ encode_utf8 c
indented-char indent c p = flat_map-plain (λ b. b ∷ cond (b == 10) indent []) (encode_utf8 c) (λ k l.
    let bs = encode_utf8 c in
    let same : get_or bs k 0 < 128 → c ≡ get_or bs k 0 = λ low. inside_one c [] bs k (sym (append-nil bs)) l low in
    rw (ne_eqb (get_or bs k 0) 10 (λ e. p (same (omega (arith, e)) ∙ e))) refl)
