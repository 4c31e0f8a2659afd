-- A string's body, with and without what follows it.
use Rattle.std.proofs.Common.{◌≡◌, ℕ, ◌+◌, ◌<◌, Bool, true, false, List, [], ◌∷◌, ◌++◌, length, refl, sym, ap, subst, ◌∙◌, arith, append_assoc, length-append}
use Rattle.std.proofs.lemmas.List.{get_or_append_left}
use Rattle.gql_text_lexer.specs.declared.string.Part.{Part}
use Rattle.gql_text_lexer.specs.declared.string.Part.TheVariants.{Plain, Escape, Unicode, Quotes}
use Rattle.gql_text_lexer.specs.Bytes.{quotes_at}
use Rattle.gql_text_lexer.specs.Forms.{part_text, FitsPart, closing, Closes}

quotes_more : (i : ℕ) (text x : List ℕ) → i + 2 < length text → quotes_at i (text ++ x) ≡ quotes_at i text
quotes_more i text x l = rw (get_or_append_left text x 0 i (omega arith), get_or_append_left text x 0 (i + 1) (omega arith), get_or_append_left text x 0 (i + 2) l) refl

closes_long : (ps : List Part) (text after : List ℕ) → Closes true ps text after → 2 < length text
closes_long [] text after e = rw e (omega arith)
closes_long (p ∷ ps) text after (rest, e, f, c) = omega (arith, ap length e, length-append (part_text p) rest, closes_long ps rest after c)

fits_more : (block : Bool) (p : Part) (text x : List ℕ) → (block ≡ true → 3 < length text) → FitsPart block p text → FitsPart block p (text ++ x)
fits_more false (Plain b) text x l f = f
fits_more false (Escape c) text x l f = f
fits_more false (Unicode a b c d) text x l f = f
fits_more false Quotes text x l f = absurd f
fits_more true (Plain b) text x l f =
    let n : 3 < length text = l refl in
    (f.0, quotes_more 0 text x (omega arith) ∙ f.1, rw (quotes_more 1 text x (omega arith)) f.2)
fits_more true (Escape c) text x l f = absurd f
fits_more true (Unicode a b c d) text x l f = absurd f
fits_more true Quotes text x l f = tt

fits_less : (block : Bool) (p : Part) (text x : List ℕ) → (block ≡ true → 3 < length text) → FitsPart block p (text ++ x) → FitsPart block p text
fits_less false (Plain b) text x l f = f
fits_less false (Escape c) text x l f = f
fits_less false (Unicode a b c d) text x l f = f
fits_less false Quotes text x l f = absurd f
fits_less true (Plain b) text x l f =
    let n : 3 < length text = l refl in
    (f.0, sym (quotes_more 0 text x (omega arith)) ∙ f.1, rw (quotes_more 1 text x (omega arith)) at f.2)
fits_less true (Escape c) text x l f = absurd f
fits_less true (Unicode a b c d) text x l f = absurd f
fits_less true Quotes text x l f = tt

some_text : (p : Part) (rest : List ℕ) → length rest < length (part_text p ++ rest)
some_text (Plain b) rest = omega arith
some_text (Escape c) rest = omega arith
some_text (Unicode a b c d) rest = omega arith
some_text Quotes rest = omega arith

long : (block : Bool) (p : Part) (ps : List Part) (rest after : List ℕ) → Closes block ps rest after → block ≡ true → 3 < length (part_text p ++ rest)
long true p ps rest after c t = omega (arith, some_text p rest, closes_long ps rest after c)
long false p ps rest after c t = absurd cc

pub closes_more : (block : Bool) (ps : List Part) (text after x : List ℕ) → Closes block ps text after → Closes block ps (text ++ x) (after ++ x)
closes_more block [] text after x e = rw e (append_assoc (closing block) after x)
closes_more block (p ∷ ps) text after x (rest, e, f, c) =
    let g : FitsPart block p (part_text p ++ rest) = subst (λ (t : List ℕ). FitsPart block p t) e f in
    let h : FitsPart block p (text ++ x) = subst (λ (t : List ℕ). FitsPart block p (t ++ x)) (sym e) (fits_more block p (part_text p ++ rest) x (long block p ps rest after c) g) in
    (rest ++ x, ap (λ (l : List ℕ). l ++ x) e ∙ append_assoc (part_text p) rest x, h, closes_more block ps rest after x c)

-- the body alone
pub closes_cut : (block : Bool) (ps : List Part) (text after : List ℕ) → Closes block ps text after → (body : List ℕ) × (text ≡ body ++ after) × Closes block ps body []
closes_cut true [] text after e = (34 ∷ 34 ∷ 34 ∷ [], e, refl)
closes_cut false [] text after e = (34 ∷ [], e, refl)
closes_cut block (p ∷ ps) text after (rest, e, f, c) =
    let r = closes_cut block ps rest after c in
    let whole : text ≡ (part_text p ++ r.0) ++ after = e ∙ ap (λ (l : List ℕ). part_text p ++ l) r.1 ∙ sym (append_assoc (part_text p) r.0 after) in
    let g : FitsPart block p ((part_text p ++ r.0) ++ after) = subst (λ (t : List ℕ). FitsPart block p t) whole f in
    (part_text p ++ r.0, whole, (r.0, refl, fits_less block p (part_text p ++ r.0) after (long block p ps r.0 [] r.2) g, r.2))
