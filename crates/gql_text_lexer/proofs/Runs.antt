-- The longest run of one kind of bytes.
use Rattle.std.proofs.Common.{◌≡◌, ℕ, Bool, true, false, List, [], ◌∷◌, ◌++◌, refl, ap}
use Rattle.std.specs.Prelude.{◌&&◌, if◌then◌else◌}
use Rattle.gql_text_lexer.specs.Bytes.{all_of, ends_before}
use Rattle.gql_text_lexer.specs.Scan.{after_run}
use Rattle.gql_text_lexer.proofs.Choices.{both, not_true}

pub after_complete : (p : ℕ → Bool) (run x : List ℕ) → all_of p run ≡ true → ends_before p x ≡ true → after_run p (run ++ x) ≡ x
after_complete p [] [] a e = refl
after_complete p [] (b ∷ x) a e = rw (not_true (p b) e) refl
after_complete p (b ∷ run) x a e = let f = both (p b) (all_of p run) a in rw f.0 (after_complete p run x f.1 e)

-- the text is a run of one kind, and what follows is of another
abbrev pub IsRun : (ℕ → Bool) → List ℕ → List ℕ → Type 0
IsRun p text rest = (run : List ℕ) × (text ≡ run ++ rest) × (all_of p run ≡ true) × (ends_before p rest ≡ true)

pub after_sound : (p : ℕ → Bool) (text : List ℕ) → IsRun p text (after_run p text)
after_sound p [] = ([], refl, refl, refl)
after_sound p (b ∷ text) = step (p b) refl (after_sound p text)
  where
    step : (t : Bool) → p b ≡ t → IsRun p text (after_run p text) → IsRun p (b ∷ text) (if t then after_run p text else (b ∷ text))
    step true e r = (b ∷ r.0, ap (λ (l : List ℕ). b ∷ l) r.1, rw e r.2, r.3)
    step false e r = ([], refl, refl, rw e refl)

-- what ends before more ends before less
pub ends_less : (p q : ℕ → Bool) → ((b : ℕ) → q b ≡ false → p b ≡ false) → (x : List ℕ) → ends_before q x ≡ true → ends_before p x ≡ true
ends_less p q less [] e = refl
ends_less p q less (b ∷ x) e = rw (less b (not_true (q b) e)) refl

-- nothing stands after a run exactly where the whole text is one
pub after_none : (p : ℕ → Bool) (text : List ℕ) → after_run p text ≡ [] → all_of p text ≡ true
after_none p [] e = refl
after_none p (b ∷ text) e = step (p b) (after_none p text) e
  where
    step : (t : Bool) → (after_run p text ≡ [] → all_of p text ≡ true) → (if t then after_run p text else (b ∷ text)) ≡ [] → (t && all_of p text) ≡ true
    step true more r = more r
    step false more r = absurd cc

pub after_all : (p : ℕ → Bool) (text : List ℕ) → all_of p text ≡ true → after_run p text ≡ []
after_all p [] e = refl
after_all p (b ∷ text) e = let f = both (p b) (all_of p text) e in rw f.0 (after_all p text f.1)
