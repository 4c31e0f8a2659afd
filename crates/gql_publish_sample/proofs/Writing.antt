-- Lines that are written one after another, from the last one down.
use Rattle.std.proofs.Common.{◌≡◌, ℕ, zero, suc, ◌-◌, ◌<◌, [], ◌++◌, refl, sym, ap, ◌∙◌, append_assoc, arith}
use Rattle.std.proofs.lemmas.List.{append-nil}
use Rattle.gql_registry_meta.specs.Parts.{Text}
use Rattle.gql_publish_sample.specs.Sample.{kind_at, line_of, lines}

-- the last line, and those before it
last_first : (n : ℕ) → 0 < n → lines n ≡ line_of (kind_at (n - 1)) (n - 1) ++ lines (n - 1)
unfolding lines
last_first zero l = absurd (omega arith)
last_first (suc i) l = let e : suc i - 1 ≡ i = omega arith in rw e refl

-- one line more is written
pub one_written : (old new whole : Text) (n : ℕ) → 0 < n → new ≡ old ++ line_of (kind_at (n - 1)) (n - 1) → old ++ lines n ≡ whole → new ++ lines (n - 1) ≡ whole
one_written old new whole n l e w =
    let line : Text = line_of (kind_at (n - 1)) (n - 1) in
    ap (λ (t : Text). t ++ lines (n - 1)) e ∙ append_assoc old line (lines (n - 1)) ∙ ap (λ (t : Text). old ++ t) (sym (last_first n l)) ∙ w

-- all are written
pub all_written : (text whole : Text) (n : ℕ) → n ≡ 0 → text ++ lines n ≡ whole → text ≡ whole
unfolding lines
all_written text whole n e w =
    let none : lines n ≡ [] = rw e refl in
    sym (append-nil text) ∙ ap (λ (t : Text). text ++ t) (sym none) ∙ w
