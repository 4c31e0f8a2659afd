-- The test for a name.
use Rattle.std.proofs.Common.{◌≡◌, ◌↔◌, ℕ, true, IsTrue, List, [], ◌∷◌, length, refl, arith}
use Rattle.std.specs.Prelude.{◌==◌}
use Rattle.std.proofs.lemmas.Str.Pattern.{starts_text}
use Rattle.gql_text_lexer.specs.Bytes.{begins_name, goes_on_name}
use Rattle.gql_text_lexer.specs.Forms.{IsName}
use Rattle.gql_text_lexer.specs.Scan.{after_run}
use Rattle.gql_text_lexer.proofs.Runs.{after_none, after_all}

no_length : (text : List ℕ) → IsTrue (length text == 0) → text ≡ []
no_length [] e = refl
no_length (b ∷ bs) e = grind arith

-- a text is a name where a first byte of a name stands first, and nothing after the run of name bytes
pub name_exact : (first : ℕ) (more : List ℕ) → begins_name first ≡ true → IsTrue (length (after_run goes_on_name more) == 0) ↔ IsName (first ∷ more)
name_exact first more e = (
  (λ t. (e, after_none goes_on_name more (no_length (after_run goes_on_name more) t))),
  (λ n. rw (after_all goes_on_name more n.1) refl),
)

-- what `starts_with` says of a text
pub ruleset starts = (starts_text)
