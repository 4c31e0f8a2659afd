-- A loop over the items of a form, as a reader runs it.
use Rattle.std.proofs.Common.{arith, ◌≡◌, ℕ, ◌<◌, true, List, length, Ok, Err, refl, ap}
use Rattle.gql_grammar.specs.Form.{Terminal, Form, Read, Shortens, starts, one, one_at, many_read, seq_read, map_read}
use Rattle.gql_grammar.proofs.Laws.{front, stops, shorter, one_lawful}
use Rattle.gql_text_syntax.specs.declared.stopped.Stopped.{Stopped}
use Rattle.gql_text_syntax.specs.declared.stopped.Stopped.TheVariants as errors
use Rattle.gql_text_syntax.specs.Reads.{Fails}
use Rattle.gql_text_syntax.specs.Grammar.{next}
use Rattle.gql_text_syntax.specs.Sorts as s
use Rattle.gql_text_syntax.specs.declared.sort.Sort.{Sort}

pub ends : {A : Type 0} (set : List ℕ) (read : List Terminal → Read A) (short : Shortens read) (e : Stopped) (xs : List A) (ts : List Terminal) (total : Read (List A))
    → starts set ts ≡ true → Fails (read ts) e → front xs (many_read set read ts) ≡ total → Fails total e
ends set read short (errors.Syntax at) xs ts total s e so_far = stops set read short xs ts _ total s e so_far
ends set read short (errors.Refused sort at) xs ts total s e so_far = stops set read short xs ts _ total s e so_far
ends set read short errors.OutOfMemory xs ts total s e so_far = tt

-- one after a sign takes two tokens
pub next_shortens : {A : Type 0} (sign : Sort) (item : Form A) → Shortens item.read → Shortens (next sign item).read
unfolding next
next_shortens {A} sign item short ts a rest e = by_sign (one_at (s.only sign) ts) refl e
  where
    by_item : (t : Terminal) (us : List Terminal) (r : Read A) → length us < length ts → item.read us ≡ r → map_read {A = Terminal × A} (λ p. p.1) (seq_read (λ _. Ok (t, us)) (λ _. r)) ts ≡ Ok (a, rest) → length rest < length ts
    by_item t us (Ok y) lt k e = let same : y.1 ≡ rest = cc in omega (arith, lt, short us y.0 y.1 k, ap length same)
    by_item t us (Err d) lt k e = absurd cc

    by_sign : (r : Read Terminal) → one_at (s.only sign) ts ≡ r → map_read {A = Terminal × A} (λ p. p.1) (seq_read (λ _. r) item.read) ts ≡ Ok (a, rest) → length rest < length ts
    by_sign (Ok x) k e = by_item x.0 x.1 (item.read x.1) (shorter (one (s.only sign)) (one_lawful (s.only sign)) refl ts x.0 x.1 k) refl e
    by_sign (Err d) k e = absurd cc

pub next_first : {A : Type 0} (sign : Sort) (item : Form A) → (next sign item).first ≡ s.only sign
unfolding next
next_first sign item = refl
