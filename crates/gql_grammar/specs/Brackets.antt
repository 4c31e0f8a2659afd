-- How many brackets are open after the tokens of a form that nests.
use Rattle.std.specs.Prelude.{◌≡◌, ◌⊎◌, ℕ, ◌+◌, ◌-◌, true, if◌then◌else◌, List, [], ◌∷◌}
use Rattle.gql_grammar.specs.Form.{Terminal, among}

-- one more after an opening bracket, and one less after a closing one
abbrev pub open_after_one : (opening closing : List ℕ) → ℕ → Terminal → ℕ
open_after_one opening closing n t = if among t.sort opening then n + 1 else (if among t.sort closing then n - 1 else n)

-- how many are open after these tokens, where this many were open before them
abbrev pub open_after : (opening closing : List ℕ) → ℕ → List Terminal → ℕ
open_after opening closing n [] = n
open_after opening closing n (t ∷ ts) = open_after opening closing (open_after_one opening closing n t) ts

-- a token of the refused sorts, or an opening bracket that has this many open brackets around it
abbrev pub Exceeds : (opening closing refused : List ℕ) → ℕ → ℕ → List Terminal → Terminal → Type 0
Exceeds opening closing refused most n ts t = (among t.sort refused ≡ true) ⊎ ((among t.sort opening ≡ true) × (open_after opening closing n ts ≡ n + most))
