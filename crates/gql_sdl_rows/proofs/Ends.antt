-- What may stand after a name, and texts that may stand there whatever follows them.
use Rattle.std.proofs.Common.{◌≡◌, ℕ, true, List, ◌++◌}
use Rattle.gql_text_lexer.specs.Bytes.{goes_on_name, ends_before}

-- no byte follows that goes on a name
abbrev pub EndsName : List ℕ → Type 0
EndsName rest = ends_before goes_on_name rest ≡ true

-- the text may follow a name, whatever follows the text
abbrev pub FollowsName : List ℕ → Type 0
FollowsName text = (rest : List ℕ) → EndsName (text ++ rest)
