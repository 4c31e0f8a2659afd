use Rattle.std.proofs.Common.{◌≡◌, ◌∷◌, take}
use Rattle.std.specs.List.{flat_map}
use Rattle.gql_text_lexer.specs.Quoting.{quoted_byte}
use Rattle.gql_text_lexer.proofs.quotation.quoted_bytes.Given as goal

abbrev pub invariant-loop-b : goal.invariant-loop-b
invariant-loop-b l = l.out.items ≡ 34 ∷ flat_map quoted_byte (take l.b-index l.text)
