use Rattle.std.proofs.Common.{◌≡◌, ◌++◌, length}
use Rattle.gql_text_lexer.specs.Values.{unescaped}
use Rattle.gql_text_lexer.proofs.value.unescaped.Given as goal

abbrev pub invariant-parts : goal.invariant-parts
invariant-parts l = l.out.items ++ unescaped l.block l.rest ≡ unescaped l.block l.text

abbrev pub decreases-parts : goal.decreases-parts
decreases-parts l = length l.rest
