use Rattle.gql_text_lexer.proofs.Values.{string_text_exact}
use Rattle.gql_text_lexer.proofs.value.string_text_law.Goals as goal

pub returns : goal.returns
returns c = string_text_exact
