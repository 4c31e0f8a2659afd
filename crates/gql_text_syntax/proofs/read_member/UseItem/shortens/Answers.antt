use Rattle.gql_grammar.proofs.Laws.{shorter}
use Rattle.gql_text_syntax.specs.Grammar.{directive_use}
use Rattle.gql_text_syntax.proofs.GrammarLawful.{directive_use_lawful, directive_use_solid}
use Rattle.gql_text_syntax.proofs.read_member.UseItem.shortens.Goals as goal

pub returns : goal.returns
returns c = shorter directive_use directive_use_lawful.lawful directive_use_solid
