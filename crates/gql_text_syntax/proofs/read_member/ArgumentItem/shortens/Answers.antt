use Rattle.gql_grammar.proofs.Laws.{shorter}
use Rattle.gql_text_syntax.specs.Grammar.{argument}
use Rattle.gql_text_syntax.proofs.GrammarLawful.{argument_lawful, argument_solid}
use Rattle.gql_text_syntax.proofs.read_member.ArgumentItem.shortens.Goals as goal

pub returns : goal.returns
returns c = shorter argument argument_lawful.lawful argument_solid
