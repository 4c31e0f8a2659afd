use Rattle.gql_grammar.proofs.Laws.{shorter}
use Rattle.gql_text_syntax.specs.Grammar.{input_value}
use Rattle.gql_text_syntax.proofs.GrammarLawful.{input_value_lawful, input_value_solid}
use Rattle.gql_text_syntax.proofs.read_member.InputValueItem.shortens.Goals as goal

pub returns : goal.returns
returns c = shorter input_value input_value_lawful.lawful input_value_solid
