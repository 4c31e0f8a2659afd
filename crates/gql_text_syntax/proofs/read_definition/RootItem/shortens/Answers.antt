use Rattle.gql_grammar.proofs.Laws.{shorter}
use Rattle.gql_text_syntax.specs.Grammar.{root}
use Rattle.gql_text_syntax.proofs.GrammarLawful.{root_lawful, root_solid}
use Rattle.gql_text_syntax.proofs.read_definition.RootItem.shortens.Goals as goal

pub returns : goal.returns
returns c = shorter root root_lawful.lawful root_solid
