use Rattle.gql_grammar.proofs.Laws.{shorter}
use Rattle.gql_text_syntax.specs.Grammar.{definition}
use Rattle.gql_text_syntax.proofs.GrammarLawful.{definition_lawful, definition_solid}
use Rattle.gql_text_syntax.proofs.read_definition.WrittenDefinitionItem.shortens.Goals as goal

pub returns : goal.returns
returns c = shorter definition definition_lawful.lawful definition_solid
