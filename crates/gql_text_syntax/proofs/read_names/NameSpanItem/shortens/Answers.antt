use Rattle.gql_grammar.proofs.Laws.{shorter}
use Rattle.gql_text_syntax.specs.Grammar.{location}
use Rattle.gql_text_syntax.proofs.GrammarLawful.{location_lawful, location_solid}
use Rattle.gql_text_syntax.proofs.read_names.NameSpanItem.shortens.Goals as goal

pub returns : goal.returns
returns c = shorter location location_lawful.lawful location_solid
