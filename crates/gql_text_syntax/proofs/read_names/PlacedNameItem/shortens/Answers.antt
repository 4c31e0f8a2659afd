use Rattle.gql_grammar.proofs.Laws.{shorter}
use Rattle.gql_text_syntax.specs.Values.{key}
use Rattle.gql_text_syntax.proofs.Lawful.{key_lawful}
use Rattle.gql_text_syntax.proofs.GrammarLawful.{key_solid}
use Rattle.gql_text_syntax.proofs.read_names.PlacedNameItem.shortens.Goals as goal

pub returns : goal.returns
returns c = shorter key key_lawful.lawful key_solid
