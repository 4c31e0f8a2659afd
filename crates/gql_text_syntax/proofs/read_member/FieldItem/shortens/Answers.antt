use Rattle.gql_grammar.proofs.Laws.{shorter}
use Rattle.gql_text_syntax.specs.Grammar.{field}
use Rattle.gql_text_syntax.proofs.GrammarLawful.{field_lawful, field_solid}
use Rattle.gql_text_syntax.proofs.read_member.FieldItem.shortens.Goals as goal

pub returns : goal.returns
returns c = shorter field field_lawful.lawful field_solid
