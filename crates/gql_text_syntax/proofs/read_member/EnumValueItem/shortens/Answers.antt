use Rattle.gql_grammar.proofs.Laws.{shorter}
use Rattle.gql_text_syntax.specs.Grammar.{enum_value}
use Rattle.gql_text_syntax.proofs.GrammarLawful.{enum_value_lawful, enum_value_solid}
use Rattle.gql_text_syntax.proofs.read_member.EnumValueItem.shortens.Goals as goal

pub returns : goal.returns
returns c = shorter enum_value enum_value_lawful.lawful enum_value_solid
