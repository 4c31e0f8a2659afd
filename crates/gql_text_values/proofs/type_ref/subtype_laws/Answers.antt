use Rattle.gql_text_values.proofs.Subtypes.{is_subtype-reflexive, is_subtype-transitive}
use Rattle.gql_text_values.proofs.type_ref.subtype_laws.Goals as goal

pub returns-clause-reflexive : goal.returns-clause-reflexive
returns-clause-reflexive c = is_subtype-reflexive

pub returns-clause-transitive : goal.returns-clause-transitive
returns-clause-transitive c = is_subtype-transitive
