use Rattle.gql_text_values.specs.TypeRefs.{reference}
use Rattle.gql_text_values.proofs.Subtypes.{is_subtype-exact}
use Rattle.gql_text_values.proofs.type_ref.TypeRef.is_subtype.Goals as goal

pub returns-clause-shapes : goal.returns-clause-shapes
returns-clause-shapes c = λ p q. rw c.is_wider.ensures (is_subtype-exact (reference c.args.self.now) (reference c.args.sub.now) p q)
