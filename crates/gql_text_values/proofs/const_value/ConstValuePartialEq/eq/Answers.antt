use Rattle.gql_text_values.proofs.SameValues.{same_exact}
use Rattle.gql_text_values.proofs.const_value.ConstValuePartialEq.eq.Goals as goal

pub returns-clause-equal : goal.returns-clause-equal
returns-clause-equal c = rw c.is_same.ensures (same_exact c.args.self.now c.args.other.now)
