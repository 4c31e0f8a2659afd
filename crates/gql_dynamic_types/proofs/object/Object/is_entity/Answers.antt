use Rattle.std.proofs.Common.{rules, ◌≡◌, ◌==◌, length, not, ap, ◌∙◌}
use Rattle.gql_dynamic_types.proofs.KeyTexts.{no_texts}
use Rattle.gql_dynamic_types.proofs.object.Object.is_entity.Goals as goal

pub returns : goal.returns
returns c =
    let none : c.is_empty.result ≡ (length c.args.self.now.keys.items == 0) = search rules in
    ap not (none ∙ no_texts c.args.self.now.keys.items)
