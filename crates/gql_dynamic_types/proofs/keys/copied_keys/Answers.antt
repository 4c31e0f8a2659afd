use Rattle.std.proofs.Common.{rules, ◌≡◌, ◌==◌, true, false, length, ap, Some, ◌∙◌}
use Rattle.gql_dynamic_types.proofs.KeyTexts.{no_keys, some_keys}
use Rattle.gql_dynamic_types.proofs.keys.copied_keys.Goals as goal

pub returns-then-is_empty : goal.returns-then-is_empty
returns-then-is_empty c =
    let none : (length c.args.keys.now.items == 0) ≡ true = search rules in
    no_keys c.args.keys.now.items none

pub returns : goal.returns
returns c =
    let some : (length c.args.keys.now.items == 0) ≡ false = search rules in
    ap Some c.in_ok-copy_texts.ensures ∙ some_keys c.args.keys.now.items some
