use Rattle.std.proofs.Common.{sym, arith}
use Rattle.gql_publish_load.proofs.FoundUses.{not_deprecated_by, deprecated_by}
use Rattle.gql_publish_load.proofs.attributes.deprecation.Goals as goal

pub returns-in-None : goal.returns-in-None
returns-in-None c = sym (not_deprecated_by c.args.uses.now (sym c.in-None.ensures))

pub returns-in_ok-first_string-in-Some : goal.returns-in_ok-first_string-in-Some
returns-in_ok-first_string-in-Some c =
    let e = deprecated_by c.args.uses.now c.in-Some.found.now (sym c.in-Some.ensures) in
    grind (arith, c.in_ok-first_string-in-Some.ensures)
