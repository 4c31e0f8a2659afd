use Rattle.std.proofs.Common.{sym, arith}
use Rattle.gql_publish_load.proofs.FoundUses.{no_url, url_of}
use Rattle.gql_publish_load.proofs.attributes.url.Goals as goal

pub returns-in-None : goal.returns-in-None
returns-in-None c = sym (no_url c.args.uses.now (sym c.in-None.ensures))

pub returns-in-Some : goal.returns-in-Some
returns-in-Some c =
    let e = url_of c.args.uses.now c.in-Some.found.now (sym c.in-Some.ensures) in
    grind arith
