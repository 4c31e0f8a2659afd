use Rattle.std.proofs.Common.{arith, ◌≤◌, ◌<◌, length, get_or, ap}
use Rattle.std.proofs.lemmas.List.{get_or_read}
use Rattle.gql_check_cycles.specs.Graph.{lists, fields_of}
use Rattle.gql_check_cycles.proofs.Passes.{closes, top_within}
use Rattle.gql_check_cycles.proofs.order.advance.Goals as goal

pub returns-clause-kept : goal.returns-clause-kept
returns-clause-kept g c =
    let P = c.args.pass.now in
    let N = c.finish.new.pass in
    let w = top_within (g.T.Table.rows c.args.table.now) P.marks.items P.looked.items (lists P.edges.items) P.stack.items P.cyclic c.args.a c.requires.pass c.requires.top in
    let inside : c.args.a < length c.args.pass.now.looked.items = omega (arith, w, c.requires.pass.looked_len) in
    let l : length (fields_of (g.T.Table.rows c.args.table.now) c.args.a) ≤ get_or c.args.pass.now.looked.items c.args.a 0 = omega (arith, c.field_count.ensures, get_or_read P.looked.items c.args.a c.index-k.result.now inside c.index-k.ensures 0) in
    closes (g.T.Table.rows c.args.table.now) P.marks.items P.looked.items (lists P.edges.items) P.stack.items P.cyclic c.args.a c.requires.pass c.requires.top l
    N.marks.items N.looked.items (lists N.edges.items) N.stack.items N.cyclic c.finish.ensures.marks c.finish.ensures.stack (ap (λ v. v.items) c.finish.ensures.looked) (ap (λ v. lists v.items) c.finish.ensures.edges) c.finish.ensures.cyclic
