use Rattle.std.proofs.Common.{rules, ◌≡◌, drop, take, length, arith, length-append, length-drop}
use Rattle.gql_streams.proofs.Pieces.{gave_front, nothing_left}
use Rattle.gql_streams.proofs.sure.SureSourceSource.read.Goals as goal

pub returns-clause-bytes : goal.returns-clause-bytes
returns-clause-bytes c =
    let n = c.min-count.result in
    let at = c.args.self.now.at in
    let bs = c.args.self.now.bytes.items in
    let piece = c.copy_from_slice.new.self in
    let fact : piece ≡ take n (drop at bs) = search rules in
    let long : length piece ≡ n = search rules in (
      gave_front bs piece c.args.buf.now at n fact long,
      λ none room. nothing_left bs at n (omega (arith, length-append piece (drop n c.args.buf.now), length-drop n c.args.buf.now)),
    )
