use Rattle.std.proofs.Common.{List, [], ℕ, Bor, append_assoc}
use Rattle.gql_text_lexer.proofs.Blocks.{joined_more}
use Rattle.gql_text_lexer.proofs.lines.push_joined.Goals as goal

pub loop-line-preserved : goal.loop-line-preserved
loop-line-preserved c =
    let more = joined_more (λ (r : Bor (List ℕ)). r.now) c.args.lines.now c.loop-line.line-index (record { ref_ptr = (0, 0); now = [] }) c.loop-line-test.true in
    rw (c.in_ok-extend_from_slice.ensures.items, c.in_ok-push.ensures.items, c.loop-line.invariant, more) (simp append_assoc)
