use Rattle.std.proofs.Common.{List, [], ℕ, Bor, arith, ◌∙◌, sym}
use Rattle.gql_text_lexer.proofs.Blocks.{trim_back_less, trim_back_ends}
use Rattle.gql_text_lexer.proofs.lines.before_blank.Goals as goal

pub loop-end-preserved : goal.loop-end-preserved
loop-end-preserved c =
    let i = c.loop-end.invariant in
    (omega (arith, i.0), trim_back_less (λ (r : Bor (List ℕ)). r.now) c.args.lines.now c.loop-end.end (record { ref_ptr = (0, 0); now = [] }) c.loop-end-test.true i.0 (sym c.is_blank_line.ensures ∙ c.if-is_blank_line.true) ∙ i.1)

pub returns-else-is_blank_line-clause-kept : goal.returns-else-is_blank_line-clause-kept
returns-else-is_blank_line-clause-kept c =
    let i = c.loop-end.invariant in
    trim_back_ends (λ (r : Bor (List ℕ)). r.now) c.args.lines.now c.loop-end.end (record { ref_ptr = (0, 0); now = [] }) c.loop-end-test.true i.0 (sym c.is_blank_line.ensures ∙ c.if-is_blank_line.false) ∙ i.1
