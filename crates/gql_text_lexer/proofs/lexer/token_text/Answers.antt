use Rattle.std.proofs.Common.{◌≡◌, ◌+◌, ◌-◌, arith}
use Rattle.std.proofs.lemmas.Str.{IsCharBoundary-after_ascii}
use Rattle.gql_text_lexer.proofs.lexer.token_text.Goals as goal

pub range-requires-clause-end_boundary : goal.range-requires-clause-end_boundary
range-requires-clause-end_boundary c =
    let e : c.args.at + c.args.len ≡ (c.args.at + c.args.len - 1) + 1 = omega arith in
    rw e (IsCharBoundary-after_ascii c.args.text.now (c.args.at + c.args.len - 1) c.utf8.text (omega arith) c.requires.last)
