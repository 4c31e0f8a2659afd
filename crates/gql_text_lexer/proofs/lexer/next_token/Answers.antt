use Rattle.std.proofs.Common.{take, drop, sym, subst, ◌∙◌, arith, length-drop}
use Rattle.gql_text_lexer.specs.Forms.{IsPiece}
use Rattle.gql_text_lexer.specs.declared.token.Shape.{Shape}
use Rattle.gql_text_lexer.specs.declared.token.Shape.TheVariants.{Token, Ignored}
use Rattle.gql_text_lexer.proofs.Ends.{ascii_ends}
use Rattle.gql_text_lexer.proofs.Left.{left_piece, left_none}
use Rattle.gql_text_lexer.proofs.lexer.next_token.Goals as goal

pub token_text-part-requires-clause-first : goal.token_text-part-requires-clause-first
token_text-part-requires-clause-first c =
    let f = rw (c.from.ensures, c.as_bytes-bytes.ensures.value) at c.in-Some.ensures.found in
    let k = subst (λ (s : Shape). IsPiece s (take c.in-Some.len (drop c.pieces.place c.args.text.now)) (drop c.in-Some.len (drop c.pieces.place c.args.text.now))) c.in-Token.is f.is_piece in
    (ascii_ends c.args.text.now c.pieces.place c.in-Some.len c.in-Token.kind f.some f.within k).0

pub token_text-part-requires-clause-last : goal.token_text-part-requires-clause-last
token_text-part-requires-clause-last c =
    let f = rw (c.from.ensures, c.as_bytes-bytes.ensures.value) at c.in-Some.ensures.found in
    let k = subst (λ (s : Shape). IsPiece s (take c.in-Some.len (drop c.pieces.place c.args.text.now)) (drop c.in-Some.len (drop c.pieces.place c.args.text.now))) c.in-Token.is f.is_piece in
    (ascii_ends c.args.text.now c.pieces.place c.in-Some.len c.in-Token.kind f.some f.within k).1

pub returns-in-Token-clause-left : goal.returns-in-Token-clause-left
returns-in-Token-clause-left c =
    let f = rw (c.from.ensures, c.as_bytes-bytes.ensures.value) at c.in-Some.ensures.found in
    let p = rw (c.from.ensures, c.as_bytes-bytes.ensures.value, c.in-Token.is) at c.in-Some.ensures.cut in
    rw c.token_text-part.ensures (sym c.pieces.invariant.0 ∙ left_piece c.args.text.now c.pieces.place c.in-Some.len (Token c.in-Token.kind) c.pieces.invariant.1 f.within p)

pub pieces-preserved : goal.pieces-preserved
pieces-preserved c =
    let f = rw (c.from.ensures, c.as_bytes-bytes.ensures.value) at c.in-Some.ensures.found in
    let p = rw (c.from.ensures, c.as_bytes-bytes.ensures.value, c.in-Ignored.is) at c.in-Some.ensures.cut in
    (sym (left_piece c.args.text.now c.pieces.place c.in-Some.len Ignored c.pieces.invariant.1 f.within p) ∙ c.pieces.invariant.0, omega (arith, f.within, c.pieces.invariant.1, length-drop c.pieces.place c.args.text.now))

pub returns-clause-left : goal.returns-clause-left
returns-clause-left c =
    let p = rw (c.from.ensures, c.as_bytes-bytes.ensures.value) at c.in_default.ensures.cut in
    sym c.pieces.invariant.0 ∙ left_none c.args.text.now c.pieces.place p
