use Rattle.std.proofs.Common.{sym, rules}
use Rattle.gql_text_lexer.proofs.Pieces.{piece_none, piece_within, piece_cut}
use Rattle.gql_text_lexer.proofs.Left.{piece_after}
use Rattle.gql_text_lexer.proofs.lexer.piece_len.Goals as goal

pub returns-in_err-shape-clause-none : goal.returns-in_err-shape-clause-none
returns-in_err-shape-clause-none c = search (rules, piece_none c.args.text.now, c.piece.ensures)

pub overflow_sub-result : goal.overflow_sub-result
overflow_sub-result c = piece_within c.args.text.now c.in_ok-shape.rest.now c.in_ok-shape.shape (sym c.in_ok-shape.ensures)

pub returns-clause-found : goal.returns-clause-found
returns-clause-found c = piece_cut c.args.text.now c.in_ok-shape.rest.now c.in_ok-shape.shape (sym c.in_ok-shape.ensures)

pub returns-clause-cut : goal.returns-clause-cut
returns-clause-cut c = piece_after c.args.text.now c.in_ok-shape.rest.now c.in_ok-shape.shape (sym c.in_ok-shape.ensures)
