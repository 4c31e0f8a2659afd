use Rattle.std.proofs.Common.{ℕ, List}
use Rattle.gql_text_lexer.specs.Tokens.{place_of}
use Rattle.gql_text_syntax.specs.Documents.{end_sort}
use Rattle.gql_text_syntax.proofs.Clauses.{found_by, only_by, stop_by, stops_by_error, no_stop_by, ended, is_or_memory, same_value}
use Rattle.gql_text_syntax.proofs.Cuts.{tokens_of, stop_of, terminals_are, has, stops, only, farthest}
use Rattle.gql_text_syntax.proofs.read_document.read_written.Goals as goal

pub returns-in-Ok-clause-found : goal.returns-in-Ok-clause-found
returns-in-Ok-clause-found c =
    let t : List ℕ = c.args.text.now in
    found_by t (tokens_of t) (stop_of t) (has t) _ (rw (c.in-Ok.is, terminals_are t) at c.read_text.ensures)

pub returns-in-Ok-clause-only : goal.returns-in-Ok-clause-only
returns-in-Ok-clause-only c d h =
    let t : List ℕ = c.args.text.now in
    let e = only_by t (tokens_of t) (stop_of t) (has t) (stops t) (only t) (farthest t (ended t (tokens_of t) (stop_of t) (has t) (stop_of t) (stops t))) d h in
    same_value _ d _ e (rw (c.in-Ok.is, terminals_are t) at c.read_text.ensures)

pub returns-in-Err-clause-only : goal.returns-in-Err-clause-only
returns-in-Err-clause-only c d h =
    let t : List ℕ = c.args.text.now in
    let e = only_by t (tokens_of t) (stop_of t) (has t) (stops t) (only t) (farthest t (ended t (tokens_of t) (stop_of t) (has t) (stop_of t) (stops t))) d h in
    rw c.error_of.ensures (is_or_memory _ d e c.in-Err.stopped (rw (c.in-Err.is, terminals_are t) at c.read_text.ensures))

pub returns-in-Err-clause-stop : goal.returns-in-Err-clause-stop
returns-in-Err-clause-stop c =
    let t : List ℕ = c.args.text.now in
    rw c.error_of.ensures (stop_by t (tokens_of t) (stop_of t) (has t) (stops t) c.in-Err.stopped (rw (c.in-Err.is, terminals_are t) at c.read_text.ensures))

pub returns-in-Ok-clause-stops : goal.returns-in-Ok-clause-stops
returns-in-Ok-clause-stops c e x =
    let t : List ℕ = c.args.text.now in
    no_stop_by t (tokens_of t) (place_of (stop_of t) t) (end_sort (stop_of t)) (has t) (ended t (tokens_of t) (stop_of t) (has t) (stop_of t) (stops t)) _ (rw (c.in-Ok.is, terminals_are t) at c.read_text.ensures) e x

pub returns-in-Err-clause-stops : goal.returns-in-Err-clause-stops
returns-in-Err-clause-stops c e x =
    let t : List ℕ = c.args.text.now in
    rw c.error_of.ensures (stops_by_error t _ e x (stop_by t (tokens_of t) (stop_of t) (has t) (stops t) c.in-Err.stopped (rw (c.in-Err.is, terminals_are t) at c.read_text.ensures)))
