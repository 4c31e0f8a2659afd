use Rattle.std.proofs.Common.{◌≡◌, ℕ, List, [], ◌∷◌, ◌++◌, take, drop, map, refl, subst, ◌∙◌}
use Rattle.std.proofs.lemmas.List.{map_push}
use Rattle.gql_text_lexer.specs.Forms.{IsPiece}
use Rattle.gql_text_lexer.specs.declared.token.Shape.{Shape}
use Rattle.gql_text_lexer.specs.declared.token.Shape.TheVariants.{Token}
use Rattle.gql_text_lexer.specs.Tokens.{lexeme_of}
use Rattle.gql_text_lexer.proofs.Ends.{ascii_ends}
use Rattle.gql_text_lexer.proofs.Lists.{further, further_other, only_these, slices, farthest}
use Rattle.gql_text_lexer.proofs.lexer.lex.Goals as goal
use Rattle.gql_text_lexer.proofs.lexer.lex.Goals.{in-Token+in_ok-push-in-Token, in-Ignored}

pub token_text-requires-clause-first : goal.token_text-requires-clause-first
token_text-requires-clause-first c =
    let f = rw (c.from.ensures, c.as_bytes-bytes.ensures.value) at c.in-Some.ensures.found in
    let k = subst (λ (s : Shape). IsPiece s (take c.in-Some.len (drop c.pieces.at c.args.text.now)) (drop c.in-Some.len (drop c.pieces.at c.args.text.now))) c.in-Token.is f.is_piece in
    (ascii_ends c.args.text.now c.pieces.at c.in-Some.len c.in-Token.kind f.some f.within k).0

pub token_text-requires-clause-last : goal.token_text-requires-clause-last
token_text-requires-clause-last c =
    let f = rw (c.from.ensures, c.as_bytes-bytes.ensures.value) at c.in-Some.ensures.found in
    let k = subst (λ (s : Shape). IsPiece s (take c.in-Some.len (drop c.pieces.at c.args.text.now)) (drop c.in-Some.len (drop c.pieces.at c.args.text.now))) c.in-Token.is f.is_piece in
    (ascii_ends c.args.text.now c.pieces.at c.in-Some.len c.in-Token.kind f.some f.within k).1

pub pieces-preserved : goal.pieces-preserved
pieces-preserved c =
    let f = rw (c.from.ensures, c.as_bytes-bytes.ensures.value) at c.in-Some.ensures.found in
    let text : List ℕ = c.args.text.now in
    let n : ℕ = c.in-Some.len in
    elim c.match-shape.branch [
      | in-Token+in_ok-push-in-Token w ↦
          let k = subst (λ (s : Shape). IsPiece s (take n (drop c.pieces.at text)) (drop n (drop c.pieces.at text))) w.in-Token.is f.is_piece in
          let e : map lexeme_of c.match-shape.tokens.items ≡ map lexeme_of c.pieces.tokens.items ++ record { kind = w.in-Token.kind; text = take n (drop c.pieces.at text); at = c.pieces.at } ∷ [] =
          rw (w.tokens-is, w.in_ok-push-in-Token.ensures.items) (map_push lexeme_of c.pieces.tokens.items _ ∙ rw w.token_text.ensures refl) in
          rw e (further text (map lexeme_of c.pieces.tokens.items) c.pieces.at n (Token w.in-Token.kind) c.pieces.invariant f.within k)
      | in-Ignored w ↦
          let k = subst (λ (s : Shape). IsPiece s (take n (drop c.pieces.at text)) (drop n (drop c.pieces.at text))) w.in-Ignored.is f.is_piece in
          rw w.tokens-is (further_other text (map lexeme_of c.pieces.tokens.items) c.pieces.at n c.pieces.invariant f.within k)
    ]

pub returns-clause-only : goal.returns-clause-only
returns-clause-only c others h =
    let e = rw c.as_bytes-bytes.ensures.value at c.stop_at.ensures.place in
    only_these c.args.text.now (map lexeme_of c.pieces.tokens.items) others c.pieces.at c.pieces.invariant (rw e at h)

pub returns-clause-slices : goal.returns-clause-slices
returns-clause-slices c = slices c.args.text.now (map lexeme_of c.pieces.tokens.items) c.pieces.at c.pieces.invariant

pub returns-clause-farthest : goal.returns-clause-farthest
returns-clause-farthest c others place h =
    let e = rw c.as_bytes-bytes.ensures.value at c.stop_at.ensures.place in
    let n = rw (c.from.ensures, c.as_bytes-bytes.ensures.value) at c.in_default.ensures.none in
    rw e (farthest c.args.text.now (map lexeme_of c.pieces.tokens.items) others c.pieces.at place c.pieces.invariant n h)
