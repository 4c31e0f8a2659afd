use Rattle.std.proofs.Common.{◌≡◌, ℕ, Bool, List, drop, sym, ◌∙◌}
use Rattle.std.specs.List.{prefix_len}
use Rattle.gql_text_lexer.specs.Bytes.{is_plain}
use Rattle.gql_text_lexer.specs.Scan.{closed}
use Rattle.gql_text_lexer.proofs.Strings.{closed_ends, closed_stops, closed_part, closed_plain}
use Rattle.gql_text_lexer.proofs.string.closed.Goals as goal

-- the plain bytes before the part close no string
skipped : (block : Bool) (rest part : List ℕ) (n : ℕ) → n ≡ prefix_len is_plain rest → part ≡ drop n rest → closed block part 0 ≡ closed block rest 0
skipped block rest part n e f = rw (f, e) (closed_plain block rest)

pub returns-in-Some : goal.returns-in-Some
returns-in-Some c =
    let s = skipped c.args.block c.parts.rest.now c.from-part.result.now c.plain_len.result c.plain_len.ensures.len c.from-part.ensures in
    sym (closed_ends c.args.block c.from-part.result.now c.in-Some.end.now (sym c.in-Some.ensures)) ∙ s ∙ c.parts.invariant

pub returns-in_default-next_part : goal.returns-in_default-next_part
returns-in_default-next_part c =
    let s = skipped c.args.block c.parts.rest.now c.from-part.result.now c.plain_len.result c.plain_len.ensures.len c.from-part.ensures in
    sym (closed_stops c.args.block c.from-part.result.now (sym (c.in_default.ensures)) c.in_default-next_part.ensures.none) ∙ s ∙ c.parts.invariant

pub parts-preserved : goal.parts-preserved
parts-preserved c =
    let s = skipped c.args.block c.parts.rest.now c.from-part.result.now c.plain_len.result c.plain_len.ensures.len c.from-part.ensures in
    let f = c.in-Some-next_part.ensures.found in
    rw f.1 (sym (closed_part c.args.block c.from-part.result.now c.in-Some-next_part.field-0-0 (sym (c.in_default.ensures)) f.0) ∙ s ∙ c.parts.invariant)
