use Rattle.std.proofs.Common.{sym, ◌∙◌}
use Rattle.gql_text_lexer.specs.Values.{unescaped}
use Rattle.gql_text_lexer.proofs.Strings.{part_sound}
use Rattle.gql_text_lexer.proofs.Values.{value_end, value_stop, value_part, fits_part}
use Rattle.gql_text_lexer.proofs.value.unescaped.Goals as goal

pub returns-in-Some : goal.returns-in-Some
returns-in-Some c =
    let s = c.in_ok-next.ensures.value c.args.block ∙ c.parts.invariant in
    value_end c.args.block c.in_ok-next.next.now _ c.push_plain.new.out.items (unescaped c.args.block c.args.text.now) (sym c.in-Some.ensures) s

pub returns-in_default-next_part : goal.returns-in_default-next_part
returns-in_default-next_part c =
    let s = c.in_ok-next.ensures.value c.args.block ∙ c.parts.invariant in
    value_stop c.args.block c.in_ok-next.next.now c.push_plain.new.out.items (unescaped c.args.block c.args.text.now) (sym c.in_default.ensures) c.in_default-next_part.ensures.none s

pub push_part-requires : goal.push_part-requires
push_part-requires c =
    let f = c.in-Some-next_part.ensures.found in
    fits_part c.args.block c.in-Some-next_part.part c.in_ok-next.next.now (part_sound c.args.block c.in_ok-next.next.now c.in-Some-next_part.part (sym c.in_default.ensures) f.0).1

pub parts-preserved : goal.parts-preserved
parts-preserved c =
    let s = c.in_ok-next.ensures.value c.args.block ∙ c.parts.invariant in
    let f = c.in-Some-next_part.ensures.found in
    rw (c.in_ok-push_part.ensures, f.1) (value_part c.args.block c.in_ok-next.next.now c.push_plain.new.out.items (unescaped c.args.block c.args.text.now) c.in-Some-next_part.part (sym c.in_default.ensures) f.0 s)
