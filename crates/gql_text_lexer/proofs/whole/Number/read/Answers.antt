use Rattle.gql_text_lexer.specs.Whole.{whole_value}
use Rattle.gql_text_lexer.proofs.Numerals.{whole_numeral, within_fits}
use Rattle.gql_text_lexer.proofs.whole.Number.read.Goals as goal

pub returns-in_default : goal.returns-in_default
returns-in_default c =
    let v = c.in_default.ensures.value.0 in
    λ w. v (whole_numeral c.args.text.now c.requires, within_fits (whole_value c.args.text.now) w)
