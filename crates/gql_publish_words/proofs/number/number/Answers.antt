use Rattle.std.proofs.Common.{◌≡◌, ◌<◌, ◌^◌, true, Ok, rules, arith, refl}
use Rattle.std.specs.Char.{is_ascii_digit}
use Rattle.std.specs.List.{list_all}
use Rattle.std.proofs.lemmas.Str.Parse.{IsNumeralModel, numerals_by_value, parse_gives, digits_value_short}
use Rattle.std.specs.Str.Parse.{digits_value}
use Rattle.gql_publish_words.specs.Words.{IsNumber, number_of}
use Rattle.gql_publish_words.proofs.number.number.Goals as goal

-- the test tells decimal digits
digits : IsNumeralModel (λ ds. list_all is_ascii_digit ds ≡ true) (digits_value 10)
digits = numerals_by_value _ (search rules)

pub returns-then-is_number : goal.returns-then-is_number
returns-then-is_number c =
    let is : IsNumber c.args.text.now = c.is_number.ensures.0 (search rules) in
    let small : number_of c.args.text.now < 10 ^ 5 = digits_value_short digits c.args.text.now 5 is.digits is.at_most in
    let read : c.parse.result ≡ Ok (number_of c.args.text.now) = parse_gives digits 32 c.args.text.now c.parse.result c.parse.ensures.value.0 is.digits (omega arith) (omega arith) in
    rw (c.ok.ensures.value, read) (is, refl)
