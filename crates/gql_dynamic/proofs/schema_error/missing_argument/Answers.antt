use Rattle.std.proofs.Common.{subst}
use Rattle.std.specs.Fmt.{WritesOnOk}
use Rattle.gql_registry_meta.specs.Views.{text_of}
use Rattle.gql_check_rules.specs.Faults.{sentence, missing_argument}
use Rattle.gql_dynamic.proofs.schema_error.missing_argument.Goals as goal

-- what is written is the sentence, with each borrowed name for its owner's
pub returns : goal.returns
returns g c =
    subst (λ ty. WritesOnOk g.W.Write.write_str_gives c.args.f.now c.joined.result (sentence (missing_argument ty (text_of c.args.field.now) (text_of c.args.arg.now) (text_of c.args.interface.now))) c.joined.new.f) c.as_str-ty.ensures.value
    (subst (λ field. WritesOnOk g.W.Write.write_str_gives c.args.f.now c.joined.result (sentence (missing_argument c.as_str-ty.result.now field (text_of c.args.arg.now) (text_of c.args.interface.now))) c.joined.new.f) c.as_str-field.ensures.value
    (subst (λ arg. WritesOnOk g.W.Write.write_str_gives c.args.f.now c.joined.result (sentence (missing_argument c.as_str-ty.result.now c.as_str-field.result.now arg (text_of c.args.interface.now))) c.joined.new.f) c.as_str-arg.ensures.value
    (subst (λ interface. WritesOnOk g.W.Write.write_str_gives c.args.f.now c.joined.result (sentence (missing_argument c.as_str-ty.result.now c.as_str-field.result.now c.as_str-arg.result.now interface)) c.joined.new.f) c.as_str-interface.ensures.value c.joined.ensures)))
