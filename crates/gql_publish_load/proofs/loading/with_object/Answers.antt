use Rattle.std.proofs.Common.{false, true, map, sym, ap, ◌∙◌, arith}
use Rattle.std.specs.Option.{option_copied}
use Rattle.gql_text.specs.DocumentOf.{head_of, implements_of, field_def_of}
use Rattle.gql_check.specs.Recordings.{recorded_of}
use Rattle.gql_publish_document.specs.Types.{is_root}
use Rattle.gql_publish_load.proofs.Recordings.{object_recorded}
use Rattle.gql_publish_load.proofs.loading.with_object.Goals as goal

pub returns-then-is_root : goal.returns-then-is_root
returns-then-is_root g c =
    let o = c.args.object.now in
    let e = object_recorded (option_copied c.args.subscription) (recorded_of c.args.builder) (head_of c.args.description.now o.key o.uses) (implements_of o.implements) (map field_def_of o.fields) true (ap (is_root (option_copied c.args.subscription)) (sym c.as_str.ensures.text) ∙ sym c.is_root.ensures ∙ c.if-is_root.true) in
    grind arith

pub returns : goal.returns
returns g c =
    let o = c.args.object.now in
    let e = object_recorded (option_copied c.args.subscription) (recorded_of c.args.builder) (head_of c.args.description.now o.key o.uses) (implements_of o.implements) (map field_def_of o.fields) false (ap (is_root (option_copied c.args.subscription)) (sym c.as_str.ensures.text) ∙ sym c.is_root.ensures ∙ c.if-is_root.false) in
    grind arith
