use Rattle.std.proofs.Common.{refl, rules, subst}
use Rattle.std.specs.declared.result.Result.TheVariants.{Ok}
use Rattle.gql_registry.specs.Registry.{Contents}
use Rattle.gql_registry.specs.Created.{Begun, refusal_of, made_by, ran}
use Rattle.gql_registry.proofs.Making.{refused, stands, missing}
use Rattle.gql_registry.proofs.creating.CreatesTypes.create_type.Goals as goal

pub returns-in-Ok-true : goal.returns-in-Ok-true
returns-in-Ok-true g c =
    let before : Contents = g.Self.CreatesTypes.contents c.args.self.now in
    let placed : Contents = g.Self.CreatesTypes.contents c.begin_type.new.self in
    let m = missing c.args.name.now c.args.kind before placed (subst (λ b. Begun c.args.name.now c.args.kind before (Ok b) placed) c.in-Ok-true.field-0-test c.in-Ok-true.ensures) in
    ran m.0 (made_by g.Self.CreatesTypes.stands_for c.maker-made.result) (g.Self.CreatesTypes.contents c.maker-made.new.arg2)
    (record {
      called_on = c.begin_type.new.self;
      stands_for = m.1;
      answer = c.maker-made.result;
      answers = refl;
      next = c.maker-made.new.self;
      leaves = c.maker-made.new.arg2;
      left_as = refl;
      called = search rules;
    })
    c.end_type.ensures

pub returns-in-Ok-false : goal.returns-in-Ok-false
returns-in-Ok-false g c =
    let before : Contents = g.Self.CreatesTypes.contents c.args.self.now in
    let after : Contents = g.Self.CreatesTypes.contents c.begin_type.new.self in
    stands _ c.args.name.now c.args.kind before after (subst (λ b. Begun c.args.name.now c.args.kind before (Ok b) after) c.in-Ok-false.field-0-test c.in-Ok-false.ensures)

pub returns : goal.returns
returns g c = refused _ c.args.name.now c.args.kind _ _ (refusal_of c.in-Err.e) c.in-Err.ensures
