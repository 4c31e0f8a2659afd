use Rattle.std.proofs.Common.{refl}
use Rattle.gql_text.specs.Owners.{attribute_key}
use Rattle.gql_text.proofs.Names.{few_options, none_yet, keys_left}
use Rattle.gql_text.proofs.owner_uses.check_attributes.Goals as goal

pub returns-then-uses-lt2 : goal.returns-then-uses-lt2
returns-then-uses-lt2 c = rw (few_options attribute_key c.args.uses.now c.if-uses-lt2.true) refl

pub loop-one-init : goal.loop-one-init
loop-one-init c = rw (none_yet c.new-earlier.result c.new-earlier.ensures.empty) refl

pub loop-one-preserved : goal.loop-one-preserved
loop-one-preserved c = keys_left attribute_key c.args.uses.now c.loop-one.one-index c.one-item.result _ _ _ _ _ c.loop-one-test.true c.one-item.is c.in_ok-check_attribute.ensures.names c.in_ok-check_attribute.ensures.faults c.loop-one.invariant
