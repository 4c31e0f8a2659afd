use Rattle.std.proofs.Common.{refl}
use Rattle.gql_text.specs.Owners.{directive_key}
use Rattle.gql_text.proofs.Names.{none_yet, keys_left}
use Rattle.gql_text.proofs.owner_document.check_directive_names.Goals as goal

pub loop-definition-init : goal.loop-definition-init
loop-definition-init c = rw (none_yet c.new-earlier.result c.new-earlier.ensures.empty) refl

pub loop-definition-preserved : goal.loop-definition-preserved
loop-definition-preserved c =
    let names = rw c.directive_key.ensures at c.in_ok-check_key.ensures.names in
    let faults = rw c.directive_key.ensures at c.in_ok-check_key.ensures.faults in
    keys_left (λ d. directive_key d.kind) c.args.definitions.now c.loop-definition.definition-index c.definition-item.result _ _ _ _ _ c.loop-definition-test.true c.definition-item.is names faults c.loop-definition.invariant
