use Rattle.std.proofs.Common.{ap, ◌∙◌, sym, get_or}
use Rattle.gql_registry.specs.Registry.{registry_of}
use Rattle.gql_registry.specs.Additions.{made}
use Rattle.gql_registry.specs.Tables.{step_of}
use Rattle.gql_registry.specs.declared.additions.Addition.{Addition}
use Rattle.gql_registry.specs.declared.additions.Addition.TheVariants.{Directive}
use Rattle.gql_registry.specs.declared.system.SystemDirective.TheVariants.{Skip}
use Rattle.gql_registry.proofs.Results.{on_err}
use Rattle.gql_registry.proofs.Steps.{none_made, one_more, all_steps}
use Rattle.gql_registry.proofs.registry.Registry.add_all.Goals as goal

pub loop-addition-init : goal.loop-addition-init
loop-addition-init g c = sym (none_made (registry_of c.args.self.now))

pub loop-addition-preserved : goal.loop-addition-preserved
loop-addition-preserved g c =
    let additions = c.args.additions.now in
    let i = c.loop-addition.addition-index in
    let first : Addition = Directive Skip in
    c.in_ok-add.ensures.made ∙ ap (λ so_far. made so_far (step_of (get_or additions i first))) c.loop-addition.invariant
    ∙ sym (one_more (registry_of c.args.self.now) additions i first c.loop-addition-test.true)

pub returns-in_err-add-clause-err : goal.returns-in_err-add-clause-err
returns-in_err-add-clause-err g c = on_err c.from_residual.result (c.loop-addition.addition-index, c.in_err-add.ensures.err ∙ c.loop-addition.invariant)

pub returns-clause-made : goal.returns-clause-made
returns-clause-made g c = c.loop-addition.invariant ∙ all_steps (registry_of c.args.self.now) c.args.additions.now c.loop-addition.addition-index c.loop-addition-test.false
