use Rattle.std.proofs.Common.{ap, sym, ◌∙◌, map, take}
use Rattle.gql_registry_meta.specs.Views.{directive_of}
use Rattle.gql_registry.specs.Registry.{registry_of}
use Rattle.gql_registry.specs.Additions.{directive, made, all_made}
use Rattle.gql_check.proofs.RegistrySteps.{directive_step, directives_viewed, none_made, one_more, all_steps}
use Rattle.gql_publish_load.proofs.canonical.add_directives.Goals as goal

pub loop-directive-init : goal.loop-directive-init
loop-directive-init g c = sym (none_made (registry_of c.args.registry.now))

pub loop-directive-preserved : goal.loop-directive-preserved
loop-directive-preserved g c =
    let before = registry_of c.args.registry.now in
    let ds = c.args.directives.now in
    let i = c.loop-directive.directive-index in
    let x = c.directive-item.result in
    c.in_ok-add_directive.ensures.contents
    ∙ ap (λ d. made (registry_of c.loop-directive.registry) (directive d)) c.in_ok-try_clone.ensures
    ∙ ap (λ so_far. made so_far (directive_step x)) c.loop-directive.invariant
    ∙ ap (λ d. made (all_made before (take i (map directive_step ds))) (directive_step d)) c.directive-item.is
    ∙ sym (one_more directive_step before ds i x c.loop-directive-test.true)

pub returns : goal.returns
returns g c =
    let before = registry_of c.args.registry.now in
    let ds = c.args.directives.now in
    c.loop-directive.invariant ∙ all_steps directive_step before ds c.loop-directive.directive-index c.loop-directive-test.false
    ∙ ap (all_made before) (directives_viewed ds)
    ∙ ap (λ contents. all_made contents (map directive (map directive_of ds))) c.requires
