use Rattle.std.proofs.Common.{map, take, ap, ◌∙◌}
use Rattle.gql_registry_meta.specs.Views.{text_of}
use Rattle.gql_registry.specs.Registry.{registry_of}
use Rattle.gql_registry.specs.Created.{without, without_all}
use Rattle.gql_registry.proofs.Asked.{none_out, out_more}
use Rattle.gql_registry.proofs.registry.Registry.take_out_all.Goals as goal

pub loop-name-init : goal.loop-name-init
loop-name-init g c = none_out (registry_of c.args.self.now)

pub loop-name-preserved : goal.loop-name-preserved
loop-name-preserved g c =
    let i = c.loop-name.name-index in
    c.take_out.ensures
    ∙ ap (without (registry_of c.loop-name.self)) c.as_str.ensures.value
    ∙ ap (λ contents. without contents (text_of c.name-item.result)) c.loop-name.invariant
    ∙ ap (λ item. without (without_all (registry_of c.args.self.now) (take i (map text_of c.args.names.now))) (text_of item)) c.name-item.is
    ∙ out_more (registry_of c.args.self.now) c.args.names.now i _ c.loop-name-test.true
