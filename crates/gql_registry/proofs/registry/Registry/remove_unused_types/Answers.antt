use Rattle.std.proofs.Common.{map, ap, ◌∙◌}
use Rattle.gql_registry_meta.specs.Views.{text_of, texts_of}
use Rattle.gql_registry.specs.Registry.{registry_of}
use Rattle.gql_registry.specs.Created.{without_all}
use Rattle.gql_registry.proofs.Asked.{removed, kept_stays, kept_once}
use Rattle.gql_registry.proofs.registry.Registry.remove_unused_types.Goals as goal

pub returns-clause-contents : goal.returns-clause-contents
returns-clause-contents g c =
    let before = registry_of c.args.self.now in
    removed before (registry_of c.take_out_all.new.self) (texts_of c.in_ok-names.names) c.in_ok-names.ensures
    (c.take_out_all.ensures ∙ ap (λ names. without_all before (map text_of names)) c.deref.ensures.value)

pub returns-clause-kept : goal.returns-clause-kept
returns-clause-kept g c = kept_stays (registry_of c.args.self.now) (registry_of c.take_out_all.new.self) (returns-clause-contents g c)

pub returns-clause-once : goal.returns-clause-once
returns-clause-once g c third = kept_once (registry_of c.args.self.now) (registry_of c.take_out_all.new.self) third (returns-clause-contents g c)
