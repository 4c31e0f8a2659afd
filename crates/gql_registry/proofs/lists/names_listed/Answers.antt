use Rattle.std.proofs.Common.{ap, ◌∙◌, sym, [], map}
use Rattle.std.specs.Option.{unwrap_or}
use Rattle.gql_registry_meta.specs.Views.{text_of}
use Rattle.gql_registry.specs.Registry.{names_of}
use Rattle.gql_registry_meta.proofs.Entries.{found_at, missing_at}
use Rattle.gql_registry_meta.proofs.Alike.{map_alike}
use Rattle.gql_registry.proofs.lists.names_listed.Goals as goal

pub returns-in_ok-clone-in-Some : goal.returns-in_ok-clone-in-Some
returns-in_ok-clone-in-Some c =
    map_alike text_of _ _ c.in_ok-clone-in-Some.ensures.cases
    ∙ sym (ap (λ o. unwrap_or o []) (found_at names_of c.args.ty.now c.args.lists.now.entries c.in-Some.names.now c.in-Some.ensures.value))

pub returns-in-None : goal.returns-in-None
returns-in-None c =
    ap (map text_of) c.new.ensures.empty
    ∙ sym (ap (λ o. unwrap_or o []) (missing_at names_of c.args.ty.now c.args.lists.now.entries c.in-None.ensures.value))
