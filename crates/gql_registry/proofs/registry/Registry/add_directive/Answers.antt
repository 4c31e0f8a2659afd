use Rattle.std.proofs.Common.{ap, ◌∙◌, rules, ◌≡◌, string_bytes}
use Rattle.std.specs.Result.{OnErr}
use Rattle.std.specs.String.{string_cmp}
use Rattle.std.proofs.lemmas.Result.{on_ok_weaker}
use Rattle.std.specs.BTreeMap.{insert_entry}
use Rattle.gql_registry_meta.specs.Views.{text_of, directive_of, entries_of}
use Rattle.gql_registry_meta.specs.Parts.{text_cmp}
use Rattle.gql_registry.specs.Maps.{directives_in}
use Rattle.gql_registry.specs.Registry.{registry_of}
use Rattle.gql_registry_meta.proofs.Entries.{entries_with_entry}
use Rattle.gql_registry.proofs.OwnNames.{directives_after}
use Rattle.gql_registry.proofs.registry.Registry.add_directive.Goals as goal

pub returns-clause-contents : goal.returns-clause-contents
returns-clause-contents g c =
    let directives = c.args.self.now.directives.entries in
    let same : string_bytes c.in_ok-name.name ≡ text_of c.args.directive.name = search rules in
    ap (λ directives. record (registry_of c.args.self.now) { directives = directives })
    (ap (entries_of directive_of) c.in_ok-insert.ensures.entries ∙ entries_with_entry directive_of directives c.in_ok-name.name c.args.directive
    ∙ ap (λ t. insert_entry text_cmp (entries_of directive_of directives) t (directive_of c.args.directive)) same)

pub invariant_of-self-clause-own_directives : goal.invariant_of-self-clause-own_directives
invariant_of-self-clause-own_directives g c =
    let directives = c.args.self.now.directives in
    let same : string_bytes c.in_ok-name.name ≡ text_of c.args.directive.name = search rules in
    let kept : OnErr c.insert.result (directives_in c.insert.new.self ≡ directives_in directives) = search rules in
    let put = on_ok_weaker c.insert.result
    (λ (e : c.insert.new.self.entries ≡ insert_entry string_cmp directives.entries c.in_ok-name.name c.args.directive).
    ap (entries_of directive_of) e ∙ entries_with_entry directive_of directives.entries c.in_ok-name.name c.args.directive
    ∙ ap (λ t. insert_entry text_cmp (directives_in directives) t (directive_of c.args.directive)) same)
    c.insert.ensures.entries in
    directives_after c.insert.result (directives_in directives) (directives_in c.insert.new.self) (directive_of c.args.directive) put kept c.args.self.now.own_directives
