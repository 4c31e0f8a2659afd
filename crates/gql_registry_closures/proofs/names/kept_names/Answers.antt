use Rattle.std.proofs.Common.{rules, ◌≡◌, ◌∷◌, [], map, filter, ap, sym, ◌∙◌}
use Rattle.std.specs.Map.{keys_of}
use Rattle.gql_registry_meta.specs.Parts.{is_among}
use Rattle.gql_registry_meta.specs.Views.{text_of, meta_of}
use Rattle.gql_registry_meta.proofs.Entries.{names_of-entries}
use Rattle.gql_registry_closures.specs.Answers.{set_names}
use Rattle.gql_registry_closures.specs.Walk.{is_name_kept}
use Rattle.gql_registry_closures.proofs.Kept.{one_kept, all_kept}
use Rattle.gql_registry_closures.proofs.names.kept_names.Goals as goal

pub loop-name-preserved : goal.loop-name-preserved
loop-name-preserved g c other =
    let first : c.loop-name.name-iterator ≡ c.in-Some.name.now ∷ c.next.new.self = search rules in
    one_kept (is_name_kept c.args.numbers.now c.args.marks.now) other (set_names c.loop-name.names) (set_names c.add_kept.new.names) _ c.in-Some.name.now c.loop-name.name-iterator c.next.new.self
    (c.in_ok-add_kept.ensures other) first (c.loop-name.invariant other)

pub returns : goal.returns
returns g c other =
    let kept = is_name_kept c.args.numbers.now c.args.marks.now in
    let all : c.into_iter-name-iterator.result ≡ keys_of c.args.types.now.entries = search rules in
    let none : c.loop-name.name-iterator ≡ [] = search rules in
    all_kept kept other (set_names c.loop-name.names) _ c.loop-name.name-iterator none (c.loop-name.invariant other)
    ∙ ap (λ l. is_among other (filter kept (map text_of l))) all
    ∙ ap (λ l. is_among other (filter kept l)) (sym (names_of-entries meta_of c.args.types.now.entries))
