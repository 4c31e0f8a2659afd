use Rattle.std.proofs.Common.{rules, ◌≡◌, ◌++◌, ◌∷◌, [], not, map, ap, sym, ◌∙◌, append-nil}
use Rattle.std.specs.Map.{keys_of}
use Rattle.gql_registry_meta.specs.Parts.{Text}
use Rattle.gql_registry_meta.specs.Views.{text_of, texts_of, meta_of}
use Rattle.gql_registry_meta.proofs.Entries.{names_of-entries}
use Rattle.gql_registry_closures.specs.Walk.{is_name_kept, left_of}
use Rattle.gql_registry_closures.proofs.Kept.{one_left}
use Rattle.gql_registry_closures.proofs.names.left_names.Goals as goal

pub loop-name-preserved : goal.loop-name-preserved
loop-name-preserved g c =
    let first : c.loop-name.name-iterator ≡ c.in-Some.name.now ∷ c.next.new.self = search rules in
    one_left (λ (name : Text). not (is_name_kept c.args.numbers.now c.args.marks.now name)) (texts_of c.loop-name.names) (texts_of c.add_left.new.names) _ c.in-Some.name.now c.loop-name.name-iterator c.next.new.self
    c.in_ok-add_left.ensures first c.loop-name.invariant

pub returns : goal.returns
returns g c =
    let all : c.into_iter-name-iterator.result ≡ keys_of c.args.types.now.entries = search rules in
    let none : c.loop-name.name-iterator ≡ [] = search rules in
    sym (append-nil (texts_of c.loop-name.names))
    ∙ sym (ap (λ l. texts_of c.loop-name.names ++ left_of c.args.numbers.now c.args.marks.now (map text_of l)) none)
    ∙ c.loop-name.invariant
    ∙ ap (λ l. left_of c.args.numbers.now c.args.marks.now (map text_of l)) all
    ∙ ap (left_of c.args.numbers.now c.args.marks.now) (sym (names_of-entries meta_of c.args.types.now.entries))
