use Rattle.std.proofs.Common.{rules, ◌≡◌, ◌||◌, ◌∷◌, [], Bool, true, cond, map, ap, sym, ◌∙◌}
use Rattle.gql_registry_meta.specs.Parts.{Text, is_among}
use Rattle.gql_registry_meta.specs.Views.{text_of}
use Rattle.gql_registry_closures.specs.Answers.{set_names}
use Rattle.gql_registry_closures.specs.Walk.{is_name_kept}
use Rattle.gql_registry_closures.proofs.Kept.{inserted}
use Rattle.gql_registry_closures.proofs.names.add_kept.Goals as goal

pub returns-then-is_kept : goal.returns-then-is_kept
returns-then-is_kept c other =
    let key = c.in_ok-clone.field-0 in
    let same : text_of key ≡ text_of c.args.name.now = search rules in
    let kept : is_name_kept c.args.numbers.now c.args.marks.now (text_of c.args.name.now) ≡ true = search rules in
    ap (λ ks. is_among other (map text_of ks)) c.in_ok-insert.ensures.keys
    ∙ inserted other c.args.names.now.keys key
    ∙ ap (λ (t : Text). is_among other (set_names c.args.names.now) || is_among other (t ∷ [])) same
    ∙ ap (λ (b : Bool). is_among other (set_names c.args.names.now) || is_among other (cond b (text_of c.args.name.now ∷ []) [])) (sym kept)
