use Rattle.std.proofs.Common.{rules, ◌≡◌, ◌||◌, ◌∷◌, [], true, ap, sym, ◌∙◌}
use Rattle.std.specs.List.{list_any}
use Rattle.std.specs.Map.{values_of}
use Rattle.gql_registry_meta.specs.Views.{meta_of}
use Rattle.gql_registry_closures.specs.Entities.{is_entity, has_entities}
use Rattle.gql_registry_closures.proofs.Lists.{any_viewed}
use Rattle.gql_registry_closures.proofs.entities.has_entities.Goals as goal

pub returns-then-is_entity : goal.returns-then-is_entity
returns-then-is_entity g c =
    let first : c.loop-ty.ty-iterator ≡ c.in-Some.ty.now ∷ c.next.new.self = search rules in
    let all : c.into_iter-ty-iterator.result ≡ values_of c.args.types.now.entries = search rules in
    let one : true ≡ is_entity (meta_of c.in-Some.ty.now) = search rules in
    ap (λ b. b || list_any (λ x. is_entity (meta_of x)) c.next.new.self) one
    ∙ sym (ap (list_any (λ x. is_entity (meta_of x))) first)
    ∙ c.loop-ty.invariant
    ∙ ap (list_any (λ x. is_entity (meta_of x))) all
    ∙ any_viewed meta_of is_entity c.args.types.now.entries

pub returns : goal.returns
returns g c =
    let all : c.into_iter-ty-iterator.result ≡ values_of c.args.types.now.entries = search rules in
    let none : c.loop-ty.ty-iterator ≡ [] = search rules in
    sym (ap (list_any (λ x. is_entity (meta_of x))) none)
    ∙ c.loop-ty.invariant
    ∙ ap (list_any (λ x. is_entity (meta_of x))) all
    ∙ any_viewed meta_of is_entity c.args.types.now.entries
