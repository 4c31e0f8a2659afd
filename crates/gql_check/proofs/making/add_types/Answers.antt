use Rattle.std.proofs.Common.{rules, ◌≡◌, [], ◌∷◌, map, ap, refl, subst, sym, ◌∙◌}
use Rattle.std.specs.Map.{keys_of, values_of}
use Rattle.gql_registry.specs.Registry.{registry_of, types_of}
use Rattle.gql_registry.specs.Additions.{all_made}
use Rattle.gql_dynamic.specs.SchemaTypes.{type_name}
use Rattle.gql_dynamic.specs.SchemaViews.{type_parts}
use Rattle.gql_check_code.specs.CheckedViews.{schema_parts}
use Rattle.gql_check.specs.Recorded.{types_in, type_step}
use Rattle.gql_check.specs.Names.{HasNoneOf}
use Rattle.gql_check.specs.Recordings.{recorded_of}
use Rattle.gql_check.proofs.Keys.{AreFree, free_names, free_after, none_of_system}
use Rattle.gql_check.proofs.RegistrySteps.{none_made, first_made, values_viewed}
use Rattle.gql_check.proofs.making.add_types.Goals as goal

pub loop-ty-init : goal.loop-ty-init
loop-ty-init g c =
    let entries = c.types.result.now.entries in
    let builder = c.args.builder.now in
    let parts = schema_parts builder.types in
    let others = keys_of (types_of c.args.registry.now) in
    let new = subst (λ contents. HasNoneOf (keys_of contents.types) parts) (sym c.requires.before) (none_of_system (recorded_of builder) parts c.requires.valid) in
    let all : c.into_iter-ty-iterator.result ≡ entries = search rules in
    record {
      free = subst (λ types. AreFree (map type_name types) others)
          (sym (ap (λ left. map type_parts (values_of left)) all ∙ sym (values_viewed type_parts entries) ∙ ap (map (λ entry. entry.1)) c.types.ensures))
          (free_names parts others builder.own builder.different new);
      all = refl;
    }

pub loop-ty-preserved : goal.loop-ty-preserved
loop-ty-preserved g c =
    let before = registry_of c.loop-ty.registry in
    let type = type_parts c.in-Some.ty.now in
    let left = map type_parts (values_of c.next.new.self) in
    let first : c.loop-ty.ty-iterator ≡ (c.in-Some.field-0-0.now, c.in-Some.ty.now) ∷ c.next.new.self = search rules in
    record {
      free = free_after (map type_name left) type before (registry_of c.add_type.new.registry) c.in_ok-add_type.ensures.added
          (subst (λ left. AreFree (map type_name (map type_parts (values_of left))) (keys_of before.types)) first c.loop-ty.invariant.free);
      all = ap (λ so_far. all_made so_far (map type_step left)) c.in_ok-add_type.ensures.added
          ∙ sym (first_made before (type_step type) (map type_step left))
          ∙ sym (ap (λ left. all_made before (map type_step (map type_parts (values_of left)))) first)
          ∙ c.loop-ty.invariant.all;
    }

pub returns-clause-added : goal.returns-clause-added
returns-clause-added g c =
    let before = registry_of c.args.registry.now in
    let after = registry_of c.loop-ty.registry in
    let entries = c.types.result.now.entries in
    let none : c.loop-ty.ty-iterator ≡ [] = search rules in
    let all : c.into_iter-ty-iterator.result ≡ entries = search rules in
    sym (none_made after)
    ∙ sym (ap (λ left. all_made after (map type_step (map type_parts (values_of left)))) none)
    ∙ c.loop-ty.invariant.all
    ∙ ap (λ left. all_made before (map type_step (map type_parts (values_of left)))) all
    ∙ sym (ap (λ types. all_made before (map type_step types)) (values_viewed type_parts entries))
    ∙ ap (λ types. all_made before (map type_step (map (λ entry. entry.1) types))) c.types.ensures
    ∙ ap (λ contents. all_made contents (map type_step (types_in (schema_parts c.args.builder.now.types)))) c.requires.before
