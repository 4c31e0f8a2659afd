use Rattle.std.proofs.Common.{rules, ◌≡◌, [], ◌∷◌, Some, map, flat_map, ap, ap₂, sym, ◌∙◌}
use Rattle.std.specs.Map.{values_of}
use Rattle.std.specs.Option.{option_map, option_map_or}
use Rattle.gql_registry_meta.specs.Parts.{Text}
use Rattle.gql_registry_meta.specs.Views.{text_of}
use Rattle.gql_registry.specs.Registry.{registry_of}
use Rattle.gql_registry.specs.Additions.{Step, possible_type, made, all_made}
use Rattle.gql_dynamic_types.specs.TypeViews.{object_parts}
use Rattle.gql_dynamic.specs.SchemaTypes.{object_of}
use Rattle.gql_dynamic.specs.SchemaViews.{type_parts}
use Rattle.gql_check_code.specs.CheckedViews.{schema_parts}
use Rattle.gql_check.specs.Recorded.{types_in, object_steps, possible_steps}
use Rattle.gql_check.proofs.RegistrySteps.{none_made, first_made, all_made-append, values_viewed}
use Rattle.gql_check.proofs.making.add_possible_types.Goals as goal

pub loop-interface-preserved : goal.loop-interface-preserved
loop-interface-preserved g c =
    let before = registry_of c.loop-interface.registry in
    let step : Text → Step = λ interface. possible_type interface (object_parts c.in-Some-as_object.object.now).name in
    let rest = map step (map text_of c.next-in-loop-interface.new.self) in
    let first : c.loop-interface.interface-iterator ≡ c.in-Some-interface.interface.now ∷ c.next-in-loop-interface.new.self = search rules in
    ap (λ so_far. all_made so_far rest)
    (c.in_ok-add_possible_type.ensures.contents ∙ ap₂ (λ interface object. made before (possible_type interface object)) c.as_str.ensures.value c.type_name.ensures)
    ∙ sym (first_made before (step (text_of c.in-Some-interface.interface.now)) rest)
    ∙ sym (ap (λ left. all_made before (map step (map text_of left))) first)
    ∙ c.loop-interface.invariant

pub loop-ty-preserved : goal.loop-ty-preserved
loop-ty-preserved g c =
    let before = registry_of c.loop-ty.registry in
    let after = registry_of c.loop-interface.registry in
    let type = type_parts c.in-Some.ty.now in
    let object = object_parts c.in-Some-as_object.object.now in
    let step : Text → Step = λ interface. possible_type interface object.name in
    let rest = flat_map possible_steps (map type_parts c.next.new.self) in
    let none : c.loop-interface.interface-iterator ≡ [] = search rules in
    let all : c.into_iter-interface-iterator.result ≡ c.implements.result.now.keys = search rules in
    let noted : after ≡ all_made before (object_steps object) =
    sym (none_made after)
    ∙ sym (ap (λ left. all_made after (map step (map text_of left))) none)
    ∙ c.loop-interface.invariant
    ∙ ap (λ left. all_made before (map step (map text_of left))) all
    ∙ ap (λ names. all_made before (map step names)) c.implements.ensures in
    let is : object_of type ≡ Some object = sym c.as_object.ensures ∙ ap (option_map (λ ty. object_parts ty.now)) c.in-Some-as_object.is in
    let first : c.loop-ty.ty-iterator ≡ c.in-Some.ty.now ∷ c.next.new.self = search rules in
    ap (λ so_far. all_made so_far rest) (noted ∙ ap (λ found. all_made before (option_map_or object_steps found [])) (sym is))
    ∙ sym (all_made-append before (possible_steps type) rest)
    ∙ sym (ap (λ left. all_made before (flat_map possible_steps (map type_parts left))) first)
    ∙ c.loop-ty.invariant

pub returns : goal.returns
returns g c =
    let before = registry_of c.args.registry.now in
    let after = registry_of c.loop-ty.registry in
    let entries = c.types.result.now.entries in
    let none : c.loop-ty.ty-iterator ≡ [] = search rules in
    let all : c.into_iter-ty-iterator.result ≡ values_of entries = search rules in
    sym (none_made after)
    ∙ sym (ap (λ left. all_made after (flat_map possible_steps (map type_parts left))) none)
    ∙ c.loop-ty.invariant
    ∙ ap (λ left. all_made before (flat_map possible_steps (map type_parts left))) all
    ∙ sym (ap (λ types. all_made before (flat_map possible_steps types)) (values_viewed type_parts entries))
    ∙ ap (λ types. all_made before (flat_map possible_steps (map (λ entry. entry.1) types))) c.types.ensures
    ∙ ap (λ contents. all_made contents (flat_map possible_steps (types_in (schema_parts c.args.builder.now.types)))) c.requires
