use Rattle.std.proofs.Common.{rules, ◌≡◌, ◌++◌, ◌∷◌, [], map, ap, ◌∙◌}
use Rattle.std.specs.Map.{values_of}
use Rattle.gql_registry_meta.specs.Parts.{InputValue}
use Rattle.gql_registry_meta.specs.Views.{text_of, texts_in, input_value_of}
use Rattle.gql_registry_meta.proofs.Borrowed.{texts_last}
use Rattle.gql_registry_closures.proofs.Lists.{one_item, all_items, map_viewed}
use Rattle.gql_registry_closures.proofs.naming.add_inputs.Goals as goal

pub loop-input-preserved : goal.loop-input-preserved
loop-input-preserved c =
    let input = c.in-Some.input.now in
    let first : c.loop-input.input-iterator ≡ input ∷ c.next.new.self = search rules in
    let pushed : c.push.new.self.items ≡ c.loop-input.names.items ++ c.as_str.result ∷ [] = search rules in
    one_item (λ x. text_of x.name) (texts_in c.loop-input.names.items) (texts_in c.push.new.self.items) _ input c.loop-input.input-iterator c.next.new.self
    (ap texts_in pushed ∙ texts_last c.loop-input.names.items c.as_str.result ∙ ap (λ t. texts_in c.loop-input.names.items ++ t ∷ []) c.as_str.ensures.value)
    first c.loop-input.invariant

pub returns : goal.returns
returns c =
    let all : c.into_iter-input-iterator.result ≡ values_of c.args.inputs.now.entries = search rules in
    let none : c.loop-input.input-iterator ≡ [] = search rules in
    all_items (λ x. text_of x.name) (texts_in c.loop-input.names.items) _ c.loop-input.input-iterator none c.loop-input.invariant
    ∙ ap (λ xs. texts_in c.args.names.now.items ++ map (λ x. text_of x.name) xs) all
    ∙ ap (λ l. texts_in c.args.names.now.items ++ l) (map_viewed input_value_of (λ (input : InputValue). input.name) c.args.inputs.now.entries)
