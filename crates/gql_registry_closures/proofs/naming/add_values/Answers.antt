use Rattle.std.proofs.Common.{rules, ◌≡◌, ◌++◌, ◌∷◌, [], map, ap, ◌∙◌}
use Rattle.std.specs.Map.{values_of}
use Rattle.gql_registry_meta.specs.Parts.{EnumValue}
use Rattle.gql_registry_meta.specs.Views.{text_of, texts_in, enum_value_of}
use Rattle.gql_registry_meta.proofs.Borrowed.{texts_last}
use Rattle.gql_registry_closures.proofs.Lists.{one_item, all_items, map_viewed}
use Rattle.gql_registry_closures.proofs.naming.add_values.Goals as goal

pub loop-value-preserved : goal.loop-value-preserved
loop-value-preserved c =
    let value = c.in-Some.value.now in
    let first : c.loop-value.value-iterator ≡ value ∷ c.next.new.self = search rules in
    let pushed : c.push.new.self.items ≡ c.loop-value.names.items ++ c.as_str.result ∷ [] = search rules in
    one_item (λ x. text_of x.name) (texts_in c.loop-value.names.items) (texts_in c.push.new.self.items) _ value c.loop-value.value-iterator c.next.new.self
    (ap texts_in pushed ∙ texts_last c.loop-value.names.items c.as_str.result ∙ ap (λ t. texts_in c.loop-value.names.items ++ t ∷ []) c.as_str.ensures.value)
    first c.loop-value.invariant

pub returns : goal.returns
returns c =
    let all : c.into_iter-value-iterator.result ≡ values_of c.args.values.now.entries = search rules in
    let none : c.loop-value.value-iterator ≡ [] = search rules in
    all_items (λ x. text_of x.name) (texts_in c.loop-value.names.items) _ c.loop-value.value-iterator none c.loop-value.invariant
    ∙ ap (λ xs. texts_in c.args.names.now.items ++ map (λ x. text_of x.name) xs) all
    ∙ ap (λ l. texts_in c.args.names.now.items ++ l) (map_viewed enum_value_of (λ (value : EnumValue). value.name) c.args.values.now.entries)
