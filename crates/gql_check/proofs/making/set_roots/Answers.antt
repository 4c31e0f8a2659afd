use Rattle.std.proofs.Common.{◌≡◌, ap₂, ◌∙◌}
use Rattle.gql_registry.specs.Registry.{Contents, registry_of, empty}
use Rattle.gql_check_code.specs.CheckedViews.{schema_parts}
use Rattle.gql_check.proofs.making.set_roots.Goals as goal

pub returns : goal.returns
returns g c =
    let parts = schema_parts c.args.builder.now.types in
    let queried : registry_of c.set_query_type.new.self ≡ record empty { query = parts.query } =
    c.in_ok-set_query_type.ensures.contents ∙ ap₂ (λ (contents : Contents) name. record contents { query = name }) c.requires c.query.ensures in
    let mutated : registry_of c.set_mutation_type.new.self ≡ record empty { query = parts.query; mutation = parts.mutation } =
    c.in_ok-set_mutation_type.ensures.contents ∙ ap₂ (λ (contents : Contents) name. record contents { mutation = name }) queried c.mutation.ensures in
    let subscribed : registry_of c.set_subscription_type.new.self ≡ record empty { query = parts.query; mutation = parts.mutation; subscription = parts.subscription } =
    c.in_ok-set_subscription_type.ensures.contents ∙ ap₂ (λ (contents : Contents) name. record contents { subscription = name }) mutated c.subscription.ensures in
    c.set_introspection_mode.ensures ∙ ap₂ (λ (contents : Contents) mode. record contents { introspection = mode }) subscribed c.mode.ensures
