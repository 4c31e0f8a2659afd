use Rattle.std.proofs.Common.{refl, rules, ◌≡◌, subst}
use Rattle.std.specs.declared.result.Result.TheVariants.{Err}
use Rattle.gql_registry_meta.specs.declared.type_id.MetaTypeId.TheVariants.{Object}
use Rattle.gql_registry.specs.Registry.{registry_of}
use Rattle.gql_registry.specs.Created.{Created, Maker, answer_of, out_of_memory, asked, unasked}
use Rattle.gql_registry.proofs.Making.{created_by, made_by_calls}
use Rattle.gql_merged.specs.Merged.{merged_name, Merges}
use Rattle.gql_merged.proofs.merged_subscription.MergedObjectSubscriptionType.create_type_info.Goals as goal

pub returns-in_err-name-clause-created : goal.returns-in_err-name-clause-created
returns-in_err-name-clause-created g c =
    let out : answer_of c.from_residual.result ≡ Err out_of_memory = search rules in
    unasked out refl

pub returns-clause-created : goal.returns-clause-created
returns-clause-created g c =
    let name = merged_name g.A.SubscriptionType.named g.B.SubscriptionType.named in
    let wider : Maker = Merges g.A.SubscriptionType.named g.A.SubscriptionType.creates g.B.SubscriptionType.named g.B.SubscriptionType.creates in
    let before = registry_of c.args.registry.now in
    let answer = answer_of c.create_subscription_type.result in
    let after = registry_of c.create_subscription_type.new.self in
    let named : c.as_str-own.result.now ≡ name = search rules in
    asked (subst (λ n. Created wider n Object before answer after) named
    (created_by _ wider c.as_str-own.result.now Object before answer after
    (made_by_calls _ _ _ _ wider (λ at left r next call. search rules))
    c.create_subscription_type.ensures.created))
