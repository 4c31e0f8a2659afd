use Rattle.std.proofs.Common.{map, sym, ap, ◌∙◌}
use Rattle.gql_registry_meta.specs.Views.{text_of}
use Rattle.gql_dynamic_types.specs.Types.{scalar_meta}
use Rattle.gql_dynamic.specs.SchemaTypes.{interfaces, type_meta}
use Rattle.gql_dynamic.specs.SchemaViews.{type_parts}
use Rattle.gql_publish_load.proofs.CanonicalTexts.{pushed}
use Rattle.gql_publish_load.proofs.canonical.push_built.Goals as goal

pub returns-in-Scalar : goal.returns-in-Scalar
returns-in-Scalar g c = λ subscription.
    pushed c.push_type.result subscription _ _ _ _ _ _ (ap (map text_of) c.new-none.ensures.empty ∙ ap (λ ty. interfaces (type_parts ty)) (sym c.in-Scalar.is))
    (c.in_ok-meta-in-Scalar.ensures.registered ∙ ap (λ ty. type_meta (type_parts ty)) (sym c.in-Scalar.is)) (c.push_type.ensures subscription)

pub returns-in-InputObject : goal.returns-in-InputObject
returns-in-InputObject g c = λ subscription.
    pushed c.push_type-in-InputObject.result subscription _ _ _ _ _ _ (ap (map text_of) c.new-none.ensures.empty ∙ ap (λ ty. interfaces (type_parts ty)) (sym c.in-InputObject.is))
    (c.in_ok-meta-in-InputObject.ensures ∙ ap (λ ty. type_meta (type_parts ty)) (sym c.in-InputObject.is)) (c.push_type-in-InputObject.ensures subscription)

pub returns-in-Enum : goal.returns-in-Enum
returns-in-Enum g c = λ subscription.
    pushed c.push_type-in-Enum.result subscription _ _ _ _ _ _ (ap (map text_of) c.new-none.ensures.empty ∙ ap (λ ty. interfaces (type_parts ty)) (sym c.in-Enum.is))
    (c.in_ok-meta-in-Enum.ensures ∙ ap (λ ty. type_meta (type_parts ty)) (sym c.in-Enum.is)) (c.push_type-in-Enum.ensures subscription)

pub returns-in-Union : goal.returns-in-Union
returns-in-Union g c = λ subscription.
    pushed c.push_type-in-Union.result subscription _ _ _ _ _ _ (ap (map text_of) c.new-none.ensures.empty ∙ ap (λ ty. interfaces (type_parts ty)) (sym c.in-Union.is))
    (c.in_ok-meta-in-Union.ensures ∙ ap (λ ty. type_meta (type_parts ty)) (sym c.in-Union.is)) (c.push_type-in-Union.ensures subscription)

pub returns-in-Subscription : goal.returns-in-Subscription
returns-in-Subscription g c = λ subscription.
    pushed c.push_type-in-Subscription.result subscription _ _ _ _ _ _ (ap (map text_of) c.new-none.ensures.empty ∙ ap (λ ty. interfaces (type_parts ty)) (sym c.in-Subscription.is))
    (c.in_ok-meta-in-Subscription.ensures ∙ ap (λ ty. type_meta (type_parts ty)) (sym c.in-Subscription.is)) (c.push_type-in-Subscription.ensures subscription)

pub returns : goal.returns
returns g c = λ subscription.
    pushed c.push_type-in-Upload.result subscription _ _ _ _ _ _ (ap (map text_of) c.new-none.ensures.empty ∙ ap (λ ty. interfaces (type_parts ty)) (sym c.in-Upload.is))
    (c.in_ok-meta-in-Upload.ensures.registered ∙ ap scalar_meta c.in_ok-upload-in-Upload.ensures.recorded ∙ ap (λ ty. type_meta (type_parts ty)) (sym c.in-Upload.is)) (c.push_type-in-Upload.ensures subscription)
