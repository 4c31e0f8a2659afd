use Rattle.std.proofs.Common.{ap, ◌∙◌, ◌≡◌}
use Rattle.std.proofs.lemmas.Result.{on_ok_weaker}
use Rattle.gql_registry_meta.specs.Views.{meta_of, field_of, directive_of}
use Rattle.gql_registry.specs.Registry.{registry_of}
use Rattle.gql_registry.specs.Additions.{made, directive, missing_type, query_field}
use Rattle.gql_registry.proofs.registry.Registry.add.Goals as goal

pub returns-in_ok-system_directive-in-Directive-clause-made : goal.returns-in_ok-system_directive-in-Directive-clause-made
returns-in_ok-system_directive-in-Directive-clause-made g c =
    let before = registry_of c.args.self.now in
    on_ok_weaker c.add_directive.result
    (λ (e : registry_of c.add_directive.new.self ≡ made before (directive (directive_of c.in_ok-system_directive-in-Directive.field-0))).
    rw c.in-Directive.is (e ∙ ap (λ part. made before (directive part)) c.in_ok-system_directive-in-Directive.ensures))
    c.add_directive.ensures.contents

pub returns-in_ok-scalar-in-Scalar-clause-made : goal.returns-in_ok-scalar-in-Scalar-clause-made
returns-in_ok-scalar-in-Scalar-clause-made g c =
    let before = registry_of c.args.self.now in
    on_ok_weaker c.add_missing.result
    (λ (e : registry_of c.add_missing.new.self ≡ made before (missing_type (meta_of c.in_ok-scalar-in-Scalar.field-0))).
    rw c.in-Scalar.is (e ∙ ap (λ part. made before (missing_type part)) c.in_ok-scalar-in-Scalar.ensures))
    c.add_missing.ensures.made

pub returns-in_ok-introspection_type-in-Type-clause-made : goal.returns-in_ok-introspection_type-in-Type-clause-made
returns-in_ok-introspection_type-in-Type-clause-made g c =
    let before = registry_of c.args.self.now in
    on_ok_weaker c.add_missing-in-Type.result
    (λ (e : registry_of c.add_missing-in-Type.new.self ≡ made before (missing_type (meta_of c.in_ok-introspection_type-in-Type.field-0))).
    rw c.in-Type.is (e ∙ ap (λ part. made before (missing_type part)) c.in_ok-introspection_type-in-Type.ensures))
    c.add_missing-in-Type.ensures.made

pub returns-in_ok-query_field-in-QueryField-clause-made : goal.returns-in_ok-query_field-in-QueryField-clause-made
returns-in_ok-query_field-in-QueryField-clause-made g c =
    let before = registry_of c.args.self.now in
    on_ok_weaker c.add_query_field.result
    (λ (e : registry_of c.add_query_field.new.self ≡ made before (query_field (field_of c.in_ok-query_field-in-QueryField.field-0))).
    rw c.in-QueryField.is (e ∙ ap (λ part. made before (query_field part)) c.in_ok-query_field-in-QueryField.ensures))
    c.add_query_field.ensures.made
