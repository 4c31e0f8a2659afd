use Rattle.std.proofs.Common.{◌≡◌, [], ◌∷◌, map, refl, sym, ap, ◌∙◌}
use Rattle.std.specs.Option.{option_copied}
use Rattle.gql_text.specs.DocumentOf.{bare_names_of, definition_of, enum_value_of, field_def_of, head_of, implements_of, input_of, kind_of}
use Rattle.gql_text_syntax.specs.declared.syntax.Kind.{Kind}
use Rattle.gql_text_syntax.specs.declared.syntax.Kind.TheVariants as kind
use Rattle.gql_dynamic_types.specs.TypeViews.{enum_parts, input_object_parts, interface_parts, union_parts}
use Rattle.gql_dynamic.specs.SchemaTypes as built
use Rattle.gql_check.specs.Recordings.{recorded_of}
use Rattle.gql_publish_document.specs.Types as document
use Rattle.gql_publish_load.specs.Loading.{recorded_with}
use Rattle.gql_publish_load.proofs.Recordings.{one_recorded, settled}
use Rattle.gql_publish_load.proofs.loading.with_definition.Goals as goal

pub returns-in_ok-built-in-Interface : goal.returns-in_ok-built-in-Interface
returns-in_ok-built-in-Interface g c =
    let root = option_copied c.args.subscription in
    let before = recorded_of c.args.builder in
    let d = c.args.definition.now.description in
    let o = c.in-Interface.object in
    let type = document.interface_parts (head_of d o.key o.uses) (implements_of o.implements) (map field_def_of o.fields) in
    let same : kind.Interface o ≡ c.args.definition.now.kind = sym c.in-Interface.is in
    settled c.register.result before (built.interface (interface_parts c.in_ok-built-in-Interface.built)) type (recorded_with root before (definition_of c.args.definition.now ∷ [])) c.register.ensures c.in_ok-built-in-Interface.ensures
    (one_recorded root before (kind_of d (kind.Interface o)) type refl refl ∙ ap (λ (k : Kind). recorded_with root before (kind_of d k ∷ [])) same)

pub returns-in_ok-built-in-Union : goal.returns-in_ok-built-in-Union
returns-in_ok-built-in-Union g c =
    let root = option_copied c.args.subscription in
    let before = recorded_of c.args.builder in
    let d = c.args.definition.now.description in
    let uses = c.as_slice-uses.result.now in
    let members = c.as_slice-members.result.now in
    let type = document.union_parts (head_of d c.in-Union.key uses) (bare_names_of members) in
    let same : kind.Union c.in-Union.key uses members ≡ c.args.definition.now.kind = cc (c.as_slice-uses.ensures, c.as_slice-members.ensures, c.in-Union.is) in
    settled c.register-in-Union.result before (built.union (union_parts c.in_ok-built-in-Union.built)) type (recorded_with root before (definition_of c.args.definition.now ∷ [])) c.register-in-Union.ensures c.in_ok-built-in-Union.ensures
    (one_recorded root before (kind_of d (kind.Union c.in-Union.key uses members)) type refl refl ∙ ap (λ (k : Kind). recorded_with root before (kind_of d k ∷ [])) same)

pub returns-in_ok-built-in-Enum : goal.returns-in_ok-built-in-Enum
returns-in_ok-built-in-Enum g c =
    let root = option_copied c.args.subscription in
    let before = recorded_of c.args.builder in
    let d = c.args.definition.now.description in
    let uses = c.as_slice-uses-in-Enum.result.now in
    let values = c.as_slice-values.result.now in
    let type = document.enum_parts (head_of d c.in-Enum.key uses) (map enum_value_of values) in
    let same : kind.Enum c.in-Enum.key uses values ≡ c.args.definition.now.kind = cc (c.as_slice-uses-in-Enum.ensures, c.as_slice-values.ensures, c.in-Enum.is) in
    settled c.register-in-Enum.result before (built.enum (enum_parts c.in_ok-built-in-Enum.built)) type (recorded_with root before (definition_of c.args.definition.now ∷ [])) c.register-in-Enum.ensures c.in_ok-built-in-Enum.ensures
    (one_recorded root before (kind_of d (kind.Enum c.in-Enum.key uses values)) type refl refl ∙ ap (λ (k : Kind). recorded_with root before (kind_of d k ∷ [])) same)

pub returns-in_ok-built-in-Input : goal.returns-in_ok-built-in-Input
returns-in_ok-built-in-Input g c =
    let root = option_copied c.args.subscription in
    let before = recorded_of c.args.builder in
    let d = c.args.definition.now.description in
    let uses = c.as_slice-uses-in-Input.result.now in
    let fields = c.as_slice-fields.result.now in
    let type = document.input_object_parts (head_of d c.in-Input.key uses) (map input_of fields) in
    let same : kind.Input c.in-Input.key uses fields ≡ c.args.definition.now.kind = cc (c.as_slice-uses-in-Input.ensures, c.as_slice-fields.ensures, c.in-Input.is) in
    settled c.register-in-Input.result before (built.input_object (input_object_parts c.in_ok-built-in-Input.built)) type (recorded_with root before (definition_of c.args.definition.now ∷ [])) c.register-in-Input.ensures c.in_ok-built-in-Input.ensures
    (one_recorded root before (kind_of d (kind.Input c.in-Input.key uses fields)) type refl refl ∙ ap (λ (k : Kind). recorded_with root before (kind_of d k ∷ [])) same)
