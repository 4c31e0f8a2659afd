-- The view of a document does not depend on places.
use Rattle.std.proofs.Common.{◌≡◌, Bool, true, false, cond, List, [], ◌∷◌, ◌++◌, filter, map, Option, Some, None, codes, refl, ap, ap₂, ◌∙◌}
use Rattle.std.specs.Prelude.{◌&&◌, ◌||◌, not}
use Rattle.std.specs.List.{filter_map, find}
use Rattle.std.specs.Option.{is_none, unwrap_or}
use Rattle.std.specs.Str.{bytes_eq}
use Rattle.gql_text_syntax.specs.declared.operation.OperationType.TheVariants.{Query, Mutation, Subscription}
use Rattle.gql_text.specs.Owners.{deprecated, specified_by, one_of}
use Rattle.gql_text.specs.Roots.{root_of}
use Rattle.gql_text.specs.declared.document.Definition.{Definition}
use Rattle.gql_text.specs.declared.document.Definition.TheVariants as definition
use Rattle.gql_text.specs.declared.document.DirectiveUse.{DirectiveUse}
use Rattle.gql_text.specs.declared.document.Document.{Document}
use Rattle.gql_text.specs.declared.document.EnumValueDef.{EnumValueDef}
use Rattle.gql_text.specs.declared.document.FieldDef.{FieldDef}
use Rattle.gql_text.specs.declared.document.InputDef.{InputDef}
use Rattle.gql_text.specs.declared.document.TypeHead.{TypeHead}
use Rattle.gql_registry_meta.specs.Parts.{Text, Deprecated, Invocation, Directive, is_empty, is_among}
use Rattle.gql_registry.specs.System.{system_directives}
use Rattle.gql_parts.specs.Builders.{InputValueParts, new_input_value, arguments_meta, FieldParts, new_field, SubscriptionFieldParts, new_subscription_field, EnumItemParts, new_enum_item}
use Rattle.gql_dynamic_types.specs.Types.{new_scalar, new_object, new_interface, new_union, new_enum, new_input_object, new_subscription}
use Rattle.gql_dynamic.specs.SchemaTypes.{TypeParts, type_name, type_meta, interfaces}
use Rattle.gql_dynamic.specs.SchemaTypes as built
use Rattle.gql_publish_document.specs.Document.{document_types, document_directives, document_view}
use Rattle.gql_publish_document.specs.Members.{input_parts, inputs_parts, field_parts, fields_parts, subscription_field_parts, subscription_fields_parts, value_parts, values_parts}
use Rattle.gql_publish_document.specs.Types.{is_upload, scalar_parts, object_parts, subscription_parts, is_root, type_in, location_named, directive_in}
use Rattle.gql_publish_document.specs.Uses.{is_use_of, deprecation_by, deprecation_in, url_by, url_in, has_one_of, invocation, is_custom, invocations_in}
use Rattle.gql_sdl_view.specs.Options.{Options, document_choice}
use Rattle.gql_sdl_view.specs.Ordered.{arranged}
use Rattle.gql_sdl_view.specs.View.{View, assembled}
use Rattle.gql_sdl_rows.specs.Bare.{bare_use, bare_input, bare_field, bare_value, bare_head, bare_definition, bare_document}
use Rattle.gql_sdl_rows.proofs.BareFaultless.{root_bare_of}

-- ---- uses

deprecation_bare : (us : List DirectiveUse) → deprecation_in (map bare_use us) ≡ deprecation_in us
deprecation_bare [] = refl
deprecation_bare (u ∷ us) = by_test (is_use_of deprecated u) (deprecation_bare us)
  where
    by_test : (t : Bool) → deprecation_in (map bare_use us) ≡ deprecation_in us
        → deprecation_by (cond t (Some (bare_use u)) (find (is_use_of deprecated) (map bare_use us))) ≡ deprecation_by (cond t (Some u) (find (is_use_of deprecated) us))
    by_test true e = refl
    by_test false e = e

url_bare : (us : List DirectiveUse) → url_in (map bare_use us) ≡ url_in us
url_bare [] = refl
url_bare (u ∷ us) = by_test (is_use_of specified_by u) (url_bare us)
  where
    by_test : (t : Bool) → url_in (map bare_use us) ≡ url_in us → url_by (cond t (Some (bare_use u)) (find (is_use_of specified_by) (map bare_use us))) ≡ url_by (cond t (Some u) (find (is_use_of specified_by) us))
    by_test true e = refl
    by_test false e = e

one_of_bare : (us : List DirectiveUse) → has_one_of (map bare_use us) ≡ has_one_of us
one_of_bare [] = refl
one_of_bare (u ∷ us) = ap (λ (b : Bool). is_use_of one_of u || b) (one_of_bare us)

customs_bare : (us : List DirectiveUse) → invocations_in (map bare_use us) ≡ invocations_in us
customs_bare [] = refl
customs_bare (u ∷ us) = by_test (is_custom u) (customs_bare us)
  where
    by_test : (t : Bool) → invocations_in (map bare_use us) ≡ invocations_in us
        → map invocation (cond t (bare_use u ∷ filter is_custom (map bare_use us)) (filter is_custom (map bare_use us))) ≡ map invocation (cond t (u ∷ filter is_custom us) (filter is_custom us))
    by_test true e = ap (λ (l : List Invocation). invocation u ∷ l) e
    by_test false e = e

empty_bare : (us : List DirectiveUse) → is_empty (map bare_use us) ≡ is_empty us
empty_bare [] = refl
empty_bare (u ∷ us) = refl

-- ---- members

input_bare : (i : InputDef) → input_parts (bare_input i) ≡ input_parts i
input_bare i =
    ap₂ (λ (d : Deprecated) (us : List Invocation). record (new_input_value i.name i.ty) { default_value = i.default; description = i.description; deprecation = d; directives = us }) (deprecation_bare i.uses) (customs_bare i.uses)

inputs_bare : (is : List InputDef) → inputs_parts (map bare_input is) ≡ inputs_parts is
inputs_bare [] = refl
inputs_bare (i ∷ is) = ap₂ (λ (p : InputValueParts) (l : List (Text × InputValueParts)). (i.name, p) ∷ l) (input_bare i) (inputs_bare is)

field_bare : (f : FieldDef) → field_parts (bare_field f) ≡ field_parts f
field_bare f =
    let whole : List (Text × InputValueParts) → Deprecated → List Invocation → FieldParts = λ args d us. record (new_field f.name f.ty) { arguments = args; description = f.description; deprecation = d; directives = us } in
    ap₂ (λ (d : Deprecated) (us : List Invocation). whole (inputs_parts (map bare_input f.args)) d us) (deprecation_bare f.uses) (customs_bare f.uses)
    ∙ ap (λ (args : List (Text × InputValueParts)). whole args (deprecation_in f.uses) (invocations_in f.uses)) (inputs_bare f.args)

fields_bare : (fs : List FieldDef) → fields_parts (map bare_field fs) ≡ fields_parts fs
fields_bare [] = refl
fields_bare (f ∷ fs) = ap₂ (λ (p : FieldParts) (l : List (Text × FieldParts)). (f.name, p) ∷ l) (field_bare f) (fields_bare fs)

root_field_bare : (f : FieldDef) → subscription_field_parts (bare_field f) ≡ subscription_field_parts f
root_field_bare f =
    ap₂ (λ (args : List (Text × InputValueParts)) (d : Deprecated). record (new_subscription_field f.name f.ty) { arguments = args; description = f.description; deprecation = d }) (inputs_bare f.args) (deprecation_bare f.uses)

root_fields_bare : (fs : List FieldDef) → subscription_fields_parts (map bare_field fs) ≡ subscription_fields_parts fs
root_fields_bare [] = refl
root_fields_bare (f ∷ fs) = ap₂ (λ (p : SubscriptionFieldParts) (l : List (Text × SubscriptionFieldParts)). (f.name, p) ∷ l) (root_field_bare f) (root_fields_bare fs)

value_bare : (v : EnumValueDef) → value_parts (bare_value v) ≡ value_parts v
value_bare v = ap₂ (λ (d : Deprecated) (us : List Invocation). record (new_enum_item v.name) { description = v.description; deprecation = d; directives = us }) (deprecation_bare v.uses) (customs_bare v.uses)

values_bare : (vs : List EnumValueDef) → values_parts (map bare_value vs) ≡ values_parts vs
values_bare [] = refl
values_bare (v ∷ vs) = ap₂ (λ (p : EnumItemParts) (l : List (Text × EnumItemParts)). (v.name, p) ∷ l) (value_bare v) (values_bare vs)

-- ---- types

scalar_bare : (head : TypeHead) → scalar_parts (bare_head head) ≡ scalar_parts head
scalar_bare head = ap₂ (λ (url : Option Text) (us : List Invocation). built.scalar (record (new_scalar head.name) { description = head.description; specified_by_url = url; directives = us })) (url_bare head.uses) (customs_bare head.uses)

upload_bare : (head : TypeHead) → is_upload (bare_head head) ≡ is_upload head
upload_bare head = ap (λ (b : Bool). is_upload_with head b) (empty_bare head.uses)
  where
    is_upload_with : TypeHead → Bool → Bool
    is_upload_with head b = bytes_eq head.name (codes "Upload") && (is_none head.description && b)

object_bare : (head : TypeHead) (implements : List Text) (fields : List FieldDef) → object_parts (bare_head head) implements (map bare_field fields) ≡ object_parts head implements fields
object_bare head implements fields =
    ap₂ (λ (fs : List (Text × FieldParts)) (us : List Invocation). built.object (record (new_object head.name) { description = head.description; fields = fs; implements = implements; directives = us })) (fields_bare fields) (customs_bare head.uses)

subscription_bare : (head : TypeHead) (fields : List FieldDef) → subscription_parts (bare_head head) (map bare_field fields) ≡ subscription_parts head fields
subscription_bare head fields = ap (λ (fs : List (Text × SubscriptionFieldParts)). built.subscription (record (new_subscription head.name) { description = head.description; fields = fs })) (root_fields_bare fields)

pub type_bare : (root : Option Text) (d : Definition) → type_in root (bare_definition d) ≡ type_in root d
type_bare root (definition.SchemaBlock roots at) = refl
type_bare root (definition.Scalar head) = ap₂ (λ (t : Bool) (p : TypeParts). Some (cond t built.upload p)) (upload_bare head) (scalar_bare head)
type_bare root (definition.Object head implements fields) = ap₂ (λ (s o : TypeParts). Some (cond (is_root root head.name) s o)) (subscription_bare head fields) (object_bare head implements fields)
type_bare root (definition.Interface head implements fields) =
    ap₂ (λ (fs : List (Text × FieldParts)) (us : List Invocation). Some (built.interface (record (new_interface head.name) { description = head.description; fields = fs; implements = implements; directives = us }))) (fields_bare fields) (customs_bare head.uses)
type_bare root (definition.Union head members) = ap (λ (us : List Invocation). Some (built.union (record (new_union head.name) { description = head.description; possible_types = members; directives = us }))) (customs_bare head.uses)
type_bare root (definition.Enum head values) =
    ap₂ (λ (is : List (Text × EnumItemParts)) (us : List Invocation). Some (built.enum (record (new_enum head.name) { description = head.description; items = is; directives = us }))) (values_bare values) (customs_bare head.uses)
type_bare root (definition.Input head fields) =
    let whole : List (Text × InputValueParts) → Bool → List Invocation → Option TypeParts = λ fs mark us. Some (built.input_object (record (new_input_object head.name) { description = head.description; fields = fs; oneof = mark; directives = us })) in
    ap₂ (λ (mark : Bool) (us : List Invocation). whole (inputs_parts (map bare_input fields)) mark us) (one_of_bare head.uses) (customs_bare head.uses)
    ∙ ap (λ (fs : List (Text × InputValueParts)). whole fs (has_one_of head.uses) (invocations_in head.uses)) (inputs_bare fields)
type_bare root (definition.Directive directive) = refl

pub directive_bare : (d : Definition) → directive_in (bare_definition d) ≡ directive_in d
directive_bare (definition.SchemaBlock roots at) = refl
directive_bare (definition.Scalar head) = refl
directive_bare (definition.Object head implements fields) = refl
directive_bare (definition.Interface head implements fields) = refl
directive_bare (definition.Union head members) = refl
directive_bare (definition.Enum head values) = refl
directive_bare (definition.Input head fields) = refl
directive_bare (definition.Directive d) =
    ap (λ (args : List (Text × InputValueParts)). Some (record {
      name = d.name;
      description = d.description;
      locations = filter_map location_named d.locations;
      args = arguments_meta args;
      is_repeatable = d.repeatable;
      visible = None;
      composable = None;
    })) (inputs_bare d.args)

-- ---- the view

pub found_bare : {Y : Type 0} (of : Definition → Option Y) → ((d : Definition) → of (bare_definition d) ≡ of d) → (ds : List Definition) → filter_map of (map bare_definition ds) ≡ filter_map of ds
found_bare of same [] = refl
found_bare {Y} of same (d ∷ ds) = by_part (of d) refl (found_bare of same ds)
  where
    by_part : (o : Option Y) → of d ≡ o → filter_map of (map bare_definition ds) ≡ filter_map of ds → filter_map of (map bare_definition (d ∷ ds)) ≡ filter_map of (d ∷ ds)
    by_part None e h = rw (same d, e) h
    by_part (Some y) e h = rw (same d, e) (ap (λ (l : List Y). y ∷ l) h)

-- the view of these types, directives and roots
abbrev view_with : Options → Option Text → Option Text → Option Text → List TypeParts → List Directive → View
view_with o query mutation subscription types directives =
    assembled (document_choice o) (record { query = unwrap_or query []; mutation = mutation; subscription = subscription }) (map type_meta (arranged type_name true types)) (map type_meta (arranged type_name true types)) (map interfaces (arranged type_name true types))
    (arranged (λ (x : Directive). x.name) true (directives ++ filter (λ (s : Directive). not (is_among s.name (map (λ (own : Directive). own.name) directives))) system_directives))

view_is : (o : Options) (d : Document) → document_view o d ≡ view_with o (root_of Query d) (root_of Mutation d) (root_of Subscription d) (document_types d) (document_directives d)
view_is o d = refl

pub types_bare : (d : Document) → document_types (bare_document d) ≡ document_types d
types_bare d = ap (λ (root : Option Text). filter_map (type_in root) (map bare_definition d.definitions)) (root_bare_of Subscription d.definitions) ∙ found_bare (type_in (root_of Subscription d)) (type_bare (root_of Subscription d)) d.definitions

pub view_bare : (o : Options) (d : Document) → document_view o (bare_document d) ≡ document_view o d
view_bare o d =
    let ts : List TypeParts = document_types (bare_document d) in
    let xs : List Directive = document_directives (bare_document d) in
    ap₂ (λ (q m : Option Text). view_with o q m (root_of Subscription (bare_document d)) ts xs) (root_bare_of Query d.definitions) (root_bare_of Mutation d.definitions)
    ∙ ap₂ (λ (s : Option Text) (l : List TypeParts). view_with o (root_of Query d) (root_of Mutation d) s l xs) (root_bare_of Subscription d.definitions) (types_bare d)
    ∙ ap (view_with o (root_of Query d) (root_of Mutation d) (root_of Subscription d) (document_types d)) (found_bare directive_in directive_bare d.definitions)
