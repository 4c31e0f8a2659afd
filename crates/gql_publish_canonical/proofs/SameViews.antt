-- The types of a canonical form have the same views as those of the document.
use Rattle.std.proofs.Common.{◌≡◌, Bool, true, false, cond, List, [], ◌∷◌, ◌++◌, map, Option, Some, None, codes, refl, sym, ap, ap₂, ◌∙◌}
use Rattle.std.specs.Prelude.{◌&&◌}
use Rattle.std.specs.Cmp.Lexicographic.{bytes_decides}
use Rattle.std.specs.Option.{is_none}
use Rattle.std.specs.Str.{bytes_eq}
use Rattle.gql_text_values.specs.TypeRefs.{type_text}
use Rattle.gql_text.specs.declared.document.Definition.{Definition}
use Rattle.gql_text.specs.declared.document.Definition.TheVariants as definition
use Rattle.gql_text.specs.declared.document.DirectiveUse.{DirectiveUse}
use Rattle.gql_text.specs.declared.document.EnumValueDef.{EnumValueDef}
use Rattle.gql_text.specs.declared.document.FieldDef.{FieldDef}
use Rattle.gql_text.specs.declared.document.InputDef.{InputDef}
use Rattle.gql_text.specs.declared.document.TypeHead.{TypeHead}
use Rattle.gql_registry_meta.specs.Parts.{Text, Deprecated, Invocation, InputValue, Field, EnumValue, Meta, is_empty}
use Rattle.gql_registry.specs.Plain.{plain_field, plain_value}
use Rattle.gql_parts.specs.Builders.{InputValueParts, FieldParts, SubscriptionFieldParts, EnumItemParts, new_input_value, input_value_meta, arguments_meta, field_meta, subscription_field_meta, enum_item_meta}
use Rattle.gql_dynamic_types.specs.Types.{each_meta, new_scalar, scalar_meta, new_object, object_meta, new_interface, interface_meta, new_union, union_meta, new_enum, enum_meta, new_input_object, input_object_meta, subscription_meta}
use Rattle.gql_dynamic.specs.SchemaTypes.{TypeParts, upload, type_name, type_meta, interfaces}
use Rattle.gql_publish_document.specs.Members.{inputs_parts, fields_parts, subscription_fields_parts, values_parts, field_meta_of, subscription_field_meta_of}
use Rattle.gql_publish_document.specs.Types.{is_upload, scalar_parts, object_parts, subscription_parts, is_root}
use Rattle.gql_publish_document.specs.Uses.{deprecation_in, url_in, has_one_of, invocations_in}
use Rattle.gql_sdl_view.specs.Options.{Options, Choice, document_choice}
use Rattle.gql_sdl_view.specs.Ordered.{arranged, changed}
use Rattle.gql_sdl_view.specs.View.{viewed_input_value, viewed_fields, viewed_values, viewed_inputs, viewed_type}
use Rattle.gql_sdl_rows.specs.Shown.{url_uses, one_of_uses}
use Rattle.gql_publish_canonical.proofs.Canonical.{at_zero, canonical_input, canonical_field, canonical_fields, canonical_value, canonical_head, with_uses, canonical_type, type_of}
use Rattle.gql_publish_canonical.proofs.Lists.{arranged_map}
use Rattle.gql_publish_canonical.proofs.Members.{input_entry, input_entries, field_entry, plain_entry, field_entries, plain_fields, plain_root_fields, value_entry, value_entries}
use Rattle.gql_publish_canonical.proofs.Orders.{again}
use Rattle.gql_publish_canonical.proofs.SameMembers.{deprecation_stays, url_stays, one_of_stays, member_stays, scalar_stays, input_stays, head_stays}

-- ---- lists of members

-- items that are arranged, changed, and arranged again
resorted : {X M : Type 0} (change : X → X) (entry : X → Text × M) (name : X → Text) (by : Text × M → Text) (t : Bool) → ((x : X) → name (change x) ≡ name x) → ((x : X) → by (entry x) ≡ name x) → ((x : X) → entry (change x) ≡ entry x)
    → (xs : List X) → arranged by t (map entry (map change (arranged name t xs))) ≡ arranged by t (map entry xs)
resorted {X} {M} change entry name by t named is same xs =
    let ys : List X = arranged name t xs in
    ap (arranged by t) (each ys) ∙ entries ys ∙ ap (map entry) (again name t xs) ∙ sym (entries xs)
  where
    each : (ys : List X) → map entry (map change ys) ≡ map entry ys
    each [] = refl
    each (y ∷ ys) = ap₂ (λ (e : Text × M) (l : List (Text × M)). e ∷ l) (same y) (each ys)

    by_names : (n : X → Text) → n ≡ name → arranged n t xs ≡ arranged name t xs
    by_names n e = ap (λ (m : X → Text). arranged m t xs) e

    entries : (ys : List X) → arranged by t (map entry ys) ≡ map entry (arranged name t ys)
    entries ys = arranged_map entry by t ys ∙ ap (λ (m : X → Text). map entry (arranged m t ys)) (λ i x. is x i)

-- ---- arguments and input fields

input_same : (i : InputDef) → input_entry (canonical_input i) ≡ input_entry i
input_same i =
    ap₂ (λ (d : Deprecated) (us : List Invocation). (i.name, viewed_input_value (input_value_meta (record (new_input_value i.name i.ty) { default_value = i.default; description = i.description; deprecation = d; directives = us }))))
    (deprecation_stays i.uses) (member_stays i.uses)

abbrev input_views : Bool → List InputDef → List (Text × InputValue)
input_views t is = arranged (λ (e : Text × InputValue). e.1.name) t (changed viewed_input_value (arguments_meta (inputs_parts is)))

inputs_same : (t : Bool) (is : List InputDef) → input_views t (map canonical_input (arranged (λ (i : InputDef). i.name) t is)) ≡ input_views t is
inputs_same t is =
    let by : List (Text × InputValue) → List (Text × InputValue) = arranged (λ (e : Text × InputValue). e.1.name) t in
    ap by (input_entries (map canonical_input (arranged (λ (i : InputDef). i.name) t is)))
    ∙ resorted canonical_input input_entry (λ (i : InputDef). i.name) (λ (e : Text × InputValue). e.1.name) t (λ i. refl) (λ i. refl) input_same is ∙ sym (ap by (input_entries is))

-- ---- fields

field_same : (o : Options) (f : FieldDef) → field_entry o field_meta_of (canonical_field (document_choice o) f) ≡ field_entry o field_meta_of f
field_same o f =
    let whole : List (Text × InputValue) → Deprecated → List Invocation → Text × Field = λ args d us.
    (f.name, record (plain_field f.name (type_text f.ty)) { description = f.description; args = args; deprecation = d; directive_invocations = us }) in
    ap₂ (λ (d : Deprecated) (us : List Invocation). whole (input_views o.sorted_arguments (map canonical_input (arranged (λ (i : InputDef). i.name) o.sorted_arguments f.args))) d us) (deprecation_stays f.uses) (member_stays f.uses)
    ∙ ap (λ (args : List (Text × InputValue)). whole args (deprecation_in f.uses) (invocations_in f.uses)) (inputs_same o.sorted_arguments f.args)

root_field_same : (o : Options) (f : FieldDef) → field_entry o subscription_field_meta_of (canonical_field (document_choice o) f) ≡ field_entry o subscription_field_meta_of f
root_field_same o f =
    let whole : List (Text × InputValue) → Deprecated → Text × Field = λ args d.
    (f.name, record (plain_field f.name (type_text f.ty)) { description = f.description; args = args; deprecation = d; directive_invocations = [] }) in
    ap₂ whole (inputs_same o.sorted_arguments f.args) (deprecation_stays f.uses)

module _ (o : Options) (of : FieldDef → Field) (same : (f : FieldDef) → field_entry o of (canonical_field (document_choice o) f) ≡ field_entry o of f) (named : (f : FieldDef) → (of f).name ≡ f.name) where
  fields_same : (fs : List FieldDef) → viewed_fields (document_choice o) (map (plain_entry o of) (canonical_fields (document_choice o) fs)) ≡ viewed_fields (document_choice o) (map (plain_entry o of) fs)
  fields_same fs =
      field_entries o of (canonical_fields (document_choice o) fs)
      ∙ resorted (canonical_field (document_choice o)) (field_entry o of) (λ (f : FieldDef). f.name) (λ (e : Text × Field). e.1.name) o.sorted_fields (λ f. refl) named same fs ∙ sym (field_entries o of fs)

abbrev field_views : Options → List FieldDef → List (Text × Field)
field_views o fs = viewed_fields (document_choice o) (each_meta field_meta (fields_parts fs))

abbrev root_field_views : Options → List FieldDef → List (Text × Field)
root_field_views o fs = viewed_fields (document_choice o) (each_meta subscription_field_meta (subscription_fields_parts fs))

all_fields_same : (o : Options) (fs : List FieldDef) → field_views o (canonical_fields (document_choice o) fs) ≡ field_views o fs
all_fields_same o fs =
    ap (viewed_fields (document_choice o)) (plain_fields (canonical_fields (document_choice o) fs)) ∙ fields_same o field_meta_of (field_same o) (λ f. refl) fs ∙ sym (ap (viewed_fields (document_choice o)) (plain_fields fs))

all_root_fields_same : (o : Options) (fs : List FieldDef) → root_field_views o (canonical_fields (document_choice o) fs) ≡ root_field_views o fs
all_root_fields_same o fs =
    ap (viewed_fields (document_choice o)) (plain_root_fields (canonical_fields (document_choice o) fs)) ∙ fields_same o subscription_field_meta_of (root_field_same o) (λ f. refl) fs ∙ sym (ap (viewed_fields (document_choice o)) (plain_root_fields fs))

-- ---- values of an enum

value_same : (v : EnumValueDef) → value_entry (canonical_value v) ≡ value_entry v
value_same v =
    ap₂ (λ (d : Deprecated) (us : List Invocation). (v.name, record (plain_value v.name) { description = v.description; deprecation = d; directive_invocations = us })) (deprecation_stays v.uses) (member_stays v.uses)

abbrev value_views : Options → List EnumValueDef → List (Text × EnumValue)
value_views o vs = viewed_values (document_choice o) (each_meta enum_item_meta (values_parts vs))

values_same : (o : Options) (vs : List EnumValueDef) → value_views o (map canonical_value (arranged (λ (v : EnumValueDef). v.name) o.sorted_enum_items vs)) ≡ value_views o vs
values_same o vs =
    let by : List (Text × EnumValue) → List (Text × EnumValue) = arranged (λ (e : Text × EnumValue). e.1.name) o.sorted_enum_items in
    ap by (value_entries (map canonical_value (arranged (λ (v : EnumValueDef). v.name) o.sorted_enum_items vs)))
    ∙ resorted canonical_value value_entry (λ (v : EnumValueDef). v.name) (λ (e : Text × EnumValue). e.1.name) o.sorted_enum_items (λ v. refl) (λ v. refl) value_same vs ∙ sym (ap by (value_entries vs))

-- ---- types

-- the scalar of uploaded files has the view of a plain scalar of its name
scalar_meta_is : (head : TypeHead) (t : Bool) → is_upload head ≡ t → type_meta (cond t upload (scalar_parts head)) ≡ type_meta (scalar_parts head)
scalar_meta_is head true e = upload_meta head.name head.description head.uses (both (bytes_eq head.name (codes "Upload")) _ e)
  where
    both : (a b : Bool) → (a && b) ≡ true → (a ≡ true) × (b ≡ true)
    both true b e = (refl, e)
    both false b e = absurd cc

    no_text : (o : Option Text) → is_none o ≡ true → o ≡ None
    no_text None e = refl
    no_text (Some text) e = absurd cc

    nothing : (us : List DirectiveUse) → is_empty us ≡ true → us ≡ []
    nothing [] e = refl
    nothing (u ∷ us) e = absurd cc

    upload_meta : (name : Text) (description : Option Text) (uses : List DirectiveUse) → (bytes_eq name (codes "Upload") ≡ true) × ((is_none description && is_empty uses) ≡ true)
        → type_meta upload ≡ type_meta (scalar_parts (record { name = name; description = description; uses = uses; at = 0 }))
    upload_meta name description uses h =
        let tests = both (is_none description) (is_empty uses) h.1 in
        rw ((bytes_decides name (codes "Upload")).0 h.0, no_text description tests.0, nothing uses tests.1) refl
scalar_meta_is head false e = refl

scalar_is : (root : Option Text) (head : TypeHead) → type_meta (type_of root (definition.Scalar head)) ≡ type_meta (scalar_parts head)
scalar_is root head = scalar_meta_is head (is_upload head) refl

abbrev view_in : Options → Option Text → TypeParts → Meta
view_in o root type = viewed_type (document_choice o) root (type_meta type)

-- its view is that of its canonical form
abbrev IsSame : Options → Option Text → Definition → Type 0
IsSame o root d = view_in o root (type_of root (canonical_type (document_choice o) d)) ≡ view_in o root (type_of root d)

scalar_same : (o : Options) (root : Option Text) (head : TypeHead) → IsSame o root (definition.Scalar head)
scalar_same o root head =
    ap (viewed_type (document_choice o) root) (scalar_is root (with_uses (url_uses (url_in head.uses) ++ invocations_in head.uses) head))
    ∙ ap₂ (λ (url : Option Text) (us : List Invocation). viewed_type (document_choice o) root (scalar_meta (record (new_scalar head.name) { description = head.description; specified_by_url = url; directives = us })))
    (url_stays head.uses) (scalar_stays head.uses)
    ∙ ap (viewed_type (document_choice o) root) (sym (scalar_is root head))

-- types with the same views of their parts
root_views : (o : Options) (root : Option Text) (name : Text) (description : Option Text) (fs gs : List (Text × SubscriptionFieldParts))
    → viewed_fields (document_choice o) (each_meta subscription_field_meta fs) ≡ viewed_fields (document_choice o) (each_meta subscription_field_meta gs)
    → viewed_type (document_choice o) root (subscription_meta (record { name = name; description = description; fields = fs })) ≡ viewed_type (document_choice o) root (subscription_meta (record { name = name; description = description; fields = gs }))
root_views o root name description fs gs e = rw e refl

object_views : (o : Options) (root : Option Text) (name : Text) (description : Option Text) (implements : List Text) (fs gs : List (Text × FieldParts)) (us vs : List Invocation)
    → viewed_fields (document_choice o) (each_meta field_meta fs) ≡ viewed_fields (document_choice o) (each_meta field_meta gs) → us ≡ vs
    → viewed_type (document_choice o) root (object_meta (record (new_object name) { description = description; fields = fs; implements = implements; directives = us }))
    ≡ viewed_type (document_choice o) root (object_meta (record (new_object name) { description = description; fields = gs; implements = implements; directives = vs }))
object_views o root name description implements fs gs us vs e f = rw (e, f) refl

interface_views : (o : Options) (root : Option Text) (name : Text) (description : Option Text) (implements : List Text) (fs gs : List (Text × FieldParts)) (us vs : List Invocation)
    → viewed_fields (document_choice o) (each_meta field_meta fs) ≡ viewed_fields (document_choice o) (each_meta field_meta gs) → us ≡ vs
    → viewed_type (document_choice o) root (interface_meta (record (new_interface name) { description = description; fields = fs; implements = implements; directives = us }))
    ≡ viewed_type (document_choice o) root (interface_meta (record (new_interface name) { description = description; fields = gs; implements = implements; directives = vs }))
interface_views o root name description implements fs gs us vs e f = rw (e, f) refl

enum_views : (o : Options) (root : Option Text) (name : Text) (description : Option Text) (is js : List (Text × EnumItemParts)) (us vs : List Invocation)
    → viewed_values (document_choice o) (each_meta enum_item_meta is) ≡ viewed_values (document_choice o) (each_meta enum_item_meta js) → us ≡ vs
    → viewed_type (document_choice o) root (enum_meta (record (new_enum name) { description = description; items = is; directives = us }))
    ≡ viewed_type (document_choice o) root (enum_meta (record (new_enum name) { description = description; items = js; directives = vs }))
enum_views o root name description is js us vs e f = rw (e, f) refl

input_object_views : (o : Options) (root : Option Text) (name : Text) (description : Option Text) (is js : List (Text × InputValueParts)) (m n : Bool) (us vs : List Invocation)
    → viewed_inputs (document_choice o) (each_meta input_value_meta is) ≡ viewed_inputs (document_choice o) (each_meta input_value_meta js) → m ≡ n → us ≡ vs
    → viewed_type (document_choice o) root (input_object_meta (record (new_input_object name) { description = description; fields = is; oneof = m; directives = us }))
    ≡ viewed_type (document_choice o) root (input_object_meta (record (new_input_object name) { description = description; fields = js; oneof = n; directives = vs }))
input_object_views o root name description is js m n us vs e f g = rw (e, f, g) refl

object_same : (o : Options) (root : Option Text) (head : TypeHead) (implements : List Text) (fields : List FieldDef) (t : Bool)
    → view_in o root (cond t (subscription_parts (canonical_head head) (canonical_fields (document_choice o) fields)) (object_parts (canonical_head head) implements (canonical_fields (document_choice o) fields)))
    ≡ view_in o root (cond t (subscription_parts head fields) (object_parts head implements fields))
object_same o root head implements fields true = root_views o root head.name head.description (subscription_fields_parts (canonical_fields (document_choice o) fields)) (subscription_fields_parts fields) (all_root_fields_same o fields)
object_same o root head implements fields false =
    object_views o root head.name head.description implements (fields_parts (canonical_fields (document_choice o) fields)) (fields_parts fields) (invocations_in (map at_zero (invocations_in head.uses))) (invocations_in head.uses)
    (all_fields_same o fields) (head_stays head.uses)

pub type_same : (o : Options) (root : Option Text) (d : Definition) → IsSame o root d
type_same o root (definition.SchemaBlock roots at) = refl
type_same o root (definition.Scalar head) = scalar_same o root head
type_same o root (definition.Object head implements fields) = object_same o root head implements fields (is_root root head.name)
type_same o root (definition.Interface head implements fields) =
    interface_views o root head.name head.description implements (fields_parts (canonical_fields (document_choice o) fields)) (fields_parts fields) (invocations_in (map at_zero (invocations_in head.uses))) (invocations_in head.uses)
    (all_fields_same o fields) (head_stays head.uses)
type_same o root (definition.Union head members) = ap (λ (us : List Invocation). viewed_type (document_choice o) root (union_meta (record (new_union head.name) { description = head.description; possible_types = members; directives = us }))) (head_stays head.uses)
type_same o root (definition.Enum head values) =
    enum_views o root head.name head.description (values_parts (map canonical_value (arranged (λ (v : EnumValueDef). v.name) o.sorted_enum_items values))) (values_parts values) (invocations_in (map at_zero (invocations_in head.uses)))
    (invocations_in head.uses) (values_same o values) (head_stays head.uses)
type_same o root (definition.Input head fields) =
    input_object_views o root head.name head.description (inputs_parts (map canonical_input (arranged (λ (i : InputDef). i.name) o.sorted_fields fields))) (inputs_parts fields)
    (has_one_of (map at_zero (one_of_uses (has_one_of head.uses) ++ invocations_in head.uses))) (has_one_of head.uses) (invocations_in (map at_zero (one_of_uses (has_one_of head.uses) ++ invocations_in head.uses))) (invocations_in head.uses)
    (inputs_same o.sorted_fields fields) (one_of_stays head.uses) (input_stays head.uses)
type_same o root (definition.Directive directive) = refl

-- ---- names, and implemented names

scalar_name : (head : TypeHead) (t : Bool) → is_upload head ≡ t → type_name (cond t upload (scalar_parts head)) ≡ head.name
scalar_name head true e = sym ((bytes_decides head.name (codes "Upload")).0 (first (bytes_eq head.name (codes "Upload")) _ e))
  where
    first : (a b : Bool) → (a && b) ≡ true → a ≡ true
    first true b e = refl
    first false b e = absurd cc
scalar_name head false e = refl

object_name : (head other : TypeHead) (implements : List Text) (fields others : List FieldDef) (t : Bool) → head.name ≡ other.name
    → type_name (cond t (subscription_parts head fields) (object_parts head implements fields)) ≡ type_name (cond t (subscription_parts other others) (object_parts other implements others))
object_name head other implements fields others true e = e
object_name head other implements fields others false e = e

pub name_same : (choice : Choice) (root : Option Text) (d : Definition) → type_name (type_of root (canonical_type choice d)) ≡ type_name (type_of root d)
name_same choice root (definition.SchemaBlock roots at) = refl
name_same choice root (definition.Scalar head) =
    scalar_name (with_uses (url_uses (url_in head.uses) ++ invocations_in head.uses) head) (is_upload (with_uses (url_uses (url_in head.uses) ++ invocations_in head.uses) head)) refl ∙ sym (scalar_name head (is_upload head) refl)
name_same choice root (definition.Object head implements fields) = object_name (canonical_head head) head implements (canonical_fields choice fields) fields (is_root root head.name) refl
name_same choice root (definition.Interface head implements fields) = refl
name_same choice root (definition.Union head members) = refl
name_same choice root (definition.Enum head values) = refl
name_same choice root (definition.Input head fields) = refl
name_same choice root (definition.Directive directive) = refl

no_interfaces : (head : TypeHead) (t : Bool) → interfaces (cond t upload (scalar_parts head)) ≡ []
no_interfaces head true = refl
no_interfaces head false = refl

object_interfaces : (head other : TypeHead) (implements : List Text) (fields others : List FieldDef) (t : Bool)
    → interfaces (cond t (subscription_parts head fields) (object_parts head implements fields)) ≡ interfaces (cond t (subscription_parts other others) (object_parts other implements others))
object_interfaces head other implements fields others true = refl
object_interfaces head other implements fields others false = refl

pub interfaces_same : (choice : Choice) (root : Option Text) (d : Definition) → interfaces (type_of root (canonical_type choice d)) ≡ interfaces (type_of root d)
interfaces_same choice root (definition.SchemaBlock roots at) = refl
interfaces_same choice root (definition.Scalar head) =
    no_interfaces (with_uses (url_uses (url_in head.uses) ++ invocations_in head.uses) head) (is_upload (with_uses (url_uses (url_in head.uses) ++ invocations_in head.uses) head)) ∙ sym (no_interfaces head (is_upload head))
interfaces_same choice root (definition.Object head implements fields) = object_interfaces (canonical_head head) head implements (canonical_fields choice fields) fields (is_root root head.name)
interfaces_same choice root (definition.Interface head implements fields) = refl
interfaces_same choice root (definition.Union head members) = refl
interfaces_same choice root (definition.Enum head values) = refl
interfaces_same choice root (definition.Input head fields) = refl
interfaces_same choice root (definition.Directive directive) = refl
