-- What the rules of a schema look at in a canonical form, sorted, is what they look at in the document, sorted.
use Rattle.std.proofs.Common.{◌≡◌, Bool, true, false, cond, not, List, [], ◌∷◌, ◌++◌, filter, map, Option, Some, None, codes, refl, sym, ap, ap₂, ◌∙◌}
use Rattle.std.specs.Prelude.{◌&&◌, ◌||◌}
use Rattle.std.specs.List.{AllByRecursion, filter_map, list_all}
use Rattle.std.specs.Option.{is_none, unwrap_or}
use Rattle.std.specs.Str.{bytes_eq}
use Rattle.gql_text_values.specs.declared.const_value.ConstValue.{ConstValue, out-ConstValue}
use Rattle.gql_text_values.specs.declared.const_value.ConstValue.TheOpen.{ConstValue-F}
use Rattle.gql_text_syntax.specs.declared.operation.OperationType.TheVariants.{Subscription}
use Rattle.gql_text_lexer.specs.Forms.{is_reserved}
use Rattle.gql_text.specs.Owners.{deprecated, specified_by, one_of, is_attribute}
use Rattle.gql_text.specs.Roots.{root_of}
use Rattle.gql_text.specs.declared.document.Definition.{Definition}
use Rattle.gql_text.specs.declared.document.Definition.TheVariants as definition
use Rattle.gql_text.specs.declared.document.DirectiveUse.{DirectiveUse}
use Rattle.gql_text.specs.declared.document.Document.{Document}
use Rattle.gql_text.specs.declared.document.FieldDef.{FieldDef}
use Rattle.gql_text.specs.declared.document.InputDef.{InputDef}
use Rattle.gql_text.specs.declared.document.TypeHead.{TypeHead}
use Rattle.gql_text_values.specs.TypeRefs.{reference}
use Rattle.gql_registry_meta.specs.Parts.{Text, Invocation, is_empty}
use Rattle.gql_dynamic.specs.SchemaTypes.{TypeParts, type_name}
use Rattle.gql_dynamic.specs.SchemaTypes as built
use Rattle.gql_check_rules.specs.Schema.{Input, Field, Schema}
use Rattle.gql_check_rules.specs.Schema as rules
use Rattle.gql_check_rules.specs.Order.{sorted, changed, sorted_field, sorted_fields, sorted_definition, sorted_schema}
use Rattle.gql_check_code.specs.Definitions.{each_of, checked_input_of, checked_inputs_of, checked_field_of, checked_fields_of, checked_subscription_field_of, checked_subscription_fields_of, definition as checked}
use Rattle.gql_publish_document.specs.Document.{document_types, ordered_types, document_schema, query_root, entry_of}
use Rattle.gql_publish_document.specs.Members.{input_parts, inputs_parts, field_parts, fields_parts, subscription_field_parts, subscription_fields_parts}
use Rattle.gql_publish_document.specs.Types.{is_upload, scalar_parts, object_parts, subscription_parts, is_root}
use Rattle.gql_publish_document.specs.Uses.{string_layer, first_string, url_in, invocation, invocations_in}
use Rattle.gql_sdl_view.specs.Options.{Options, Choice, document_choice}
use Rattle.gql_sdl_view.specs.Ordered.{goes_before, arranged}
use Rattle.gql_sdl_rows.specs.Faultless.{on_scalar, is_faultless, attribute_name, are_distinct, is_faultless_use, are_faultless_uses, is_misused, may_specify, is_one_string, is_string, is_string_layer}
use Rattle.gql_sdl_rows.specs.Shown.{url_uses}
use Rattle.gql_publish_canonical.proofs.Canonical.{at_zero, canonical_input, canonical_field, canonical_fields, canonical_head, with_uses, canonical_type, type_of, is_type, canonical}
use Rattle.gql_publish_canonical.proofs.FaultlessCanonical.{canonical_query, canonical_mutation, canonical_subscription}
use Rattle.gql_publish_canonical.proofs.Lists.{arranged_map, all_arranged, all_filter}
use Rattle.gql_publish_canonical.proofs.SameMembers.{one_of_stays}
use Rattle.gql_publish_canonical.proofs.SameTypes.{ordered_in, canonical_ordered, own_ordered}
use Rattle.gql_publish_canonical.proofs.SameViews.{name_same}
use Rattle.gql_publish_order.proofs.Lists.{sorted_is, resorted, twice_mapped}

-- ---- arguments and input fields

abbrev input_entry : InputDef → Text × Input
input_entry i = (i.name, checked_input_of (input_parts i))

inputs_are : (is : List InputDef) → checked_inputs_of (inputs_parts is) ≡ map input_entry is
inputs_are is = twice_mapped (λ (i : InputDef). (i.name, input_parts i)) checked_input_of is

inputs_sorted : (t : Bool) (is : List InputDef) → sorted goes_before (checked_inputs_of (inputs_parts (map canonical_input (arranged (λ (i : InputDef). i.name) t is)))) ≡ sorted goes_before (checked_inputs_of (inputs_parts is))
inputs_sorted t is =
    ap (sorted goes_before) (inputs_are (map canonical_input (arranged (λ (i : InputDef). i.name) t is))) ∙ resorted canonical_input input_entry t (λ i. refl) is ∙ sym (ap (sorted goes_before) (inputs_are is))

-- ---- fields

abbrev field_entry : FieldDef → Text × Field
field_entry f = (f.name, sorted_field goes_before (checked_field_of (field_parts f)))

fields_are : (fs : List FieldDef) → sorted_fields goes_before (checked_fields_of (fields_parts fs)) ≡ sorted goes_before (map field_entry fs)
fields_are fs =
    ap (sorted_fields goes_before) (twice_mapped (λ (f : FieldDef). (f.name, field_parts f)) checked_field_of fs)
    ∙ ap (sorted goes_before) (twice_mapped (λ (f : FieldDef). (f.name, checked_field_of (field_parts f))) (sorted_field goes_before) fs)

root_fields_are : (fs : List FieldDef) → sorted_fields goes_before (checked_subscription_fields_of (subscription_fields_parts fs)) ≡ sorted goes_before (map field_entry fs)
root_fields_are fs =
    ap (sorted_fields goes_before) (twice_mapped (λ (f : FieldDef). (f.name, subscription_field_parts f)) checked_subscription_field_of fs)
    ∙ ap (sorted goes_before) (twice_mapped (λ (f : FieldDef). (f.name, checked_subscription_field_of (subscription_field_parts f))) (sorted_field goes_before) fs)

field_same : (choice : Choice) (f : FieldDef) → field_entry (canonical_field choice f) ≡ field_entry f
field_same choice f = ap (λ (args : List (Text × Input)). (f.name, record { ty = reference f.ty; arguments = args })) (inputs_sorted choice.sorted_arguments f.args)

entries_sorted : (choice : Choice) (fs : List FieldDef) → sorted goes_before (map field_entry (canonical_fields choice fs)) ≡ sorted goes_before (map field_entry fs)
entries_sorted choice fs = resorted (canonical_field choice) field_entry choice.sorted_fields (field_same choice) fs

fields_sorted : (choice : Choice) (fs : List FieldDef) → sorted_fields goes_before (checked_fields_of (fields_parts (canonical_fields choice fs))) ≡ sorted_fields goes_before (checked_fields_of (fields_parts fs))
fields_sorted choice fs = fields_are (canonical_fields choice fs) ∙ entries_sorted choice fs ∙ sym (fields_are fs)

root_fields_sorted : (choice : Choice) (fs : List FieldDef)
    → sorted_fields goes_before (checked_subscription_fields_of (subscription_fields_parts (canonical_fields choice fs))) ≡ sorted_fields goes_before (checked_subscription_fields_of (subscription_fields_parts fs))
root_fields_sorted choice fs = root_fields_are (canonical_fields choice fs) ∙ entries_sorted choice fs ∙ sym (root_fields_are fs)

-- ---- the scalar of uploaded files

both : (a b : Bool) → (a && b) ≡ true → (a ≡ true) × (b ≡ true)
both true b e = (refl, e)
both false b e = absurd cc

more_uses : (o : Option Text) (u : Invocation) (us : List Invocation) → is_empty (map at_zero (url_uses o ++ u ∷ us)) ≡ false
more_uses None u us = refl
more_uses (Some url) u us = refl

with_url : (o : Option Text) (us : List Invocation) → is_none o ≡ false → is_empty (map at_zero (url_uses o ++ us)) ≡ false
with_url None us e = absurd cc
with_url (Some url) us e = refl

string_there : (l : ConstValue-F ConstValue) → is_string_layer l ≡ true → is_none (string_layer l) ≡ false
string_there (ConstValue-F.String text) e = refl
string_there _ e = absurd cc

one_string : (name : Text) (args : List (Text × ConstValue)) → is_one_string name args ≡ true → is_none (first_string args) ≡ false
one_string name [] e = absurd cc
one_string name (a ∷ []) e = string_there (out-ConstValue a.1) (both (bytes_eq a.0 name) (is_string a.1) e).1
one_string name (a ∷ b ∷ args) e = absurd cc

specifies : (d s o m : Bool) → (d || (s || o)) ≡ true → ((d && true) || ((s && not m) || (o && true))) ≡ false → (s ≡ true) × (m ≡ true)
specifies true s o m e f = absurd cc
specifies false true o true e f = (refl, refl)
specifies false true o false e f = absurd cc
specifies false false true m e f = absurd cc
specifies false false false m e f = absurd cc

no : (b : Bool) → not b ≡ true → b ≡ false
no true e = absurd cc
no false e = refl

-- an attribute of a scalar has a URL
has_url : (u : DirectiveUse) (us : List DirectiveUse) → is_faultless_use on_scalar u ≡ true → is_attribute u.name ≡ true → is_none (url_in (u ∷ us)) ≡ false
has_url u us e a =
    let fits = no (is_misused on_scalar u) (both (not (is_misused on_scalar u)) _ e).0 in
    let is = specifies (bytes_eq u.name deprecated) (bytes_eq u.name specified_by) (bytes_eq u.name one_of) (may_specify on_scalar u.args) a fits in
    rw is.0 (one_string (codes "url") u.args is.1)

-- the canonical form of a scalar has a use exactly where the scalar has one
uses_stay : (us : List DirectiveUse) → are_faultless_uses on_scalar us ≡ true → is_empty (map at_zero (url_uses (url_in us) ++ invocations_in us)) ≡ is_empty us
uses_stay [] e = refl
uses_stay (u ∷ us) e = by_test (is_attribute u.name) refl
  where
    first : is_faultless_use on_scalar u ≡ true
    first = (both (is_faultless_use on_scalar u) (list_all (is_faultless_use on_scalar) us) (both (are_distinct (filter_map attribute_name (u ∷ us))) (list_all (is_faultless_use on_scalar) (u ∷ us)) e).1).0

    by_test : (t : Bool) → is_attribute u.name ≡ t → is_empty (map at_zero (url_uses (url_in (u ∷ us)) ++ invocations_in (u ∷ us))) ≡ false
    by_test true a = with_url (url_in (u ∷ us)) (invocations_in (u ∷ us)) (has_url u us first a)
    by_test false a = rw a (more_uses (url_in (u ∷ us)) (invocation u) (invocations_in us))

abbrev scalar_head : TypeHead → TypeHead
scalar_head head = with_uses (url_uses (url_in head.uses) ++ invocations_in head.uses) head

upload_stays : (head : TypeHead) → are_faultless_uses on_scalar head.uses ≡ true → is_upload (scalar_head head) ≡ is_upload head
upload_stays head e = ap (λ (b : Bool). bytes_eq head.name (codes "Upload") && (is_none head.description && b)) (uses_stay head.uses e)

-- ---- types

-- what the rules look at in a type, sorted
abbrev sorted_type : TypeParts → rules.Definition
sorted_type type = sorted_definition goes_before (checked type)

scalars_sorted : (head other : TypeHead) (t : Bool) → sorted_type (cond t built.upload (scalar_parts head)) ≡ sorted_type (cond t built.upload (scalar_parts other))
scalars_sorted head other true = refl
scalars_sorted head other false = refl

scalar_sorted : (head : TypeHead) → are_faultless_uses on_scalar head.uses ≡ true → sorted_type (cond (is_upload (scalar_head head)) built.upload (scalar_parts (scalar_head head))) ≡ sorted_type (cond (is_upload head) built.upload (scalar_parts head))
scalar_sorted head e = ap (λ (t : Bool). sorted_type (cond t built.upload (scalar_parts (scalar_head head)))) (upload_stays head e) ∙ scalars_sorted (scalar_head head) head (is_upload head)

object_sorted : (choice : Choice) (head : TypeHead) (implements : List Text) (fields : List FieldDef) (t : Bool)
    → sorted_type (cond t (subscription_parts (canonical_head head) (canonical_fields choice fields)) (object_parts (canonical_head head) implements (canonical_fields choice fields)))
    ≡ sorted_type (cond t (subscription_parts head fields) (object_parts head implements fields))
object_sorted choice head implements fields true = ap (λ (fs : List (Text × Field)). rules.subscription fs) (root_fields_sorted choice fields)
object_sorted choice head implements fields false = ap (λ (fs : List (Text × Field)). rules.object fs implements false) (fields_sorted choice fields)

type_sorted : (choice : Choice) (root : Option Text) (d : Definition) → is_faultless root d ≡ true → sorted_type (type_of root (canonical_type choice d)) ≡ sorted_type (type_of root d)
type_sorted choice root (definition.SchemaBlock roots at) e = refl
type_sorted choice root (definition.Scalar head) e = scalar_sorted head (both (not (is_reserved head.name)) (are_faultless_uses on_scalar head.uses) e).1
type_sorted choice root (definition.Object head implements fields) e = object_sorted choice head implements fields (is_root root head.name)
type_sorted choice root (definition.Interface head implements fields) e = ap (λ (fs : List (Text × Field)). rules.interface fs implements) (fields_sorted choice fields)
type_sorted choice root (definition.Union head members) e = refl
type_sorted choice root (definition.Enum head values) e = refl
type_sorted choice root (definition.Input head fields) e = ap₂ (λ (is : List (Text × Input)) (mark : Bool). rules.input_object is mark) (inputs_sorted choice.sorted_fields fields) (one_of_stays head.uses)
type_sorted choice root (definition.Directive directive) e = refl

-- ---- all types

abbrev type_entry : TypeParts → Text × rules.Definition
type_entry type = (type_name type, sorted_type type)

-- what the rules look at in types, sorted, stands in name order
types_are : (ts : List TypeParts) → sorted goes_before (changed (sorted_definition goes_before) (each_of checked (map entry_of ts))) ≡ map type_entry (arranged type_name true ts)
types_are ts =
    ap (λ (es : List (Text × rules.Definition)). sorted goes_before (changed (sorted_definition goes_before) es)) (twice_mapped entry_of checked ts)
    ∙ ap (sorted goes_before) (twice_mapped (λ (t : TypeParts). (type_name t, checked t)) (sorted_definition goes_before) ts)
    ∙ sorted_is (map type_entry ts) ∙ arranged_map type_entry (λ (e : Text × rules.Definition). e.0) true ts

each_true : {X : Type 0} (test : X → Bool) (xs : List X) → list_all test xs ≡ true → AllByRecursion (λ x. test x ≡ true) xs
each_true test [] e = tt
each_true test (x ∷ xs) e = let tests = both (test x) (list_all test xs) e in (tests.0, each_true test xs tests.1)

entries_same : (choice : Choice) (root : Option Text) (ds : List Definition) → AllByRecursion (λ d. is_faultless root d ≡ true) ds
    → map type_entry (map (λ (d : Definition). type_of root (canonical_type choice d)) ds) ≡ map type_entry (map (type_of root) ds)
entries_same choice root [] a = refl
entries_same choice root (d ∷ ds) a =
    let here : type_entry (type_of root (canonical_type choice d)) ≡ type_entry (type_of root d) = ap₂ (λ (n : Text) (t : rules.Definition). (n, t)) (name_same choice root d) (type_sorted choice root d a.0) in
    ap₂ (λ (e : Text × rules.Definition) (l : List (Text × rules.Definition)). e ∷ l) here (entries_same choice root ds a.1)

types_same : (o : Options) (d : Document) → list_all (is_faultless (root_of Subscription d)) d.definitions ≡ true → map type_entry (ordered_types (canonical o d)) ≡ map type_entry (ordered_types d)
types_same o d e =
    let root : Option Text = root_of Subscription d in
    let faultless : Definition → Type 0 = λ c. is_faultless root c ≡ true in
    let all = all_arranged faultless (λ (c : Definition). type_name (type_of root c)) true (filter (is_type root) d.definitions) (all_filter faultless (is_type root) d.definitions (each_true (is_faultless root) d.definitions e)) in
    ap (map type_entry) (canonical_ordered o d) ∙ entries_same (document_choice o) root (ordered_in d) all ∙ sym (ap (map type_entry) (own_ordered d))

-- a schema of these parts
abbrev schema_of : List (Text × rules.Definition) → Text → Option Text → Option Text → Schema
schema_of types query mutation subscription = record { types = types; query = query; mutation = mutation; subscription = subscription }

schema_made : (ts us : List (Text × rules.Definition)) (q r : Text) (m n s t : Option Text) → ts ≡ us → q ≡ r → m ≡ n → s ≡ t → schema_of ts q m s ≡ schema_of us r n t
schema_made ts us q r m n s t a b c d = rw (a, b, c, d) refl

-- the canonical form has the same types, fields and arguments, apart from their order
pub schema_same : (o : Options) (d : Document) → list_all (is_faultless (root_of Subscription d)) d.definitions ≡ true
    → sorted_schema goes_before (document_schema (canonical o d)) ≡ sorted_schema goes_before (document_schema d)
schema_same o d e =
    let query : query_root (canonical o d) ≡ query_root d = ap (λ (r : Option Text). unwrap_or r []) (canonical_query o d) in
    schema_made _ _ _ _ _ _ _ _ (types_are (document_types (canonical o d)) ∙ types_same o d e ∙ sym (types_are (document_types d))) query (canonical_mutation o d) (canonical_subscription o d)
