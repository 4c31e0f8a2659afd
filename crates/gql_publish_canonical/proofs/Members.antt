-- The members of a type in a view show those of its canonical form.
use Rattle.std.proofs.Common.{◌≡◌, Bool, List, [], ◌∷◌, ◌++◌, map, refl, sym, ap, subst, ◌∙◌}
use Rattle.std.specs.List.{AllByRecursion, AllZip}
use Rattle.std.specs.Map.{values_of}
use Rattle.std.proofs.lemmas.Simd.{map-map}
use Rattle.gql_text.specs.declared.document.EnumValueDef.{EnumValueDef}
use Rattle.gql_text.specs.declared.document.FieldDef.{FieldDef}
use Rattle.gql_text.specs.declared.document.InputDef.{InputDef}
use Rattle.gql_registry_meta.specs.Parts.{Text, Invocation, InputValue, Field, EnumValue}
use Rattle.gql_parts.specs.Builders.{arguments_meta, field_meta, subscription_field_meta, enum_item_meta}
use Rattle.gql_dynamic_types.specs.Types.{each_meta}
use Rattle.gql_publish_document.specs.Members.{inputs_parts, field_parts, fields_parts, subscription_field_parts, subscription_fields_parts, values_parts, input_meta_of, field_meta_of, subscription_field_meta_of, value_meta_of}
use Rattle.gql_publish_document.specs.Uses.{deprecation_in, invocations_in}
use Rattle.gql_sdl_view.specs.Options.{Options, document_choice}
use Rattle.gql_sdl_view.specs.Ordered.{arranged, changed}
use Rattle.gql_sdl_view.specs.View.{viewed_input_value, viewed_field, viewed_fields, viewed_value, viewed_values, viewed_inputs}
use Rattle.gql_sdl_rows.specs.Shown.{invocation_of, deprecated_uses, ShowsUses, ShowsInput, ShowsField, ShowsValue}
use Rattle.gql_publish_canonical.proofs.Canonical.{at_zero, member_uses, canonical_input, canonical_field, canonical_fields, canonical_value}
use Rattle.gql_publish_canonical.proofs.Lists.{arranged_values, all_arranged, zip_maps, filter_all, anything}

-- uses at the place 0 show themselves
pub shows_uses : (us : List Invocation) → ShowsUses us (map at_zero us)
shows_uses us = map-map invocation_of at_zero us ∙ same us
  where
    same : (us : List Invocation) → map (λ (u : Invocation). u) us ≡ us
    same [] = refl
    same (u ∷ us) = ap (λ (l : List Invocation). u ∷ l) (same us)

-- ---- arguments and input fields

input_shows : (i : InputDef) → ShowsInput (viewed_input_value (input_meta_of i)) (canonical_input i)
input_shows i = record { name = refl; description = refl; ty = refl; default = refl; uses = shows_uses (member_uses i.uses) }

-- an argument under its name
abbrev pub input_entry : InputDef → Text × InputValue
input_entry i = (i.name, viewed_input_value (input_meta_of i))

pub input_entries : (is : List InputDef) → changed viewed_input_value (arguments_meta (inputs_parts is)) ≡ map input_entry is
input_entries [] = refl
input_entries (i ∷ is) = ap (λ (l : List (Text × InputValue)). input_entry i ∷ l) (input_entries is)

-- what is arranged by name shows what is arranged by name
inputs_show : (t : Bool) (is : List InputDef) → AllZip ShowsInput (values_of (arranged (λ (e : Text × InputValue). e.1.name) t (changed viewed_input_value (arguments_meta (inputs_parts is))))) (map canonical_input (arranged (λ (i : InputDef). i.name) t is))
inputs_show t is =
    let ys : List InputDef = arranged (λ (i : InputDef). i.name) t is in
    subst (λ (vs : List InputValue). AllZip ShowsInput vs (map canonical_input ys))
    (sym (ap (λ (es : List (Text × InputValue)). values_of (arranged (λ (e : Text × InputValue). e.1.name) t es)) (input_entries is) ∙ arranged_values input_entry (λ (v : InputValue). v.name) t is))
    (zip_maps (λ i. Unit {0}) ShowsInput (λ i. viewed_input_value (input_meta_of i)) canonical_input (λ i p. input_shows i) ys (anything ys))

pub input_fields_show : (o : Options) (is : List InputDef) → AllZip ShowsInput (values_of (viewed_inputs (document_choice o) (arguments_meta (inputs_parts is)))) (map canonical_input (arranged (λ (i : InputDef). i.name) o.sorted_fields is))
input_fields_show o is = inputs_show o.sorted_fields is

-- ---- fields

field_shows : (o : Options) (f : FieldDef) → ShowsField (viewed_field (document_choice o) (field_meta_of f)) (canonical_field (document_choice o) f)
field_shows o f = record { name = refl; description = refl; args = inputs_show o.sorted_arguments f.args; ty = refl; uses = shows_uses (member_uses f.uses) }

module _ (o : Options) (of : FieldDef → Field) where
  abbrev pub field_entry : FieldDef → Text × Field
  field_entry f = (f.name, viewed_field (document_choice o) (of f))

  abbrev pub plain_entry : FieldDef → Text × Field
  plain_entry f = (f.name, of f)

  pub field_entries : (fs : List FieldDef) → viewed_fields (document_choice o) (map plain_entry fs) ≡ arranged (λ (e : Text × Field). e.1.name) o.sorted_fields (map field_entry fs)
  field_entries fs =
      ap (λ (es : List (Text × Field)). arranged (λ (e : Text × Field). e.1.name) o.sorted_fields (changed (viewed_field (document_choice o)) es)) (filter_all (map plain_entry fs))
      ∙ ap (arranged (λ (e : Text × Field). e.1.name) o.sorted_fields) (map-map (λ (e : Text × Field). (e.0, viewed_field (document_choice o) e.1)) plain_entry fs)

module _ (o : Options) (of : FieldDef → Field) (P : FieldDef → Type 0) (shows : (f : FieldDef) → P f → ShowsField (viewed_field (document_choice o) (of f)) (canonical_field (document_choice o) f)) where
  fields_by : (fs : List FieldDef) → AllByRecursion P (arranged (λ (f : FieldDef). (of f).name) o.sorted_fields fs)
      → AllZip ShowsField (values_of (viewed_fields (document_choice o) (map (plain_entry o of) fs))) (map (canonical_field (document_choice o)) (arranged (λ (f : FieldDef). (of f).name) o.sorted_fields fs))
  fields_by fs a =
      let ys : List FieldDef = arranged (λ (f : FieldDef). (of f).name) o.sorted_fields fs in
      subst (λ (vs : List Field). AllZip ShowsField vs (map (canonical_field (document_choice o)) ys))
      (sym (ap values_of (field_entries o of fs) ∙ arranged_values (field_entry o of) (λ (f : Field). f.name) o.sorted_fields fs))
      (zip_maps P ShowsField (λ f. viewed_field (document_choice o) (of f)) (canonical_field (document_choice o)) shows ys a)

-- what is registered for fields, each under its name
pub plain_fields : (fs : List FieldDef) → each_meta field_meta (fields_parts fs) ≡ map (λ (f : FieldDef). (f.name, field_meta_of f)) fs
plain_fields fs = map-map (λ e. (e.0, field_meta e.1)) (λ (f : FieldDef). (f.name, field_parts f)) fs

pub plain_root_fields : (fs : List FieldDef) → each_meta subscription_field_meta (subscription_fields_parts fs) ≡ map (λ (f : FieldDef). (f.name, subscription_field_meta_of f)) fs
plain_root_fields fs = map-map (λ e. (e.0, subscription_field_meta e.1)) (λ (f : FieldDef). (f.name, subscription_field_parts f)) fs

pub fields_show : (o : Options) (fs : List FieldDef) → AllZip ShowsField (values_of (viewed_fields (document_choice o) (each_meta field_meta (fields_parts fs)))) (canonical_fields (document_choice o) fs)
fields_show o fs =
    let ys : List FieldDef = arranged (λ (f : FieldDef). f.name) o.sorted_fields fs in
    subst (λ (es : List (Text × Field)). AllZip ShowsField (values_of (viewed_fields (document_choice o) es)) (canonical_fields (document_choice o) fs)) (sym (plain_fields fs))
    (fields_by o field_meta_of (λ f. Unit {0}) (λ f p. field_shows o f) fs (anything ys))

-- ---- fields of the subscription root

-- a field with no other uses than attributes
abbrev pub HasNoUses : FieldDef → Type 0
HasNoUses f = invocations_in f.uses ≡ []

root_field_shows : (o : Options) (f : FieldDef) → HasNoUses f → ShowsField (viewed_field (document_choice o) (subscription_field_meta_of f)) (canonical_field (document_choice o) f)
root_field_shows o f e = record {
  name = refl;
  description = refl;
  args = inputs_show o.sorted_arguments f.args;
  ty = refl;
  uses = shows_uses (member_uses f.uses) ∙ ap (λ (l : List Invocation). deprecated_uses (deprecation_in f.uses) ++ l) e;
}

pub root_fields_show : (o : Options) (fs : List FieldDef) → AllByRecursion HasNoUses fs
    → AllZip ShowsField (values_of (viewed_fields (document_choice o) (each_meta subscription_field_meta (subscription_fields_parts fs)))) (canonical_fields (document_choice o) fs)
root_fields_show o fs a =
    subst (λ (es : List (Text × Field)). AllZip ShowsField (values_of (viewed_fields (document_choice o) es)) (canonical_fields (document_choice o) fs)) (sym (plain_root_fields fs))
    (fields_by o subscription_field_meta_of HasNoUses (λ f p. root_field_shows o f p) fs (all_arranged HasNoUses (λ (f : FieldDef). f.name) o.sorted_fields fs a))

-- ---- values of an enum

value_shows : (v : EnumValueDef) → ShowsValue (viewed_value (value_meta_of v)) (canonical_value v)
value_shows v = record { name = refl; description = refl; uses = shows_uses (member_uses v.uses) }

abbrev pub value_entry : EnumValueDef → Text × EnumValue
value_entry v = (v.name, viewed_value (value_meta_of v))

pub value_entries : (vs : List EnumValueDef) → changed viewed_value (each_meta enum_item_meta (values_parts vs)) ≡ map value_entry vs
value_entries [] = refl
value_entries (v ∷ vs) = ap (λ (l : List (Text × EnumValue)). value_entry v ∷ l) (value_entries vs)

pub values_show : (o : Options) (vs : List EnumValueDef) → AllZip ShowsValue (values_of (viewed_values (document_choice o) (each_meta enum_item_meta (values_parts vs)))) (map canonical_value (arranged (λ (v : EnumValueDef). v.name) o.sorted_enum_items vs))
values_show o vs =
    let ys : List EnumValueDef = arranged (λ (v : EnumValueDef). v.name) o.sorted_enum_items vs in
    subst (λ (es : List EnumValue). AllZip ShowsValue es (map canonical_value ys))
    (sym (ap (λ (es : List (Text × EnumValue)). values_of (arranged (λ (e : Text × EnumValue). e.1.name) o.sorted_enum_items es)) (value_entries vs) ∙ arranged_values value_entry (λ (v : EnumValue). v.name) o.sorted_enum_items vs))
    (zip_maps (λ v. Unit {0}) ShowsValue (λ v. viewed_value (value_meta_of v)) canonical_value (λ v p. value_shows v) ys (anything ys))
