-- The types of the view of a document show those of its canonical form.
use Rattle.std.proofs.Common.{◌≡◌, Bool, true, false, cond, List, [], ◌∷◌, ◌++◌, filter, map, Option, Some, None, codes, refl, sym, ap, ap₂, subst, ◌∙◌}
use Rattle.std.specs.Prelude.{◌&&◌}
use Rattle.std.specs.Cmp.Lexicographic.{bytes_decides}
use Rattle.std.specs.List.{AllByRecursion, filter_map, list_all}
use Rattle.std.specs.Option.{is_none, unwrap_or}
use Rattle.std.specs.Str.{bytes_eq}
use Rattle.gql_text.specs.Owners.{is_attribute}
use Rattle.gql_text.specs.WrittenRoots as w
use Rattle.gql_text.specs.declared.document.Definition.{Definition}
use Rattle.gql_text.specs.declared.document.Definition.TheVariants as definition
use Rattle.gql_text.specs.declared.document.DirectiveUse.{DirectiveUse}
use Rattle.gql_text.specs.declared.document.FieldDef.{FieldDef}
use Rattle.gql_text.specs.declared.document.TypeHead.{TypeHead}
use Rattle.gql_registry_meta.specs.Parts.{Text, Invocation, is_empty}
use Rattle.gql_dynamic.specs.SchemaTypes.{TypeParts, upload, type_name, type_meta, interfaces}
use Rattle.gql_publish_document.specs.Types.{is_upload, scalar_parts, object_parts, subscription_parts, is_root, type_in}
use Rattle.gql_publish_document.specs.Uses.{url_in, has_one_of, invocations_in}
use Rattle.gql_sdl_view.specs.Options.{Options, document_choice}
use Rattle.gql_sdl_view.specs.Ordered.{arranged}
use Rattle.gql_sdl_view.specs.View.{viewed_type}
use Rattle.gql_sdl_rows.specs.Faultless.{is_faultless, is_faultless_like, is_faultless_root, are_attributes}
use Rattle.gql_sdl_rows.specs.Shown.{url_uses, one_of_uses, ShowsType, shows_scalar, shows_object, shows_interface, shows_union, shows_enum, shows_input, ShowsTypes}
use Rattle.gql_publish_canonical.proofs.Canonical.{canonical_type, type_of, is_type, ordered_definitions, canonical_types}
use Rattle.gql_publish_canonical.proofs.Lists.{arranged_map, all_arranged}
use Rattle.gql_publish_canonical.proofs.Members.{shows_uses, input_fields_show, fields_show, HasNoUses, root_fields_show, values_show}

-- ---- what a definition of a type owes

-- the subscription root implements nothing, and it and its fields have no other uses than attributes
pub record IsPlainRoot (head : TypeHead) (implements : List Text) (fields : List FieldDef) : Type 0 where
  pub implements_none : implements ≡ []
  pub uses_none : invocations_in head.uses ≡ []
  pub fields_none : AllByRecursion HasNoUses fields

-- it defines a type, and is plain where it is the subscription root
abbrev pub IsType : Option Text → Definition → Type 0
IsType root (definition.SchemaBlock roots at) = ⊥
IsType root (definition.Directive directive) = ⊥
IsType root (definition.Object head implements fields) = is_root root head.name ≡ true → IsPlainRoot head implements fields
IsType root _ = Unit {0}

both : (a b : Bool) → (a && b) ≡ true → (a ≡ true) × (b ≡ true)
both true b e = (refl, e)
both false b e = absurd cc

nothing : {X : Type 0} (xs : List X) → is_empty xs ≡ true → xs ≡ []
nothing [] e = refl
nothing (x ∷ xs) e = absurd cc

pub no_custom : (us : List DirectiveUse) → are_attributes us ≡ true → invocations_in us ≡ []
no_custom [] e = refl
no_custom (u ∷ us) e =
    let tests = both (is_attribute u.name) (are_attributes us) e in
    rw tests.0 (no_custom us tests.1)

no_custom_fields : (test : FieldDef → Bool) (fs : List FieldDef) → list_all (λ f. test f && are_attributes f.uses) fs ≡ true → AllByRecursion HasNoUses fs
no_custom_fields test [] e = tt
no_custom_fields test (f ∷ fs) e =
    let tests = both (test f && are_attributes f.uses) (list_all (λ f. test f && are_attributes f.uses) fs) e in
    (no_custom f.uses (both (test f) (are_attributes f.uses) tests.0).1, no_custom_fields test fs tests.1)

plain_root : (head : TypeHead) (implements : List Text) (fields : List FieldDef) → is_faultless_root head implements fields ≡ true → IsPlainRoot head implements fields
plain_root head implements fields e =
    let tests = both (is_empty implements) _ e in
    let more = both (are_attributes head.uses) _ tests.1 in
    record { implements_none = nothing implements tests.0; uses_none = no_custom head.uses more.0; fields_none = no_custom_fields _ fields more.1 }

same_root : (root : Option Text) (name : Text) → w.is_root root name ≡ is_root root name
same_root None name = refl
same_root (Some root) name = refl

object_type : (root : Option Text) (head : TypeHead) (implements : List Text) (fields : List FieldDef) → is_faultless root (definition.Object head implements fields) ≡ true → is_root root head.name ≡ true → IsPlainRoot head implements fields
object_type root head implements fields e r =
    let root_test = (both (is_faultless_like head implements fields) _ e).1 in
    plain_root head implements fields (taken (w.is_root root head.name) (is_faultless_root head implements fields) root_test (same_root root head.name ∙ r))
  where
    taken : (t b : Bool) → cond t b true ≡ true → t ≡ true → b ≡ true
    taken true b e f = e
    taken false b e f = absurd cc

-- the definitions of types among faultless ones
pub all_types : (root : Option Text) (ds : List Definition) → list_all (is_faultless root) ds ≡ true → AllByRecursion (IsType root) (filter (is_type root) ds)
all_types root [] e = tt
all_types root (definition.SchemaBlock roots at ∷ ds) e = all_types root ds (both (is_faultless root (definition.SchemaBlock roots at)) _ e).1
all_types root (definition.Scalar head ∷ ds) e = (tt, all_types root ds (both (is_faultless root (definition.Scalar head)) _ e).1)
all_types root (definition.Object head implements fields ∷ ds) e =
    let tests = both (is_faultless root (definition.Object head implements fields)) _ e in
    (object_type root head implements fields tests.0, all_types root ds tests.1)
all_types root (definition.Interface head implements fields ∷ ds) e = (tt, all_types root ds (both (is_faultless root (definition.Interface head implements fields)) _ e).1)
all_types root (definition.Union head members ∷ ds) e = (tt, all_types root ds (both (is_faultless root (definition.Union head members)) _ e).1)
all_types root (definition.Enum head values ∷ ds) e = (tt, all_types root ds (both (is_faultless root (definition.Enum head values)) _ e).1)
all_types root (definition.Input head fields ∷ ds) e = (tt, all_types root ds (both (is_faultless root (definition.Input head fields)) _ e).1)
all_types root (definition.Directive directive ∷ ds) e = all_types root ds (both (is_faultless root (definition.Directive directive)) _ e).1

-- ---- one type

-- it shows this definition in canonical form
abbrev ShowsIn : Options → Option Text → TypeParts → Definition → Type 0
ShowsIn o root type d = ShowsType (interfaces type) (viewed_type (document_choice o) root (type_meta type)) (canonical_type (document_choice o) d)

no_text : (o : Option Text) → is_none o ≡ true → o ≡ None
no_text None e = refl
no_text (Some text) e = absurd cc

scalar_shows : (o : Options) (root : Option Text) (head : TypeHead) (t : Bool) → is_upload head ≡ t → ShowsIn o root (cond t upload (scalar_parts head)) (definition.Scalar head)
scalar_shows o root head true e =
    let tests = both (bytes_eq head.name (codes "Upload")) _ e in
    let more = both (is_none head.description) (is_empty head.uses) tests.1 in
    let none : head.uses ≡ [] = nothing head.uses more.1 in
    let uses : List Invocation = url_uses (url_in head.uses) ++ invocations_in head.uses in
    shows_scalar _ _ (record {
      name_is = sym ((bytes_decides head.name (codes "Upload")).0 tests.0);
      description_is = sym (no_text head.description more.0);
      uses = shows_uses uses ∙ ap (λ (us : List DirectiveUse). url_uses (url_in us) ++ invocations_in us) none;
    })
scalar_shows o root head false e = shows_scalar _ _ (record { name_is = refl; description_is = refl; uses = shows_uses (url_uses (url_in head.uses) ++ invocations_in head.uses) })

object_shows : (o : Options) (root : Option Text) (head : TypeHead) (implements : List Text) (fields : List FieldDef) (t : Bool) → (t ≡ true → IsPlainRoot head implements fields)
    → ShowsIn o root (cond t (subscription_parts head fields) (object_parts head implements fields)) (definition.Object head implements fields)
object_shows o root head implements fields true p =
    let plain = p refl in
    shows_object _ _ _ _ (record { name_is = refl; description_is = refl; uses = shows_uses (invocations_in head.uses) ∙ plain.uses_none }) (sym plain.implements_none) (root_fields_show o fields plain.fields_none)
object_shows o root head implements fields false p = shows_object _ _ _ _ (record { name_is = refl; description_is = refl; uses = shows_uses (invocations_in head.uses) }) refl (fields_show o fields)

pub type_shows : (o : Options) (root : Option Text) (d : Definition) → IsType root d → ShowsIn o root (type_of root d) d
type_shows o root (definition.SchemaBlock roots at) h = absurd h
type_shows o root (definition.Scalar head) h = scalar_shows o root head (is_upload head) refl
type_shows o root (definition.Object head implements fields) h = object_shows o root head implements fields (is_root root head.name) h
type_shows o root (definition.Interface head implements fields) h = shows_interface _ _ _ _ (record { name_is = refl; description_is = refl; uses = shows_uses (invocations_in head.uses) }) refl (fields_show o fields)
type_shows o root (definition.Union head members) h = shows_union _ _ _ (record { name_is = refl; description_is = refl; uses = shows_uses (invocations_in head.uses) }) refl
type_shows o root (definition.Enum head values) h = shows_enum _ _ _ (record { name_is = refl; description_is = refl; uses = shows_uses (invocations_in head.uses) }) (values_show o values)
type_shows o root (definition.Input head fields) h =
    shows_input _ _ _ (record { name_is = refl; description_is = refl; uses = shows_uses (one_of_uses (has_one_of head.uses) ++ invocations_in head.uses) }) (input_fields_show o fields)
type_shows o root (definition.Directive directive) h = absurd h

-- ---- all types

each_shows : (o : Options) (root : Option Text) (ds : List Definition) → AllByRecursion (IsType root) ds
    → ShowsTypes (map (viewed_type (document_choice o) root) (map type_meta (map (type_of root) ds))) (map interfaces (map (type_of root) ds)) (map (canonical_type (document_choice o)) ds)
each_shows o root [] a = tt
each_shows o root (d ∷ ds) a = (type_shows o root d a.0, each_shows o root ds a.1)

pub types_are : (root : Option Text) (ds : List Definition) → filter_map (type_in root) ds ≡ map (type_of root) (filter (is_type root) ds)
types_are root [] = refl
types_are root (d ∷ ds) = by_type (type_in root d) refl (types_are root ds)
  where
    by_type : (o : Option TypeParts) → type_in root d ≡ o → filter_map (type_in root) ds ≡ map (type_of root) (filter (is_type root) ds) → filter_map (type_in root) (d ∷ ds) ≡ map (type_of root) (filter (is_type root) (d ∷ ds))
    by_type None e f = rw e f
    by_type (Some type) e f =
        let same : type ≡ type_of root d = sym (ap (λ (o : Option TypeParts). unwrap_or o upload) e) in
        rw e (ap₂ (λ (t : TypeParts) (l : List TypeParts). t ∷ l) same f)

-- the types in name order
pub ordered_are : (root : Option Text) (ds : List Definition) → arranged type_name true (filter_map (type_in root) ds) ≡ map (type_of root) (ordered_definitions root ds)
ordered_are root ds = ap (arranged type_name true) (types_are root ds) ∙ arranged_map (type_of root) type_name true (filter (is_type root) ds)

pub types_show : (o : Options) (root : Option Text) (ds : List Definition) → list_all (is_faultless root) ds ≡ true
    → ShowsTypes (map (viewed_type (document_choice o) root) (map type_meta (arranged type_name true (filter_map (type_in root) ds)))) (map interfaces (arranged type_name true (filter_map (type_in root) ds)))
    (canonical_types (document_choice o) root ds)
types_show o root ds e =
    let cs : List Definition = ordered_definitions root ds in
    let all = all_arranged (IsType root) (λ (d : Definition). type_name (type_of root d)) true (filter (is_type root) ds) (all_types root ds e) in
    subst (λ (ts : List TypeParts). ShowsTypes (map (viewed_type (document_choice o) root) (map type_meta ts)) (map interfaces ts) (canonical_types (document_choice o) root ds)) (sym (ordered_are root ds)) (each_shows o root cs all)
