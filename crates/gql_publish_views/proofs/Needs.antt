-- A definition of a directive is needed by the types of a registry where it is needed by those of the document for which the
-- registry stands.
use Rattle.std.proofs.Common.{◌≡◌, Bool, true, false, cond, ◌&&◌, List, [], ◌∷◌, ◌++◌, map, filter, codes, refl, ap, ap₂, sym, subst, ◌∙◌, Option, Some, None}
use Rattle.std.specs.Prelude.{◌||◌, if◌then◌else◌}
use Rattle.std.specs.Option.{option_map, option_or}
use Rattle.std.specs.List.{AllByRecursion, IsDistinct, list_all, list_any}
use Rattle.std.specs.Map.{keys_of, values_of}
use Rattle.std.specs.Str.{bytes_eq}
use Rattle.std.specs.Cmp.Lexicographic.{nat_list_eq_equiv}
use Rattle.std.proofs.lemmas.Map.Keys.{IsDistinct-head, IsDistinct-tail}
use Rattle.std.proofs.lemmas.Map.Text.{is_eq-slice_cmp}
use Rattle.std.proofs.lemmas.Slice.Eq.{bytes_eq-Decides}
use Rattle.std.specs.Ordering.{is_lt, is_eq}
use Rattle.std.specs.declared.cmp.Ordering.{Ordering}
use Rattle.std.specs.declared.cmp.Ordering.TheVariants.{Less, Equal, Greater}
use Rattle.gql_text.specs.declared.document.Document.{Document}
use Rattle.gql_registry_meta.specs.Parts.{Text, text_cmp, at_text, Meta, is_deprecated, Field, Directive}
use Rattle.gql_registry_meta.specs.Parts as meta
use Rattle.gql_registry.specs.Plain.{fields}
use Rattle.gql_registry.specs.Registry.{Contents}
use Rattle.gql_registry.specs.System.{system_scalars}
use Rattle.gql_registry.specs.Introspection.{introspection_types, query_fields, schema_type, type_type, field_type, input_value_type, enum_value_type, directive_type, type_kind_type, directive_location_type, schema_field, type_field}
use Rattle.gql_dynamic.specs.SchemaTypes.{TypeParts, type_name, type_meta}
use Rattle.gql_check.specs.Implementers.{implementers, possible_among}
use Rattle.gql_publish_document.specs.Document.{document_types, document_parts, ordered_types, ordered_metas, query_root, entry_of}
use Rattle.gql_publish_document.specs.Clean.{IsClean}
use Rattle.gql_publish_document.specs.Standing.{StandsFor, IsAscending, with_query_fields, registered, own_types}
use Rattle.gql_publish_canonical.proofs.Orders.{any_arranged}
use Rattle.gql_sdl_view.specs.Ordered.{goes_before}
use Rattle.gql_sdl_view.specs.View.{has_deprecated, has_url, has_one_of, needed}

-- ---- what every schema has needs no definition

own_deprecated : list_any has_deprecated (system_scalars ++ introspection_types) ≡ false
unfolding schema_type type_type field_type input_value_type enum_value_type directive_type type_kind_type directive_location_type
own_deprecated = refl

own_url : list_any has_url (system_scalars ++ introspection_types) ≡ false
unfolding schema_type type_type field_type input_value_type enum_value_type directive_type type_kind_type directive_location_type
own_url = refl

own_one_of : list_any has_one_of (system_scalars ++ introspection_types) ≡ false
unfolding schema_type type_type field_type input_value_type enum_value_type directive_type type_kind_type directive_location_type
own_one_of = refl

-- ---- what is registered for a type needs what the type needs

added_fields : (es : List (Text × Field)) → list_any (λ field. is_deprecated field.deprecation) (values_of (es ++ fields query_fields)) ≡ list_any (λ field. is_deprecated field.deprecation) (values_of es)
unfolding schema_field type_field
added_fields [] = refl
added_fields (e ∷ es) = ap (λ b. is_deprecated e.1.deprecation || b) (added_fields es)

-- what a registry adds to a type leaves this test as it is
abbrev IsLeft : (Meta → Bool) → Type 0
IsLeft test = (b : Bool) (names : List Text) (type : Meta) → test (with_query_fields b (possible_among names type)) ≡ test type

deprecated_left : IsLeft has_deprecated
deprecated_left true names (meta.object type) = added_fields type.fields
deprecated_left true names _ = refl
deprecated_left false names (meta.object type) = refl
deprecated_left false names _ = refl

url_left : IsLeft has_url
url_left true names (meta.object type) = refl
url_left true names _ = refl
url_left false names (meta.object type) = refl
url_left false names _ = refl

one_of_left : IsLeft has_one_of
one_of_left true names (meta.object type) = refl
one_of_left true names _ = refl
one_of_left false names (meta.object type) = refl
one_of_left false names _ = refl

-- ---- names in order are distinct

both : (a b : Bool) → a && b ≡ true → (a ≡ true) × (b ≡ true)
both true b e = (refl, e)
both false b e = absurd cc

earlier_apart : (n m : Text) → goes_before n m ≡ true → bytes_eq n m ≡ false
earlier_apart n m e = sym (is_eq-slice_cmp n m) ∙ by (text_cmp n m) e
  where
    by : (o : Ordering) → is_lt o ≡ true → is_eq o ≡ false
    by Less e = refl
    by Equal e = absurd cc
    by Greater e = refl

all_apart : (n : Text) (names : List Text) → list_all (goes_before n) names ≡ true → AllByRecursion (λ m. bytes_eq n m ≡ false) names
all_apart n [] e = tt
all_apart n (m ∷ ms) e = let parts = both (goes_before n m) (list_all (goes_before n) ms) e in (earlier_apart n m parts.0, all_apart n ms parts.1)

ascending_distinct : (names : List Text) → IsAscending names → IsDistinct bytes_eq names
unfolding IsDistinct
ascending_distinct [] h = tt
ascending_distinct (n ∷ ns) h = (all_apart n ns h.0, ascending_distinct ns h.1)

-- ---- tests of the values of entries

or_right : (a b : Bool) → b ≡ true → a || b ≡ true
or_right true b e = refl
or_right false b e = e

found_apart : {X : Type 0} (n name : Text) (es : List (Text × X)) (x : X) → AllByRecursion (λ m. bytes_eq n m ≡ false) (keys_of es) → at_text name es ≡ Some x → bytes_eq name n ≡ false
found_apart n name [] x apart found = cc found
found_apart n name (e ∷ es) x apart found = by (bytes_eq name e.0) refl found (found_apart n name es x apart.1)
  where
    by : (b : Bool) → bytes_eq name e.0 ≡ b → cond b (Some e.1) (at_text name es) ≡ Some x → (at_text name es ≡ Some x → bytes_eq name n ≡ false) → bytes_eq name n ≡ false
    by true p found rest = ap (λ m. bytes_eq m n) ((bytes_eq-Decides name e.0).0 p) ∙ nat_list_eq_equiv.symm e.0 n ∙ apart.0
    by false p found rest = rest found

-- a value that passes a test, with its name
record IsPassed {X : Type 0} (test : X → Bool) (es : List (Text × X)) : Type 0 where
  name : Text
  value : X
  under : at_text name es ≡ Some value
  passes : test value ≡ true

module _ {X : Type 0} (test : X → Bool) where
  -- what stands under a name is one of the values
  any_there : (name : Text) (es : List (Text × X)) (x : X) → at_text name es ≡ Some x → test x ≡ true → list_any test (values_of es) ≡ true
  any_there name [] x found p = cc found
  any_there name (e ∷ es) x found p = by (bytes_eq name e.0) found (λ h. any_there name es x h p)
    where
      by : (b : Bool) → cond b (Some e.1) (at_text name es) ≡ Some x → (at_text name es ≡ Some x → list_any test (values_of es) ≡ true) → test e.1 || list_any test (values_of es) ≡ true
      by true found rest =
          let same : e.1 ≡ x = cc found in
          ap (λ b. b || list_any test (values_of es)) (ap test same ∙ p)
      by false found rest = or_right (test e.1) (list_any test (values_of es)) (rest found)

  -- under distinct names each value is found
  any_found : (es : List (Text × X)) → IsDistinct bytes_eq (keys_of es) → list_any test (values_of es) ≡ true → IsPassed test es
  any_found [] distinct h = absurd cc
  any_found (e ∷ es) distinct h = by (test e.1) refl h (any_found es (IsDistinct-tail bytes_eq e.0 (keys_of es) distinct))
    where
      by : (b : Bool) → test e.1 ≡ b → b || list_any test (values_of es) ≡ true → (list_any test (values_of es) ≡ true → IsPassed test es) → IsPassed test (e ∷ es)
      by true p h rest = record { name = e.0; value = e.1; under = ap (λ b. cond b (Some e.1) (at_text e.0 es)) ((bytes_eq-Decides e.0 e.0).1 refl); passes = p }
      by false p h rest =
          let later = rest h in
          let away = found_apart e.0 later.name es later.value (IsDistinct-head bytes_eq e.0 (keys_of es) distinct) later.under in
          record { name = later.name; value = later.value; under = ap (λ b. cond b (Some e.1) (at_text later.name es)) away ∙ later.under; passes = later.passes }

any_map : {X Y : Type 0} (change : X → Y) (test : Y → Bool) (xs : List X) → list_any test (map change xs) ≡ list_any (λ x. test (change x)) xs
any_map change test [] = refl
any_map change test (x ∷ xs) = ap (λ b. test (change x) || b) (any_map change test xs)

alike : (a b : Bool) → (a ≡ true → b ≡ true) → (b ≡ true → a ≡ true) → a ≡ b
alike true b to from = sym (to refl)
alike false true to from = from refl
alike false false to from = refl

-- ---- the types of a registry, and those of the document

entries_keys : (ts : List TypeParts) → keys_of (map entry_of ts) ≡ map type_name ts
entries_keys [] = refl
entries_keys (t ∷ ts) = ap (λ l. type_name t ∷ l) (entries_keys ts)

entries_types : (ts : List TypeParts) → values_of (map entry_of ts) ≡ ts
entries_types [] = refl
entries_types (t ∷ ts) = ap (λ l. t ∷ l) (entries_types ts)

module _ (test : Meta → Bool) (own : list_any test (system_scalars ++ introspection_types) ≡ false) (left : IsLeft test) (d : Document) (contents : Contents) (clean : IsClean d) (stands : StandsFor d contents) where
  -- a test of what is registered for a type of the document
  abbrev of_parts : TypeParts → Bool
  of_parts type = test (type_meta type)

  of_document : list_any test (ordered_metas d) ≡ list_any of_parts (values_of (document_parts d).types)
  of_document = any_map type_meta test (ordered_types d) ∙ any_arranged type_name true of_parts (document_types d) ∙ ap (list_any of_parts) (sym (entries_types (document_types d)))

  of_registered : (type : TypeParts) → test (registered d type) ≡ of_parts type
  of_registered type = left (bytes_eq (type_name type) (query_root d)) (implementers (type_name type) (document_parts d)) (type_meta type)

  to_document : list_any test (values_of contents.types) ≡ true → list_any of_parts (values_of (document_parts d).types) ≡ true
  to_document h = by (at_text found.name (document_parts d).types) refl (sym (stands.types found.name) ∙ found.under)
    where
      found : IsPassed test contents.types
      found = any_found test contents.types (ascending_distinct (keys_of contents.types) stands.types_ascend) h

      by : (o : Option TypeParts) → at_text found.name (document_parts d).types ≡ o → option_or (option_map (registered d) o) (at_text found.name own_types) ≡ Some found.value → list_any of_parts (values_of (document_parts d).types) ≡ true
      by (Some type) p e =
          let same : registered d type ≡ found.value = cc e in
          any_there of_parts found.name (document_parts d).types type p (sym (of_registered type) ∙ ap test same ∙ found.passes)
      by None p e =
          let yes : list_any test (system_scalars ++ introspection_types) ≡ true = any_there test found.name own_types found.value e found.passes in
          cc (sym yes ∙ own)

  to_registry : list_any of_parts (values_of (document_parts d).types) ≡ true → list_any test (values_of contents.types) ≡ true
  to_registry h =
      let found = any_found of_parts (document_parts d).types (subst (λ names. IsDistinct bytes_eq names) (sym (entries_keys (document_types d))) clean.types) h in
      any_there test found.name contents.types (registered d found.value)
      (stands.types found.name ∙ ap (λ o. option_or (option_map (registered d) o) (at_text found.name own_types)) found.under)
      (of_registered found.value ∙ found.passes)

  -- a test of any type
  any_type : list_any test (values_of contents.types) ≡ list_any test (ordered_metas d)
  any_type = alike (list_any test (values_of contents.types)) (list_any of_parts (values_of (document_parts d).types)) to_document to_registry ∙ sym of_document

-- ---- the definitions that are needed

-- the definitions that stand in a view of types with a deprecation, with a URL, with a mark
abbrev chosen : (deprecations urls marks : Bool) → List Directive → List Directive
chosen deprecations urls marks directives = filter (λ (directive : Directive).
    if bytes_eq directive.name (codes "deprecated") then deprecations else if bytes_eq directive.name (codes "specifiedBy") then urls else if bytes_eq directive.name (codes "oneOf") then marks else true) directives

module _ (d : Document) (contents : Contents) (clean : IsClean d) (stands : StandsFor d contents) where
  pub needed_same : (directives : List Directive) → needed (values_of contents.types) directives ≡ needed (ordered_metas d) directives
  needed_same directives =
      let deprecations = any_type has_deprecated own_deprecated deprecated_left d contents clean stands in
      let urls = any_type has_url own_url url_left d contents clean stands in
      let marks = any_type has_one_of own_one_of one_of_left d contents clean stands in
      ap₂ (λ a b. chosen a b (list_any has_one_of (values_of contents.types)) directives) deprecations urls
      ∙ ap (λ c. chosen (list_any has_deprecated (ordered_metas d)) (list_any has_url (ordered_metas d)) c directives) marks
