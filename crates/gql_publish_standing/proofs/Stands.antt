-- What the registry of a schema holds stands for the document that the schema was made of.
use Rattle.std.proofs.Common.{◌≡◌, Bool, true, false, cond, List, [], ◌∷◌, ◌++◌, map, refl, ap, ap₂, sym, subst, ◌∙◌, Some, None}
use Rattle.std.specs.Prelude.{ℕ, Ok, option_and_then}
use Rattle.std.specs.declared.option.Option.{Option}
use Rattle.std.specs.Option.{option_map, option_map_or, option_or}
use Rattle.std.specs.List.{IsDistinct}
use Rattle.std.specs.Map.{keys_of}
use Rattle.std.specs.Str.{bytes_eq}
use Rattle.std.proofs.lemmas.Slice.Eq.{bytes_eq-Decides}
use Rattle.gql_text.specs.declared.document.Document.{Document}
use Rattle.gql_registry_meta.specs.Parts.{Text, at_text, Meta, name_of}
use Rattle.gql_registry.specs.Registry.{implements_listed}
use Rattle.gql_registry.specs.Additions.{directive, missing_type, query_field, all_made}
use Rattle.gql_registry.specs.System.{system_directives, system_scalars, skip, include, deprecated, specified_by, one_of}
use Rattle.gql_registry.specs.Introspection.{introspection_types, query_fields}
use Rattle.gql_dynamic_types.specs.Types.{InterfaceParts, interface_meta}
use Rattle.gql_dynamic.specs.SchemaTypes.{TypeParts, scalar, object, input_object, enum, interface, union, subscription, upload, type_name, type_meta, interfaces}
use Rattle.gql_check_rules.specs.Schema.{interface_fields}
use Rattle.gql_check_rules.specs.Rules.{first_fault}
use Rattle.gql_check_code.specs.Definitions.{definition}
use Rattle.gql_check.specs.Recorded.{Recorded, types_in, type_step, roots_alone, system_contents, type_contents, directive_contents, possible_contents, schema_contents}
use Rattle.gql_check.specs.Implementers.{implementers, possible_among}
use Rattle.gql_check.proofs.RegistrySteps.{all_made-append}
use Rattle.gql_check.proofs.Implementers.{knows_implementers}
use Rattle.gql_publish_document.specs.Document.{document_types, document_directives, document_parts, document_schema, document_recorded, query_root, entry_of}
use Rattle.gql_publish_document.specs.Clean.{IsClean}
use Rattle.gql_publish_document.specs.Verdict.{HasVerdict}
use Rattle.gql_publish_document.proofs.Cleanness.{is_clean}
use Rattle.gql_publish_document.specs.Standing.{StandsFor, with_query_fields, registered, own_types, by_name, directive_under, implements_under}
use Rattle.gql_text.specs.Roots.{root_of}
use Rattle.gql_text_syntax.specs.declared.operation.OperationType.TheVariants.{Subscription}
use Rattle.gql_publish_standing.proofs.Additions.{kept-steps, kept-possible, kept-introspection, kept-system, beside_schema, directives_added}
use Rattle.gql_publish_standing.proofs.Ascending.{ascends_schema}
use Rattle.gql_publish_standing.proofs.Listed.{implements_added, none_listed, distinct_interfaces}
use Rattle.gql_publish_standing.proofs.TypesUnder.{named, missing_added, types_added, possible_apart, query_apart, query_root_fields}
use Rattle.gql_publish_standing.proofs.Kept.{query_object, query_unreserved, undeclared}

-- ---- types under their names

entries_types : (ts : List TypeParts) → map (λ e. e.1) (map entry_of ts) ≡ ts
entries_types [] = refl
entries_types (t ∷ ts) = ap (λ l. t ∷ l) (entries_types ts)

entries_keys : (ts : List TypeParts) → keys_of (map entry_of ts) ≡ map type_name ts
entries_keys [] = refl
entries_keys (t ∷ ts) = ap (λ l. type_name t ∷ l) (entries_keys ts)

entries_own : (ts : List TypeParts) → map (λ entry. type_name entry.1) (map entry_of ts) ≡ keys_of (map entry_of ts)
entries_own [] = refl
entries_own (t ∷ ts) = ap (λ l. type_name t ∷ l) (entries_own ts)

found_name : (name : Text) (ts : List TypeParts) (t : TypeParts) → at_text name (map entry_of ts) ≡ Some t → name ≡ type_name t
found_name name [] t e = cc e
found_name name (x ∷ ts) t e = by (bytes_eq name (type_name x)) refl e (found_name name ts t)
  where
    by : (b : Bool) → bytes_eq name (type_name x) ≡ b → cond b (Some x) (at_text name (map entry_of ts)) ≡ Some t → (at_text name (map entry_of ts) ≡ Some t → name ≡ type_name t) → name ≡ type_name t
    by true p e rest =
        let same : x ≡ t = cc e in
        (bytes_eq-Decides name (type_name x)).0 p ∙ ap type_name same
    by false p e rest = rest e

at-append : (name : Text) (xs ys : List Meta) → at_text name (named (xs ++ ys)) ≡ option_or (at_text name (named xs)) (at_text name (named ys))
at-append name [] ys = refl
at-append name (x ∷ xs) ys = by (bytes_eq name (name_of x)) (at-append name xs ys)
  where
    by : (b : Bool) → at_text name (named (xs ++ ys)) ≡ option_or (at_text name (named xs)) (at_text name (named ys))
        → cond b (Some x) (at_text name (named (xs ++ ys))) ≡ option_or (cond b (Some x) (at_text name (named xs))) (at_text name (named ys))
    by true rest = refl
    by false rest = rest

no_possible : (t : TypeParts) → interface_fields (definition t) ≡ None → (names : List Text) → possible_among names (type_meta t) ≡ type_meta t
no_possible (scalar t) e names = refl
no_possible (object t) e names = refl
no_possible (input_object t) e names = refl
no_possible (enum t) e names = refl
no_possible (interface t) e names = absurd cc
no_possible (union t) e names = refl
no_possible (subscription t) e names = refl
no_possible upload e names = refl

unchanged : (b : Bool) (names : List Text) (p : InterfaceParts) → with_query_fields b (possible_among names (interface_meta p)) ≡ possible_among names (interface_meta p)
unchanged true names p = refl
unchanged false names p = refl

system_under : (recorded : Recorded) (name : Text) → at_text name (system_contents recorded).types ≡ at_text name (named system_scalars)
system_under recorded name =
    let directed = all_made (roots_alone recorded) (map directive system_directives) in
    ap (λ contents. at_text name contents.types) (all_made-append (roots_alone recorded) (map directive system_directives) (map missing_type system_scalars))
    ∙ missing_added name system_scalars directed
    ∙ ap (λ types. option_or (at_text name types) (at_text name (named system_scalars))) (kept-steps (λ contents. contents.types) directive (λ d before. refl) system_directives (roots_alone recorded))

module _ (d : Document) (clean : IsClean d) (kept : first_fault (document_schema d) ≡ None) (name : Text) where
  -- before introspection is added, where no interface stands under the name
  possible_under : option_and_then interface_fields (option_map definition (at_text name (document_parts d).types)) ≡ None
      → at_text name (possible_contents (document_recorded d)).types ≡ option_or (option_map type_meta (at_text name (document_parts d).types)) (at_text name (named system_scalars))
  possible_under none =
      let recorded = document_recorded d in
      possible_apart name (types_in (document_parts d)) (directive_contents recorded) (undeclared (document_parts d) kept name none)
      ∙ ap (at_text name) (kept-steps (λ contents. contents.types) directive (λ d before. refl) (document_directives d) (type_contents recorded))
      ∙ ap (λ ts. at_text name (all_made (system_contents recorded) (map type_step ts)).types) (entries_types (document_types d))
      ∙ types_added name (document_types d) (system_contents recorded) clean.types
      ∙ ap (option_or (option_map type_meta (at_text name (document_parts d).types))) (system_under recorded name)

  told_query : (all_made (possible_contents (document_recorded d)) (map missing_type introspection_types)).query ≡ query_root d
  told_query =
      let recorded = document_recorded d in
      kept-steps (λ contents. contents.query) missing_type (λ t before. refl) introspection_types (possible_contents recorded)
      ∙ kept-possible (λ contents. contents.query) (λ i n before. refl) (types_in recorded.schema) (directive_contents recorded)
      ∙ kept-steps (λ contents. contents.query) directive (λ d before. refl) recorded.directives (type_contents recorded)
      ∙ kept-steps (λ contents. contents.query) type_step (λ t before. refl) (types_in recorded.schema) (system_contents recorded)
      ∙ kept-system (λ contents. contents.query) (λ d before. refl) (λ t before. refl) (roots_alone recorded)

  described_under : option_and_then interface_fields (option_map definition (at_text name (document_parts d).types)) ≡ None
      → at_text name (all_made (possible_contents (document_recorded d)) (map missing_type introspection_types)).types
      ≡ option_or (option_or (option_map type_meta (at_text name (document_parts d).types)) (at_text name (named system_scalars))) (at_text name (named introspection_types))
  described_under none = missing_added name introspection_types (possible_contents (document_recorded d))
      ∙ ap (λ o. option_or o (at_text name (named introspection_types))) (possible_under none)

  apart_query : bytes_eq name (query_root d) ≡ false → at_text name (schema_contents (document_recorded d)).types ≡ at_text name (all_made (possible_contents (document_recorded d)) (map missing_type introspection_types)).types
  apart_query apart =
      let possible = possible_contents (document_recorded d) in
      ap (λ contents. at_text name contents.types) (all_made-append possible (map missing_type introspection_types) (map query_field query_fields))
      ∙ query_apart name query_fields (all_made possible (map missing_type introspection_types)) (ap (bytes_eq name) told_query ∙ apart)

  registered_is : (t : TypeParts) (b : Bool) → at_text name (document_parts d).types ≡ Some t → interface_fields (definition t) ≡ None → bytes_eq name (query_root d) ≡ b → registered d t ≡ with_query_fields b (type_meta t)
  registered_is t b found none p = ap₂ with_query_fields
      (ap (λ n. bytes_eq n (query_root d)) (sym (found_name name (document_types d) t found)) ∙ p)
      (no_possible t none (implementers (type_name t) (document_parts d)))

  none_told : (o : Option TypeParts) (t : TypeParts) → o ≡ Some t → interface_fields (definition t) ≡ None → option_and_then interface_fields (option_map definition o) ≡ None
  none_told o t found none = ap (λ o. option_and_then interface_fields (option_map definition o)) found ∙ none

  -- a type that is no interface
  other_under : (t : TypeParts) → at_text name (document_parts d).types ≡ Some t → interface_fields (definition t) ≡ None → at_text name (schema_contents (document_recorded d)).types ≡ Some (registered d t)
  other_under t found none = by (bytes_eq name (query_root d)) refl
    where
      described : at_text name (all_made (possible_contents (document_recorded d)) (map missing_type introspection_types)).types ≡ Some (type_meta t)
      described = described_under (none_told (at_text name (document_parts d).types) t found none)
          ∙ ap (λ o. option_or (option_or (option_map type_meta o) (at_text name (named system_scalars))) (at_text name (named introspection_types))) found

      by : (b : Bool) → bytes_eq name (query_root d) ≡ b → at_text name (schema_contents (document_recorded d)).types ≡ Some (registered d t)
      by false p = apart_query p ∙ described ∙ ap (λ m. Some m) (sym (registered_is t false found none p))
      by true p =
          let same : name ≡ query_root d = (bytes_eq-Decides name (query_root d)).0 p in
          let root = query_object (document_parts d) kept in
          let here : at_text name (document_parts d).types ≡ Some (object root.0) = ap (λ n. at_text n (document_parts d).types) same ∙ root.1 in
          let one : t ≡ object root.0 = cc (sym found ∙ here) in
          let possible = possible_contents (document_recorded d) in
          ap (λ contents. at_text name contents.types) (all_made-append possible (map missing_type introspection_types) (map query_field query_fields))
          ∙ query_root_fields name (all_made possible (map missing_type introspection_types)) _ (told_query ∙ sym same) (described ∙ ap (λ t. Some (type_meta t)) one) (query_unreserved (document_parts d) kept root.0 root.1)
          ∙ ap (λ m. Some m) (sym (registered_is t true found none p ∙ ap (λ t. with_query_fields true (type_meta t)) one))

  interface_under : (p : InterfaceParts) → at_text name (document_parts d).types ≡ Some (interface p) → at_text name (schema_contents (document_recorded d)).types ≡ Some (registered d (interface p))
  interface_under p found =
      knows_implementers (document_recorded d) (entries_own (document_types d)) (subst (λ names. IsDistinct bytes_eq names) (sym (entries_keys (document_types d))) clean.types) name p found
      ∙ ap (λ n. Some (possible_among (implementers n (document_parts d)) (interface_meta p))) (found_name name (document_types d) (interface p) found)
      ∙ ap (λ m. Some m) (sym (unchanged (bytes_eq p.name (query_root d)) (implementers p.name (document_parts d)) p))

  absent_under : at_text name (document_parts d).types ≡ None → at_text name (schema_contents (document_recorded d)).types ≡ at_text name own_types
  absent_under absent =
      apart_query (not_root (bytes_eq name (query_root d)) refl)
      ∙ described_under (ap (λ o. option_and_then interface_fields (option_map definition o)) absent)
      ∙ ap (λ o. option_or (option_or (option_map type_meta o) (at_text name (named system_scalars))) (at_text name (named introspection_types))) absent
      ∙ sym (at-append name system_scalars introspection_types)
    where
      not_root : (b : Bool) → bytes_eq name (query_root d) ≡ b → b ≡ false
      not_root true p =
          let root = query_object (document_parts d) kept in
          let here : at_text name (document_parts d).types ≡ Some (object root.0) = ap (λ n. at_text n (document_parts d).types) ((bytes_eq-Decides name (query_root d)).0 p) ∙ root.1 in
          cc (sym absent ∙ here)
      not_root false p = refl

  types_under : (o : Option TypeParts) → at_text name (document_parts d).types ≡ o → at_text name (schema_contents (document_recorded d)).types ≡ option_or (option_map (registered d) o) (at_text name own_types)
  types_under None e = absent_under e
  types_under (Some (scalar t)) e = other_under (scalar t) e refl
  types_under (Some (object t)) e = other_under (object t) e refl
  types_under (Some (input_object t)) e = other_under (input_object t) e refl
  types_under (Some (enum t)) e = other_under (enum t) e refl
  types_under (Some (interface t)) e = interface_under t e
  types_under (Some (union t)) e = other_under (union t) e refl
  types_under (Some (subscription t)) e = other_under (subscription t) e refl
  types_under (Some upload) e = other_under upload e refl

-- ---- directives

distinct_system : IsDistinct bytes_eq (map (λ d. d.name) system_directives)
unfolding IsDistinct skip include deprecated specified_by one_of
distinct_system = ((refl, (refl, (refl, (refl, tt)))), ((refl, (refl, (refl, tt))), ((refl, (refl, tt)), ((refl, tt), (tt, tt)))))

or-nothing : {X : Type 0} (o : Option X) → option_or o None ≡ o
or-nothing None = refl
or-nothing (Some x) = refl

system_directive_under : (recorded : Recorded) (name : Text) → at_text name (system_contents recorded).directives ≡ at_text name (by_name system_directives)
system_directive_under recorded name =
    let directed = all_made (roots_alone recorded) (map directive system_directives) in
    ap (λ contents. at_text name contents.directives) (all_made-append (roots_alone recorded) (map directive system_directives) (map missing_type system_scalars))
    ∙ ap (at_text name) (kept-steps (λ contents. contents.directives) missing_type (λ t before. refl) system_scalars directed)
    ∙ directives_added name system_directives (roots_alone recorded) distinct_system
    ∙ or-nothing (at_text name (by_name system_directives))

directives_under : (d : Document) → IsClean d → (name : Text) → at_text name (schema_contents (document_recorded d)).directives ≡ directive_under d name
directives_under d clean name =
    let recorded = document_recorded d in
    ap (at_text name) (kept-introspection (λ contents. contents.directives) (λ t before. refl) (λ f before. refl) (possible_contents recorded)
    ∙ kept-possible (λ contents. contents.directives) (λ i n before. refl) (types_in recorded.schema) (directive_contents recorded))
    ∙ directives_added name (document_directives d) (type_contents recorded) clean.directives
    ∙ ap (λ directives. option_or (at_text name (by_name (document_directives d))) (at_text name directives)) (kept-steps (λ contents. contents.directives) type_step (λ t before. refl) (types_in recorded.schema) (system_contents recorded))
    ∙ ap (option_or (at_text name (by_name (document_directives d)))) (system_directive_under recorded name)

-- ---- interfaces that types declare

implemented_under : (d : Document) → IsClean d → (name : Text) → implements_listed name (schema_contents (document_recorded d)).implements ≡ implements_under d name
implemented_under d clean name =
    let recorded = document_recorded d in
    let before = system_contents recorded in
    let nothing : before.implements ≡ [] = kept-system (λ contents. contents.implements) (λ d before. refl) (λ t before. refl) (roots_alone recorded) in
    ap (implements_listed name) (kept-introspection (λ contents. contents.implements) (λ t before. refl) (λ f before. refl) (possible_contents recorded)
    ∙ kept-possible (λ contents. contents.implements) (λ i n before. refl) (types_in recorded.schema) (directive_contents recorded)
    ∙ kept-steps (λ contents. contents.implements) directive (λ d before. refl) recorded.directives (type_contents recorded))
    ∙ ap (λ ts. implements_listed name (all_made before (map type_step ts)).implements) (entries_types (document_types d))
    ∙ implements_added name (document_types d) before clean.types (none_listed name before nothing (map type_name (document_types d))) (distinct_interfaces (root_of Subscription d) d.definitions clean.definitions)
    ∙ ap (λ lists. option_map_or interfaces (at_text name (document_parts d).types) (implements_listed name lists)) nothing

-- ---- the law

pub stands_for : (d : Document) → IsClean d → first_fault (document_schema d) ≡ None → StandsFor d (schema_contents (document_recorded d))
stands_for d clean kept =
    let recorded = document_recorded d in
    let beside = beside_schema recorded refl in
    let ordered = ascends_schema recorded in
    record {
      types = λ name. types_under d clean kept name (at_text name (document_parts d).types) refl;
      types_ascend = ordered.0;
      directives = directives_under d clean;
      directives_ascend = ordered.1;
      implements = implemented_under d clean;
      query = ap (λ b. b.0) beside;
      mutation = ap (λ b. b.1) beside;
      subscription = ap (λ b. b.2) beside;
      mode = ap (λ b. b.3) beside;
    }

-- the same of valid bytes
pub stands : (bytes : List ℕ) (d : Document) → HasVerdict bytes (Ok d) → StandsFor d (schema_contents (document_recorded d))
stands bytes d valid = stands_for d (subst IsClean (sym valid.0.stands) (is_clean valid.0.tree valid.0.faultless)) valid.1
