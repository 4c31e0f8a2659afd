-- The types that the view of a registry shows are those of the document for which the registry stands.
use Rattle.std.proofs.Common.{◌≡◌, Bool, true, false, cond, ◌||◌, codes, List, [], ◌∷◌, ◌++◌, map, filter, refl, ap, sym, subst, ◌∙◌, Some, None}
use Rattle.std.specs.Prelude.{◌&&◌, not}
use Rattle.std.specs.declared.option.Option.{Option}
use Rattle.std.specs.Option.{option_map, option_or}
use Rattle.std.specs.List.{AllByRecursion}
use Rattle.std.specs.Map.{keys_of, values_of}
use Rattle.std.specs.Str.{bytes_eq}
use Rattle.gql_text_lexer.specs.Forms.{is_reserved}
use Rattle.gql_text.specs.declared.document.Document.{Document}
use Rattle.gql_registry_meta.specs.Parts.{Text, at_text, is_among, Meta, name_of}
use Rattle.gql_registry_meta.specs.Parts as meta
use Rattle.gql_registry.specs.Registry.{Contents}
use Rattle.gql_registry.specs.System.{system_scalars}
use Rattle.gql_registry.specs.Introspection.{introspection_types, schema_type, type_type, field_type, input_value_type, enum_value_type, directive_type, type_kind_type, directive_location_type}
use Rattle.gql_dynamic.specs.SchemaTypes.{TypeParts, type_name, type_meta}
use Rattle.gql_check_rules.specs.Schema.{Schema}
use Rattle.gql_check_rules.specs.Schema as rules
use Rattle.gql_check_rules.specs.Tests.{fault_if, or_else, first_of, first_in}
use Rattle.gql_check_rules.specs.Faults.{already_exists}
use Rattle.gql_check_rules.specs.Rules.{name_fault, existence_fault, roots_fault, object_fault, input_fault, interface_fault, union_fault, first_fault}
use Rattle.gql_check_code.specs.Definitions.{definition, each_of}
use Rattle.gql_check.specs.Implementers.{implementers, possible_among}
use Rattle.gql_check.proofs.RegistrySteps.{name_of-type_meta}
use Rattle.gql_sdl_view.specs.View.{is_system_scalar, is_shown, shown_types}
use Rattle.gql_publish_document.specs.Clean.{IsClean}
use Rattle.gql_publish_document.specs.Document.{document_types, document_parts, document_schema, ordered_types, query_root, entry_of}
use Rattle.gql_publish_document.specs.Standing.{IsAscending, StandsFor, with_query_fields, registered, own_types}
use Rattle.gql_publish_shown.proofs.Entries.{ascending_same, ascending_arranged, entries, keys_entries, values_entries, at_arranged, kept_if, ascending_filter, at_filter, values_filter}

-- ---- the name of what is registered

name_possible : (names : List Text) (m : Meta) → name_of (possible_among names m) ≡ name_of m
name_possible names (meta.scalar type) = refl
name_possible names (meta.object type) = refl
name_possible names (meta.interface type) = refl
name_possible names (meta.union type) = refl
name_possible names (meta.enum type) = refl
name_possible names (meta.input_object type) = refl

name_query : (b : Bool) (m : Meta) → name_of (with_query_fields b m) ≡ name_of m
name_query false m = refl
name_query true (meta.scalar type) = refl
name_query true (meta.object type) = refl
name_query true (meta.interface type) = refl
name_query true (meta.union type) = refl
name_query true (meta.enum type) = refl
name_query true (meta.input_object type) = refl

-- a type of a document is registered under its name
pub name_registered : (d : Document) (t : TypeParts) → name_of (registered d t) ≡ type_name t
name_registered d t =
    let names : List Text = implementers (type_name t) (document_parts d) in
    name_query (bytes_eq (type_name t) (query_root d)) (possible_among names (type_meta t)) ∙ name_possible names (type_meta t) ∙ name_of-type_meta t

-- ---- what every schema has is not shown

-- none of these types is shown
abbrev AreHidden : List Meta → Type 0
AreHidden types = AllByRecursion (λ m. is_shown m ≡ false) types

-- the scalars by their names
scalars_hidden : AreHidden system_scalars
unfolding is_reserved
scalars_hidden = (refl, (refl, (refl, (refl, (refl, tt)))))

-- the types of introspection, since their names are reserved
introspection_hidden : AreHidden introspection_types
unfolding is_reserved schema_type type_type field_type input_value_type enum_value_type directive_type type_kind_type directive_location_type
introspection_hidden = (refl, (refl, (refl, (refl, (refl, (refl, (refl, (refl, tt))))))))

hidden_append : (xs ys : List Meta) → AreHidden xs → AreHidden ys → AreHidden (xs ++ ys)
hidden_append [] ys a b = b
hidden_append (x ∷ xs) ys a b = (a.0, hidden_append xs ys a.1 b)

own_hidden : AreHidden (system_scalars ++ introspection_types)
own_hidden = hidden_append system_scalars introspection_types scalars_hidden introspection_hidden

none_kept : (name : Text) (types : List Meta) → AreHidden types → kept_if is_shown (at_text name (map (λ type. (name_of type, type)) types)) ≡ None
none_kept name [] hidden = refl
none_kept name (m ∷ ms) hidden = by (bytes_eq name (name_of m)) (none_kept name ms hidden.1)
  where
    by : (b : Bool) → kept_if is_shown (at_text name (map (λ type. (name_of type, type)) ms)) ≡ None
        → kept_if is_shown (cond b (Some m) (at_text name (map (λ type. (name_of type, type)) ms))) ≡ None
    by true rest = ap (λ b. cond b (Some m) None) hidden.0
    by false rest = rest

-- ---- what a document defines is shown

no_scalar : (m : Meta) → is_among (name_of m) (map name_of system_scalars) ≡ false → is_system_scalar m ≡ false
no_scalar (meta.scalar type) e = e
no_scalar (meta.object type) e = refl
no_scalar (meta.interface type) e = refl
no_scalar (meta.union type) e = refl
no_scalar (meta.enum type) e = refl
no_scalar (meta.input_object type) e = refl

two_tests : (a b : Bool) → a ≡ false → b ≡ false → not a && not b ≡ true
two_tests true b p q = absurd cc
two_tests false true p q = absurd cc
two_tests false false p q = refl

-- a type of the document, where neither introspection nor the system has its name
shown : (d : Document) (t : TypeParts) → is_reserved (type_name t) ≡ false → is_among (type_name t) (map name_of system_scalars) ≡ false → is_shown (registered d t) ≡ true
shown d t free new =
    let name : type_name t ≡ name_of (registered d t) = sym (name_registered d t) in
    two_tests (is_reserved (name_of (registered d t))) (is_system_scalar (registered d t))
    (subst (λ n. is_reserved n ≡ false) name free)
    (no_scalar (registered d t) (subst (λ n. is_among n (map name_of system_scalars) ≡ false) name new))

other_order : (i f s b x : Bool) → i || (f || (s || (b || (x || false)))) ≡ false → b || (i || (f || (s || (x || false)))) ≡ false
other_order true f s b x e = absurd cc
other_order false true s b x e = absurd cc
other_order false false true b x e = absurd cc
other_order false false false true x e = absurd cc
other_order false false false false x e = e

-- the names of the system's scalars, as the rules list them
not_system : (name : Text) → rules.is_system_scalar name ≡ false → is_among name (map name_of system_scalars) ≡ false
unfolding rules.is_system_scalar
not_system name e = other_order (bytes_eq name (codes "Int")) (bytes_eq name (codes "Float")) (bytes_eq name (codes "String")) (bytes_eq name (codes "Boolean")) (bytes_eq name (codes "ID")) e

-- two tests of which neither finds a fault
pub none_both : {F : Type 0} (a b : Option F) → or_else a b ≡ None → (a ≡ None) × (b ≡ None)
none_both None b e = (refl, e)
none_both (Some x) b e = absurd cc

-- a test that finds none
pub fault_none : {F : Type 0} (b : Bool) (f : F) → fault_if b f ≡ None → b ≡ false
fault_none true f e = absurd cc
fault_none false f e = refl

no_name_fault : (s : Schema) → first_fault s ≡ None → first_in name_fault s.types ≡ None
no_name_fault s kept = (none_both (first_in name_fault s.types) (first_of (existence_fault s ∷ roots_fault s ∷ first_in (object_fault s) s.types ∷ first_in (input_fault s) s.types ∷ first_in (interface_fault s) s.types ∷ first_in (union_fault s) s.types ∷ [])) kept).0

each_shown : (d : Document) (ts : List TypeParts) → AllByRecursion (λ name. is_reserved name ≡ false) (map type_name ts) → first_in name_fault (each_of definition (map entry_of ts)) ≡ None
    → AllByRecursion (λ t. is_shown (registered d t) ≡ true) ts
each_shown d [] free kept = tt
each_shown d (t ∷ ts) free kept =
    let parts = none_both (name_fault (type_name t, definition t)) (first_in name_fault (each_of definition (map entry_of ts))) kept in
    let new = not_system (type_name t) (fault_none (rules.is_system_scalar (type_name t)) (already_exists (type_name t)) parts.0) in
    (shown d t free.0 new, each_shown d ts free.1 parts.1)

-- ---- the law

-- what is shown under a name: the type of the document
shown_under : (d : Document) (name : Text) (ts : List TypeParts) → AllByRecursion (λ t. is_shown (registered d t) ≡ true) ts
    → kept_if is_shown (option_or (option_map (registered d) (at_text name (map entry_of ts))) (at_text name own_types)) ≡ at_text name (entries type_name (registered d) ts)
shown_under d name [] all = none_kept name (system_scalars ++ introspection_types) own_hidden
shown_under d name (t ∷ ts) all = by (bytes_eq name (type_name t)) (shown_under d name ts all.1)
  where
    by : (b : Bool) → kept_if is_shown (option_or (option_map (registered d) (at_text name (map entry_of ts))) (at_text name own_types)) ≡ at_text name (entries type_name (registered d) ts)
        → kept_if is_shown (option_or (option_map (registered d) (cond b (Some t) (at_text name (map entry_of ts)))) (at_text name own_types)) ≡ cond b (Some (registered d t)) (at_text name (entries type_name (registered d) ts))
    by true rest = ap (λ b. cond b (Some (registered d t)) None) all.0
    by false rest = rest

-- The types that the registry's view shows are what is registered for the types of the document, in name order.
pub shown_same : (d : Document) (contents : Contents) → IsClean d → first_fault (document_schema d) ≡ None → StandsFor d contents
    → shown_types contents ≡ map (registered d) (ordered_types d)
shown_same d contents clean kept stands =
    let types : List TypeParts = document_types d in
    let own : IsAscending (keys_of (entries type_name (registered d) (ordered_types d))) =
    subst IsAscending (sym (keys_entries type_name (registered d) (ordered_types d))) (ascending_arranged type_name types clean.types) in
    let all : AllByRecursion (λ t. is_shown (registered d t) ≡ true) types = each_shown d types clean.unreserved (no_name_fault (document_schema d) kept) in
    let same : filter (λ e. is_shown e.1) contents.types ≡ entries type_name (registered d) (ordered_types d) =
    ascending_same (filter (λ e. is_shown e.1) contents.types) (entries type_name (registered d) (ordered_types d)) (ascending_filter is_shown contents.types stands.types_ascend) own
    (λ name. at_filter is_shown name contents.types stands.types_ascend ∙ ap (kept_if is_shown) (stands.types name) ∙ shown_under d name types all ∙ sym (at_arranged type_name (registered d) name types)) in
    sym (values_filter is_shown contents.types) ∙ ap values_of same ∙ values_entries type_name (registered d) (ordered_types d)
