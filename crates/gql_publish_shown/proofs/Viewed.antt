-- What the view of a registry has of each type of a valid document is what the document's view has of it.
use Rattle.std.proofs.Common.{◌≡◌, ℕ, Bool, true, false, cond, List, [], ◌∷◌, ◌++◌, map, filter, refl, ap, ap₂, sym, ◌∙◌, Some, None, Ok}
use Rattle.std.specs.Prelude.{◌&&◌, not}
use Rattle.std.specs.declared.option.Option.{Option}
use Rattle.std.specs.List.{AllByRecursion, filter_map, list_all, find}
use Rattle.std.specs.Str.{bytes_eq}
use Rattle.gql_text_lexer.specs.Forms.{is_reserved}
use Rattle.gql_text_values.specs.TypeRefs.{innermost}
use Rattle.gql_text_syntax.specs.declared.operation.OperationType.TheVariants.{Subscription}
use Rattle.gql_text.specs.Roots.{root_of, is_schema}
use Rattle.gql_text.specs.WrittenRoots.{is_root as is_written_root}
use Rattle.gql_text.specs.declared.document.Definition.{Definition}
use Rattle.gql_text.specs.declared.document.Definition.TheVariants as definition
use Rattle.gql_text.specs.declared.document.Document.{Document}
use Rattle.gql_text.specs.declared.document.FieldDef.{FieldDef}
use Rattle.gql_text.specs.declared.document.TypeHead.{TypeHead}
use Rattle.gql_registry_meta.specs.Parts.{Text, Field, Meta, is_empty}
use Rattle.gql_registry_meta.specs.Parts as meta
use Rattle.gql_registry_meta.specs.declared.type_id.MetaTypeId.TheVariants as kind
use Rattle.gql_registry.specs.Introspection.{query_fields, schema_field, type_field}
use Rattle.gql_registry.specs.Plain.{fields as named_fields}
use Rattle.gql_parts.specs.Builders.{field_meta, subscription_field_meta}
use Rattle.gql_dynamic_types.specs.Types.{each_meta}
use Rattle.gql_dynamic.specs.SchemaTypes.{TypeParts, type_name, type_meta}
use Rattle.gql_dynamic.specs.SchemaTypes as built
use Rattle.gql_check_rules.specs.Schema.{Schema, names_output}
use Rattle.gql_check_rules.specs.Schema as rules
use Rattle.gql_check_rules.specs.Tests.{fault_if, or_else, first_of, first_in}
use Rattle.gql_check_rules.specs.Faults.{Fault, field_underscores, field_output, empty_object}
use Rattle.gql_check_rules.specs.Rules.{name_fault, existence_fault, roots_fault, object_fault, input_fault, interface_fault, union_fault, field_fault, argument_fault, implements_fault, interface_fields_fault, declared_fault, may_be_empty, first_fault}
use Rattle.gql_check_code.specs.Definitions.{definition as checked, each_of, checked_field_of, checked_fields_of}
use Rattle.gql_check.specs.Implementers.{implementers, possible_among}
use Rattle.gql_sdl_view.specs.Options.{Options, document_choice, registry_choice}
use Rattle.gql_sdl_view.specs.Ordered.{arranged, changed}
use Rattle.gql_sdl_view.specs.View.{viewed_field, viewed_fields, viewed_type}
use Rattle.gql_publish_document.specs.Document.{document_types, document_parts, document_schema, ordered_types, ordered_metas, query_root, entry_of}
use Rattle.gql_publish_document.specs.Members.{field_parts, fields_parts, subscription_fields_parts}
use Rattle.gql_publish_document.specs.Standing.{with_query_fields, registered}
use Rattle.gql_publish_document.specs.Types.{type_in, is_upload, is_root, scalar_parts, object_parts, subscription_parts, interface_parts, union_parts, enum_parts, input_object_parts}
use Rattle.gql_publish_document.specs.Verdict.{HasVerdict}
use Rattle.gql_sdl_rows.specs.Faultless.{is_faultless, are_faultless, is_faultless_like, is_faultless_root, are_attributes, are_distinct, type_name as name_in, directive_name, has_one_block, has_query}
use Rattle.gql_sdl_rows.proofs.ReadAgain.{document_is}
use Rattle.gql_publish_shown.proofs.Entries.{all_arranged}
use Rattle.gql_publish_shown.proofs.Shown.{none_both, fault_none}

-- ---- names of fields

-- no field has a reserved name
abbrev AreFree : List FieldDef → Type 0
AreFree fs = AllByRecursion (λ f. is_reserved f.name ≡ false) fs

-- the same of what is registered for them
abbrev AreFreeFields : List (Text × Field) → Type 0
AreFreeFields fs = AllByRecursion (λ f. is_reserved f.1.name ≡ false) fs

fields_free : (fs : List FieldDef) → AreFree fs → AreFreeFields (each_meta field_meta (fields_parts fs))
fields_free [] free = tt
fields_free (f ∷ fs) free = (free.0, fields_free fs free.1)

root_fields_free : (fs : List FieldDef) → AreFree fs → AreFreeFields (each_meta subscription_field_meta (subscription_fields_parts fs))
root_fields_free [] free = tt
root_fields_free (f ∷ fs) free = (free.0, root_fields_free fs free.1)

-- no field of the type has a reserved name
abbrev HasFreeFields : TypeParts → Type 0
HasFreeFields (built.object type) = AreFreeFields (each_meta field_meta type.fields)
HasFreeFields (built.interface type) = AreFreeFields (each_meta field_meta type.fields)
HasFreeFields (built.subscription type) = AreFreeFields (each_meta subscription_field_meta type.fields)
HasFreeFields _ = Unit {0}

-- ---- what the rules say of them

-- the groups of rules that look at fields
record Groups (s : Schema) : Type 0 where
  objects : first_in (object_fault s) s.types ≡ None
  interfaces : first_in (interface_fault s) s.types ≡ None

groups : (s : Schema) → first_fault s ≡ None → Groups s
groups s kept =
    let after_names = none_both (first_in name_fault s.types) (first_of (existence_fault s ∷ roots_fault s ∷ first_in (object_fault s) s.types ∷ first_in (input_fault s) s.types ∷ first_in (interface_fault s) s.types ∷ first_in (union_fault s) s.types ∷ [])) kept in
    let after_existence = none_both (existence_fault s) (first_of (roots_fault s ∷ first_in (object_fault s) s.types ∷ first_in (input_fault s) s.types ∷ first_in (interface_fault s) s.types ∷ first_in (union_fault s) s.types ∷ [])) after_names.1 in
    let after_roots = none_both (roots_fault s) (first_of (first_in (object_fault s) s.types ∷ first_in (input_fault s) s.types ∷ first_in (interface_fault s) s.types ∷ first_in (union_fault s) s.types ∷ [])) after_existence.1 in
    let after_objects = none_both (first_in (object_fault s) s.types) (first_of (first_in (input_fault s) s.types ∷ first_in (interface_fault s) s.types ∷ first_in (union_fault s) s.types ∷ [])) after_roots.1 in
    let after_inputs = none_both (first_in (input_fault s) s.types) (first_of (first_in (interface_fault s) s.types ∷ first_in (union_fault s) s.types ∷ [])) after_objects.1 in
    let after_interfaces = none_both (first_in (interface_fault s) s.types) (first_of (first_in (union_fault s) s.types ∷ [])) after_inputs.1 in
    record { objects = after_objects.0; interfaces = after_interfaces.0 }

module _ (s : Schema) (ty : Text) where
  -- one field
  one_free : (f : FieldDef) → field_fault s ty (f.name, checked_field_of (field_parts f)) ≡ None → is_reserved f.name ≡ false
  one_free f e =
      let own = none_both (fault_if (is_reserved f.name) (field_underscores ty f.name)) (first_of (fault_if (not (names_output s (innermost (checked_field_of (field_parts f)).ty))) (field_output ty f.name)
      ∷ first_in (argument_fault s ty f.name) (checked_field_of (field_parts f)).arguments ∷ [])) e in
      fault_none (is_reserved f.name) (field_underscores ty f.name) own.0

  all_free : (fs : List FieldDef) → first_in (field_fault s ty) (checked_fields_of (fields_parts fs)) ≡ None → AreFree fs
  all_free [] e = tt
  all_free (f ∷ fs) e =
      let parts = none_both (field_fault s ty (f.name, checked_field_of (field_parts f))) (first_in (field_fault s ty) (checked_fields_of (fields_parts fs))) e in
      (one_free f parts.0, all_free fs parts.1)

  object_free : (head : TypeHead) (implements : List Text) (fs : List FieldDef) → object_fault s (ty, checked (object_parts head implements fs)) ≡ None → AreFree fs
  object_free head implements fs e =
      let fields : List (Text × rules.Field) = checked_fields_of (fields_parts fs) in
      let first = none_both (fault_if (is_empty fields && not (may_be_empty s ty)) (empty_object ty)) (first_of (first_in (field_fault s ty) fields ∷ first_in (implements_fault s kind.Object ty fields) implements ∷ [])) e in
      all_free fs (none_both (first_in (field_fault s ty) fields) (first_of (first_in (implements_fault s kind.Object ty fields) implements ∷ [])) first.1).0

  interface_free : (declared : Option Fault) (fs : List FieldDef) → interface_fields_fault s ty declared (checked_fields_of (fields_parts fs)) ≡ None → AreFree fs
  interface_free declared [] e = tt
  interface_free declared (f ∷ fs) e =
      let parts = none_both (field_fault s ty (f.name, checked_field_of (field_parts f))) (or_else declared (first_in (field_fault s ty) (checked_fields_of (fields_parts fs)))) e in
      (one_free f parts.0, all_free fs (none_both declared (first_in (field_fault s ty) (checked_fields_of (fields_parts fs))) parts.1).1)

-- ---- what the reader says of the subscription root

both : (a b : Bool) → (a && b) ≡ true → (a ≡ true) × (b ≡ true)
both true b e = (refl, e)
both false b e = absurd cc

not_true : (a : Bool) → not a ≡ true → a ≡ false
not_true true e = absurd cc
not_true false e = refl

root_free : (fs : List FieldDef) → list_all (λ (f : FieldDef). not (is_reserved f.name) && are_attributes f.uses) fs ≡ true → AreFree fs
root_free [] e = tt
root_free (f ∷ fs) e =
    let parts = both (not (is_reserved f.name) && are_attributes f.uses) (list_all (λ (g : FieldDef). not (is_reserved g.name) && are_attributes g.uses) fs) e in
    (not_true (is_reserved f.name) (both (not (is_reserved f.name)) (are_attributes f.uses) parts.0).0, root_free fs parts.1)

roots_alike : (root : Option Text) (name : Text) → is_written_root root name ≡ is_root root name
roots_alike None name = refl
roots_alike (Some r) name = refl

-- ---- the types of a document

scalar_free : (head : TypeHead) (t : Bool) → HasFreeFields (cond t built.upload (scalar_parts head))
scalar_free head true = tt
scalar_free head false = tt

object_parts_free : (s : Schema) (head : TypeHead) (implements : List Text) (fs : List FieldDef) (t : Bool) → cond t (is_faultless_root head implements fs) true ≡ true
    → object_fault s (type_name (cond t (subscription_parts head fs) (object_parts head implements fs)), checked (cond t (subscription_parts head fs) (object_parts head implements fs))) ≡ None
    → HasFreeFields (cond t (subscription_parts head fs) (object_parts head implements fs))
object_parts_free s head implements fs true read kept =
    let bare = both (is_empty implements) (are_attributes head.uses && list_all (λ (f : FieldDef). not (is_reserved f.name) && are_attributes f.uses) fs) read in
    root_fields_free fs (root_free fs (both (are_attributes head.uses) (list_all (λ (f : FieldDef). not (is_reserved f.name) && are_attributes f.uses) fs) bare.1).1)
object_parts_free s head implements fs false read kept = fields_free fs (object_free s head.name head implements fs kept)

module _ (s : Schema) (root : Option Text) where
  abbrev types_in : List Definition → List TypeParts
  types_in ds = filter_map (type_in root) ds

  abbrev Keeps : (Text × rules.Definition → Option Fault) → List TypeParts → Type 0
  Keeps test ts = first_in test (each_of checked (map entry_of ts)) ≡ None

  later : (test : Text × rules.Definition → Option Fault) (t : TypeParts) (ts : List TypeParts) → Keeps test (t ∷ ts) → (test (type_name t, checked t) ≡ None) × Keeps test ts
  later test t ts e = none_both (test (type_name t, checked t)) (first_in test (each_of checked (map entry_of ts))) e

  types_free : (ds : List Definition) → list_all (is_faultless root) ds ≡ true → Keeps (object_fault s) (types_in ds) → Keeps (interface_fault s) (types_in ds) → AllByRecursion HasFreeFields (types_in ds)
  types_free [] read o i = tt
  types_free (definition.SchemaBlock roots at ∷ ds) read o i = types_free ds (both (is_faultless root (definition.SchemaBlock roots at)) (list_all (is_faultless root) ds) read).1 o i
  types_free (definition.Scalar head ∷ ds) read o i =
      let t : TypeParts = cond (is_upload head) built.upload (scalar_parts head) in (
        scalar_free head (is_upload head),
        types_free ds (both (is_faultless root (definition.Scalar head)) (list_all (is_faultless root) ds) read).1 (later (object_fault s) t (types_in ds) o).1 (later (interface_fault s) t (types_in ds) i).1,
      )
  types_free (definition.Object head implements fs ∷ ds) read o i =
      let t : TypeParts = cond (is_root root head.name) (subscription_parts head fs) (object_parts head implements fs) in
      let tests = both (is_faultless root (definition.Object head implements fs)) (list_all (is_faultless root) ds) read in
      let own = (both (is_faultless_like head implements fs) (cond (is_written_root root head.name) (is_faultless_root head implements fs) true) tests.0).1 in (
        object_parts_free s head implements fs (is_root root head.name) (sym (ap (λ (b : Bool). cond b (is_faultless_root head implements fs) true) (roots_alike root head.name)) ∙ own) (later (object_fault s) t (types_in ds) o).0,
        types_free ds tests.1 (later (object_fault s) t (types_in ds) o).1 (later (interface_fault s) t (types_in ds) i).1,
      )
  types_free (definition.Interface head implements fs ∷ ds) read o i =
      let t : TypeParts = interface_parts head implements fs in (
        fields_free fs (interface_free s head.name (declared_fault s head.name (checked_fields_of (fields_parts fs)) implements) fs (later (interface_fault s) t (types_in ds) i).0),
        types_free ds (both (is_faultless root (definition.Interface head implements fs)) (list_all (is_faultless root) ds) read).1 (later (object_fault s) t (types_in ds) o).1 (later (interface_fault s) t (types_in ds) i).1,
      )
  types_free (definition.Union head members ∷ ds) read o i =
      let t : TypeParts = union_parts head members in
      (tt, types_free ds (both (is_faultless root (definition.Union head members)) (list_all (is_faultless root) ds) read).1 (later (object_fault s) t (types_in ds) o).1 (later (interface_fault s) t (types_in ds) i).1)
  types_free (definition.Enum head values ∷ ds) read o i =
      let t : TypeParts = enum_parts head values in
      (tt, types_free ds (both (is_faultless root (definition.Enum head values)) (list_all (is_faultless root) ds) read).1 (later (object_fault s) t (types_in ds) o).1 (later (interface_fault s) t (types_in ds) i).1)
  types_free (definition.Input head fs ∷ ds) read o i =
      let t : TypeParts = input_object_parts head fs in
      (tt, types_free ds (both (is_faultless root (definition.Input head fs)) (list_all (is_faultless root) ds) read).1 (later (object_fault s) t (types_in ds) o).1 (later (interface_fault s) t (types_in ds) i).1)
  types_free (definition.Directive directive ∷ ds) read o i = types_free ds (both (is_faultless root (definition.Directive directive)) (list_all (is_faultless root) ds) read).1 o i

-- ---- fields that are kept

-- the fields that a registry's view keeps
abbrev is_own : Text × Field → Bool
is_own field = not (is_reserved field.1.name)

schema_dropped : is_own (schema_field.name, schema_field) ≡ false
unfolding is_reserved schema_field
schema_dropped = refl

type_dropped : is_own (type_field.name, type_field) ≡ false
unfolding is_reserved type_field
type_dropped = refl

kept_first : (f : Text × Field) (fs : List (Text × Field)) → is_reserved f.1.name ≡ false → filter is_own (f ∷ fs) ≡ f ∷ filter is_own fs
kept_first f fs e = ap (λ (b : Bool). cond (not b) (f ∷ filter is_own fs) (filter is_own fs)) e

own_kept : (fs : List (Text × Field)) → AreFreeFields fs → filter is_own fs ≡ fs
own_kept [] free = refl
own_kept (f ∷ fs) free = kept_first f fs free.0 ∙ ap (λ (l : List (Text × Field)). f ∷ l) (own_kept fs free.1)

queries_dropped : filter is_own (named_fields query_fields) ≡ []
queries_dropped =
    ap (λ (b : Bool). cond b ((schema_field.name, schema_field) ∷ filter is_own ((type_field.name, type_field) ∷ [])) (filter is_own ((type_field.name, type_field) ∷ []))) schema_dropped
    ∙ ap (λ (b : Bool). cond b ((type_field.name, type_field) ∷ []) []) type_dropped

query_kept : (fs : List (Text × Field)) → AreFreeFields fs → filter is_own (fs ++ named_fields query_fields) ≡ fs
query_kept [] free = queries_dropped
query_kept (f ∷ fs) free = kept_first f (fs ++ named_fields query_fields) free.0 ∙ ap (λ (l : List (Text × Field)). f ∷ l) (query_kept fs free.1)

all_kept : (fs : List (Text × Field)) → filter (λ (f : Text × Field). true) fs ≡ fs
all_kept [] = refl
all_kept (f ∷ fs) = ap (λ (l : List (Text × Field)). f ∷ l) (all_kept fs)

-- ---- types in views

module _ (o : Options) (subscription : Option Text) where
  -- fields in a document's view, where nothing is left out
  abbrev seen : List (Text × Field) → List (Text × Field)
  seen fs = arranged (λ (field : Text × Field). field.1.name) o.sorted_fields (changed (viewed_field (document_choice o)) fs)

  own_seen : (fs : List (Text × Field)) → AreFreeFields fs → viewed_fields (registry_choice (record o { include_specified_by = true })) fs ≡ viewed_fields (document_choice o) fs
  own_seen fs free = ap seen (own_kept fs free) ∙ sym (ap seen (all_kept fs))

  query_seen : (fs : List (Text × Field)) → AreFreeFields fs → viewed_fields (registry_choice (record o { include_specified_by = true })) (fs ++ named_fields query_fields) ≡ viewed_fields (document_choice o) fs
  query_seen fs free = ap seen (query_kept fs free) ∙ sym (ap seen (all_kept fs))

  abbrev in_registry : Meta → Meta
  in_registry m = viewed_type (registry_choice (record o { include_specified_by = true })) subscription m

  abbrev in_document : Meta → Meta
  in_document m = viewed_type (document_choice o) subscription m

  -- a type with these fields
  abbrev with_fields : List (Text × Field) → Meta → Meta
  with_fields fs (meta.object type) = meta.object (record type { fields = fs })
  with_fields fs (meta.interface type) = meta.interface (record type { fields = fs })
  with_fields fs type = type

  -- one type, with the fields of the query root or without them
  one_viewed : (t : TypeParts) (b : Bool) (names : List Text) → HasFreeFields t → in_registry (with_query_fields b (possible_among names (type_meta t))) ≡ in_document (type_meta t)
  one_viewed (built.scalar t) true names free = refl
  one_viewed (built.scalar t) false names free = refl
  one_viewed (built.object t) true names free = ap (λ fs. with_fields fs (in_document (type_meta (built.object t)))) (query_seen (each_meta field_meta t.fields) free)
  one_viewed (built.object t) false names free = ap (λ fs. with_fields fs (in_document (type_meta (built.object t)))) (own_seen (each_meta field_meta t.fields) free)
  one_viewed (built.input_object t) true names free = refl
  one_viewed (built.input_object t) false names free = refl
  one_viewed (built.enum t) true names free = refl
  one_viewed (built.enum t) false names free = refl
  one_viewed (built.interface t) true names free = ap (λ fs. with_fields fs (in_document (type_meta (built.interface t)))) (own_seen (each_meta field_meta t.fields) free)
  one_viewed (built.interface t) false names free = ap (λ fs. with_fields fs (in_document (type_meta (built.interface t)))) (own_seen (each_meta field_meta t.fields) free)
  one_viewed (built.union t) true names free = refl
  one_viewed (built.union t) false names free = refl
  one_viewed (built.subscription t) true names free = ap (λ fs. with_fields fs (in_document (type_meta (built.subscription t)))) (query_seen (each_meta subscription_field_meta t.fields) free)
  one_viewed (built.subscription t) false names free = ap (λ fs. with_fields fs (in_document (type_meta (built.subscription t)))) (own_seen (each_meta subscription_field_meta t.fields) free)
  one_viewed built.upload true names free = refl
  one_viewed built.upload false names free = refl

  all_viewed : (d : Document) (ts : List TypeParts) → AllByRecursion HasFreeFields ts → map in_registry (map (registered d) ts) ≡ map in_document (map type_meta ts)
  all_viewed d [] free = refl
  all_viewed d (t ∷ ts) free = ap₂ (λ (m : Meta) (l : List Meta). m ∷ l)
      (one_viewed t (bytes_eq (type_name t) (query_root d)) (implementers (type_name t) (document_parts d)) free.0) (all_viewed d ts free.1)

-- ---- the law

-- no definition of a document without an owner fault has one
each_faultless : (d : Document) → are_faultless d.definitions ≡ true → list_all (is_faultless (root_of Subscription d)) d.definitions ≡ true
each_faultless d e =
    let ds : List Definition = d.definitions in
    let each : Bool = list_all (is_faultless (root_of Subscription d)) ds in
    let after_types = both (are_distinct (filter_map name_in ds)) (are_distinct (filter_map directive_name ds) && (has_one_block false ds && (has_query (find is_schema ds) && each))) e in
    let after_directives = both (are_distinct (filter_map directive_name ds)) (has_one_block false ds && (has_query (find is_schema ds) && each)) after_types.1 in
    let after_blocks = both (has_one_block false ds) (has_query (find is_schema ds) && each) after_directives.1 in
    (both (has_query (find is_schema ds)) each after_blocks.1).1

-- Each type of a valid document, in name order, is the same in the view of what is registered for it, with the URLs of
-- scalars, and in the document's view.
pub viewed_same : (o : Options) (bytes : List ℕ) (d : Document) → HasVerdict bytes (Ok d)
    → map (viewed_type (registry_choice (record o { include_specified_by = true })) (root_of Subscription d)) (map (registered d) (ordered_types d))
    ≡ map (viewed_type (document_choice o) (root_of Subscription d)) (ordered_metas d)
viewed_same o bytes d valid =
    let kept = groups (document_schema d) valid.1 in
    let free = types_free (document_schema d) (root_of Subscription d) d.definitions (each_faultless d (document_is d bytes valid.0).1) kept.objects kept.interfaces in
    all_viewed o (root_of Subscription d) d (ordered_types d) (all_arranged HasFreeFields type_name (document_types d) free)
