-- The type that stands under a name after the additions that make a schema's registry.
use Rattle.std.proofs.Common.{◌≡◌, Bool, true, false, cond, ◌||◌, List, [], ◌∷◌, ◌++◌, map, flat_map, refl, ap, sym, subst, ◌∙◌, Some, None, if◌then◌else◌, append_assoc}
use Rattle.std.specs.Prelude.{fold}
use Rattle.std.specs.declared.option.Option.{Option}
use Rattle.std.specs.Option.{option_map, option_map_or, option_or}
use Rattle.std.specs.List.{AllByRecursion, IsDistinct}
use Rattle.std.specs.Map.{set_value, keys_of}
use Rattle.std.specs.Str.{bytes_eq}
use Rattle.std.specs.BTreeMap.{insert_entry}
use Rattle.std.proofs.lemmas.Map.Keys.{IsDistinct-head, IsDistinct-tail}
use Rattle.std.proofs.lemmas.Slice.Eq.{bytes_eq-Decides}
use Rattle.gql_text_lexer.specs.Forms.{is_reserved}
use Rattle.gql_registry_meta.specs.Parts.{Text, text_cmp, at_text, is_among, Field, Meta, ObjectType, name_of, with_entry_in_place}
use Rattle.gql_registry_meta.specs.Parts as meta
use Rattle.gql_registry.specs.Registry.{Contents, with_possible}
use Rattle.gql_registry.specs.Additions.{Step, missing_type, query_field, possible_type, made, all_made, object_with, with_field}
use Rattle.gql_registry.specs.Introspection.{query_fields, schema_field, type_field}
use Rattle.gql_registry.specs.Plain.{fields}
use Rattle.gql_dynamic_types.specs.Types.{ObjectParts}
use Rattle.gql_dynamic.specs.SchemaTypes.{TypeParts, type_name, type_meta, object_of}
use Rattle.gql_check.specs.Recorded.{type_step, object_steps, possible_steps}
use Rattle.gql_check.proofs.RegistrySteps.{all_made-append, name_of-type_meta}
use Rattle.gql_publish_document.specs.Document.{entry_of}
use Rattle.gql_publish_standing.proofs.Additions.{with_here, with_apart}
use Rattle.gql_publish_standing.proofs.Listed.{none_named}

-- types, each under its name
abbrev pub named : List Meta → List (Text × Meta)
named types = map (λ type. (name_of type, type)) types

or-none : {X : Type 0} (o : Option X) → o ≡ option_or o None
or-none None = refl
or-none (Some x) = refl

apart_from : (name m k : Text) → bytes_eq m k ≡ true → bytes_eq name m ≡ false → bytes_eq name k ≡ false
apart_from name m k e a = subst (λ t. bytes_eq name t ≡ false) ((bytes_eq-Decides m k).0 e) a

module _ {X : Type 0} (name : Text) where
  set_apart : (m : Text) (es : List (Text × X)) (w : X) → bytes_eq name m ≡ false → at_text name (set_value (bytes_eq m) es w) ≡ at_text name es
  set_apart m [] w a = refl
  set_apart m (e ∷ es) w a = by (bytes_eq m e.0) refl (set_apart m es w a)
    where
      by : (b : Bool) → bytes_eq m e.0 ≡ b → at_text name (set_value (bytes_eq m) es w) ≡ at_text name es → at_text name (cond b ((e.0, w) ∷ es) (e ∷ set_value (bytes_eq m) es w)) ≡ at_text name (e ∷ es)
      by true p rest =
          let away = apart_from name m e.0 p a in
          ap (λ b. cond b (Some w) (at_text name es)) away ∙ sym (ap (λ b. cond b (Some e.1) (at_text name es)) away)
      by false p rest = ap (λ found. cond (bytes_eq name e.0) (Some e.1) found) rest

  set_here : (es : List (Text × X)) (v w : X) → at_text name es ≡ Some v → at_text name (set_value (bytes_eq name) es w) ≡ Some w
  set_here [] v w h = cc h
  set_here (e ∷ es) v w h = by (bytes_eq name e.0) refl h (set_here es v w)
    where
      by : (b : Bool) → bytes_eq name e.0 ≡ b → cond b (Some e.1) (at_text name es) ≡ Some v → (at_text name es ≡ Some v → at_text name (set_value (bytes_eq name) es w) ≡ Some w) → at_text name (cond b ((e.0, w) ∷ es) (e ∷ set_value (bytes_eq name) es w)) ≡ Some w
      by true p h rest = ap (λ b. cond b (Some w) (at_text name es)) p
      by false p h rest = ap (λ b. cond b (Some e.1) (at_text name (set_value (bytes_eq name) es w))) p ∙ rest h

-- ---- types that are added

module _ (name : Text) where
  missing_step : (t : Meta) (before : Contents) (rest : Option Meta) → option_or (at_text name (made before (missing_type t)).types) rest ≡ option_or (at_text name before.types) (cond (bytes_eq name (name_of t)) (Some t) rest)
  missing_step t before rest = by (bytes_eq name (name_of t)) refl (at_text (name_of t) before.types) refl
    where
      by : (b : Bool) → bytes_eq name (name_of t) ≡ b → (o : Option Meta) → at_text (name_of t) before.types ≡ o
          → option_or (at_text name (option_map_or (λ _. before.types) o (insert_entry text_cmp before.types (name_of t) t))) rest ≡ option_or (at_text name before.types) (cond b (Some t) rest)
      by true p None q =
          ap (λ o. option_or o rest) (with_here name (name_of t) before.types t p)
          ∙ sym (ap (λ o. option_or o (Some t)) (ap (λ n. at_text n before.types) ((bytes_eq-Decides name (name_of t)).0 p) ∙ q))
      by true p (Some m) q =
          let here : at_text name before.types ≡ Some m = ap (λ n. at_text n before.types) ((bytes_eq-Decides name (name_of t)).0 p) ∙ q in
          ap (λ o. option_or o rest) here ∙ sym (ap (λ o. option_or o (Some t)) here)
      by false p None q = ap (λ o. option_or o rest) (with_apart name (name_of t) before.types t p)
      by false p (Some m) q = refl

  -- types of new names
  pub missing_added : (ts : List Meta) (before : Contents) → at_text name (all_made before (map missing_type ts)).types ≡ option_or (at_text name before.types) (at_text name (named ts))
  unfolding all_made
  missing_added [] before = or-none (at_text name before.types)
  missing_added (t ∷ ts) before = missing_added ts (made before (missing_type t)) ∙ missing_step t before (at_text name (named ts))

  -- types of different names, in the place of those that were there
  pub types_added : (types : List TypeParts) (before : Contents) → IsDistinct bytes_eq (map type_name types)
      → at_text name (all_made before (map type_step types)).types ≡ option_or (option_map type_meta (at_text name (map entry_of types))) (at_text name before.types)
  unfolding all_made
  types_added [] before distinct = refl
  types_added (t ∷ ts) before distinct = types_added ts (made before (type_step t)) (IsDistinct-tail bytes_eq (type_name t) (map type_name ts) distinct) ∙ by (bytes_eq name (type_name t)) refl
    where
      by : (b : Bool) → bytes_eq name (type_name t) ≡ b
          → option_or (option_map type_meta (at_text name (map entry_of ts))) (at_text name (made before (type_step t)).types)
          ≡ option_or (option_map type_meta (cond b (Some t) (at_text name (map entry_of ts)))) (at_text name before.types)
      by true p =
          let apart = subst (λ k. AllByRecursion (λ n. bytes_eq k n ≡ false) (map type_name ts)) (sym ((bytes_eq-Decides name (type_name t)).0 p)) (IsDistinct-head bytes_eq (type_name t) (map type_name ts) distinct) in
          ap (λ o. option_or (option_map type_meta o) (at_text name (made before (type_step t)).types)) (none_named name ts apart)
          ∙ with_here name (name_of (type_meta t)) before.types (type_meta t) (ap (bytes_eq name) (name_of-type_meta t) ∙ p)
      by false p = ap (option_or (option_map type_meta (at_text name (map entry_of ts)))) (with_apart name (name_of (type_meta t)) before.types (type_meta t) (ap (bytes_eq name) (name_of-type_meta t) ∙ p))

-- ---- possible types change no other type

-- the names that an object declares
abbrev pub declared : TypeParts → List Text
declared type = option_map_or (λ object. object.implements) (object_of type) []

left_false : (a b : Bool) → a || b ≡ false → (a ≡ false) × (b ≡ false)
left_false true b e = cc e
left_false false b e = (refl, e)

module _ (name : Text) where
  possible_one : (i n : Text) (before : Contents) → bytes_eq name i ≡ false → at_text name (made before (possible_type i n)).types ≡ at_text name before.types
  possible_one i n before apart = by (at_text i before.types)
    where
      by : (o : Option Meta) → at_text name (option_map_or (λ type. set_value (bytes_eq i) before.types (with_possible n type)) o before.types) ≡ at_text name before.types
      by None = refl
      by (Some m) = set_apart name i before.types (with_possible n m) apart

  possible_each : (names : List Text) (n : Text) (before : Contents) → is_among name names ≡ false → at_text name (all_made before (map (λ i. possible_type i n) names)).types ≡ at_text name before.types
  unfolding all_made
  possible_each [] n before apart = refl
  possible_each (i ∷ names) n before apart =
      let parts = left_false (bytes_eq name i) (is_among name names) apart in
      possible_each names n (made before (possible_type i n)) parts.1 ∙ possible_one i n before parts.0

  pub possible_apart : (types : List TypeParts) (before : Contents) → AllByRecursion (λ t. is_among name (declared t) ≡ false) types
      → at_text name (all_made before (flat_map possible_steps types)).types ≡ at_text name before.types
  unfolding all_made
  possible_apart [] before apart = refl
  possible_apart (t ∷ ts) before apart = by (object_of t) apart.0 (λ before. possible_apart ts before apart.1)
    where
      rest : List Step
      rest = flat_map possible_steps ts

      by : (o : Option ObjectParts) → is_among name (option_map_or (λ object. object.implements) o []) ≡ false → ((before : Contents) → at_text name (all_made before rest).types ≡ at_text name before.types)
          → at_text name (all_made before (option_map_or object_steps o [] ++ rest)).types ≡ at_text name before.types
      by None h later = later before
      by (Some o) h later = ap (λ contents. at_text name contents.types) (all_made-append before (object_steps o) rest)
          ∙ later (all_made before (object_steps o))
          ∙ possible_each o.implements o.name before h

-- ---- the fields of the query root

module _ (name : Text) where
  -- of another type
  pub query_apart : (fs : List Field) (before : Contents) → bytes_eq name before.query ≡ false → at_text name (all_made before (map query_field fs)).types ≡ at_text name before.types
  unfolding all_made
  query_apart [] before apart = refl
  query_apart (f ∷ fs) before apart = query_apart fs (made before (query_field f)) apart ∙ by (at_text before.query before.types)
    where
      by : (o : Option Meta) → at_text name (option_map_or (λ type. set_value (bytes_eq before.query) before.types (object_with f type)) o before.types) ≡ at_text name before.types
      by None = refl
      by (Some m) = set_apart name before.query before.types (object_with f m) apart

  -- of the root itself
  query_here : (fs : List Field) (before : Contents) (type : ObjectType) → before.query ≡ name → at_text name before.types ≡ Some (meta.object type)
      → at_text name (all_made before (map query_field fs)).types ≡ Some (meta.object (record type { fields = fold with_field type.fields fs }))
  unfolding all_made
  query_here [] before type e h = h
  query_here (f ∷ fs) before type e h = query_here fs (made before (query_field f)) (record type { fields = with_field type.fields f }) e
      (ap (λ q. at_text name (option_map_or (λ type. set_value (bytes_eq q) before.types (object_with f type)) (at_text q before.types) before.types)) e
      ∙ ap (λ o. at_text name (option_map_or (λ type. set_value (bytes_eq name) before.types (object_with f type)) o before.types)) h
      ∙ set_here name before.types (meta.object type) (meta.object (record type { fields = with_field type.fields f })) h)

goes_last : {V : Type 0} (es : List (Text × V)) (n : Text) (v : V) → is_among n (keys_of es) ≡ false → with_entry_in_place es n v ≡ es ++ (n, v) ∷ []
goes_last [] n v new = refl
goes_last (e ∷ es) n v new =
    let parts = left_false (bytes_eq n e.0) (is_among n (keys_of es)) new in
    ap (λ b. if b then (e.0, v) ∷ es else e ∷ with_entry_in_place es n v) parts.0 ∙ ap (λ l. e ∷ l) (goes_last es n v parts.1)

among-last : {V : Type 0} (m n : Text) (es : List (Text × V)) (v : V) → bytes_eq m n ≡ false → is_among m (keys_of es) ≡ false → is_among m (keys_of (es ++ (n, v) ∷ [])) ≡ false
among-last m n [] v apart h = ap (λ b. b || false) apart
among-last m n (e ∷ es) v apart h =
    let parts = left_false (bytes_eq m e.0) (is_among m (keys_of es)) h in
    ap (λ b. b || is_among m (keys_of (es ++ (n, v) ∷ []))) parts.0 ∙ among-last m n es v apart parts.1

not_reserved : (n k : Text) (b : Bool) → bytes_eq n k ≡ b → is_reserved n ≡ true → is_reserved k ≡ false → b ≡ false
not_reserved n k true p is isnt = cc (sym is ∙ ap is_reserved ((bytes_eq-Decides n k).0 p) ∙ isnt)
not_reserved n k false p is isnt = refl

none_reserved : (n : Text) (keys : List Text) → is_reserved n ≡ true → AllByRecursion (λ k. is_reserved k ≡ false) keys → is_among n keys ≡ false
none_reserved n [] is all = refl
none_reserved n (k ∷ ks) is all = ap (λ b. b || is_among n ks) (not_reserved n k (bytes_eq n k) refl is all.0) ∙ none_reserved n ks is all.1

schema_reserved : is_reserved schema_field.name ≡ true
unfolding is_reserved schema_field
schema_reserved = refl

type_reserved : is_reserved type_field.name ≡ true
unfolding is_reserved type_field
type_reserved = refl

two_apart : bytes_eq type_field.name schema_field.name ≡ false
unfolding schema_field type_field
two_apart = refl

-- the fields that lead to introspection go last
fields_last : (es : List (Text × Field)) → AllByRecursion (λ k. is_reserved k ≡ false) (keys_of es) → fold with_field es query_fields ≡ es ++ fields query_fields
fields_last es all =
    let new = none_reserved schema_field.name (keys_of es) schema_reserved all in
    let more = among-last type_field.name schema_field.name es schema_field two_apart (none_reserved type_field.name (keys_of es) type_reserved all) in
    ap (λ l. with_field l type_field) (goes_last es schema_field.name schema_field new)
    ∙ goes_last (es ++ (schema_field.name, schema_field) ∷ []) type_field.name type_field more
    ∙ append_assoc es ((schema_field.name, schema_field) ∷ []) ((type_field.name, type_field) ∷ [])

pub query_root_fields : (name : Text) (before : Contents) (type : ObjectType) → before.query ≡ name → at_text name before.types ≡ Some (meta.object type)
    → AllByRecursion (λ k. is_reserved k ≡ false) (keys_of type.fields)
    → at_text name (all_made before (map query_field query_fields)).types ≡ Some (meta.object (record type { fields = type.fields ++ fields query_fields }))
query_root_fields name before type e h all = query_here name query_fields before type e h ∙ ap (λ l. Some (meta.object (record type { fields = l }))) (fields_last type.fields all)
