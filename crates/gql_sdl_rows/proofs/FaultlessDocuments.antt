-- A tree has no owner fault exactly where its document has none and its schema blocks are plain.
use Rattle.std.proofs.Common.{◌≡◌, Bool, true, false, List, [], ◌∷◌, map, flat_map, Option, Some, None, refl, sym, ap, ap₂, ◌∙◌}
use Rattle.std.specs.Prelude.{not, ◌&&◌, ◌||◌}
use Rattle.std.specs.List.{AllByRecursion, filter_map, find, list_all, list_any}
use Rattle.std.specs.Option.{option_map}
use Rattle.gql_text_syntax.specs.declared.operation.OperationType.TheVariants.{Query, Subscription}
use Rattle.gql_text_syntax.specs.declared.syntax.Description.{Description}
use Rattle.gql_text_syntax.specs.declared.syntax.Kind.{Kind}
use Rattle.gql_text_syntax.specs.declared.syntax.Kind.TheVariants as kinds
use Rattle.gql_text_syntax.specs.declared.syntax.PlacedName.{PlacedName}
use Rattle.gql_text_syntax.specs.declared.syntax.Root.{Root}
use Rattle.gql_text_syntax.specs.declared.syntax.WrittenDefinition.{WrittenDefinition}
use Rattle.gql_text.specs.DocumentOf.{root_line_of, kind_of, definition_of, document_of}
use Rattle.gql_text.specs.Owners.{no_names, type_key, directive_key, type_name_faults, directive_name_faults, second_schema, second_schemas, schema_place, query_faults, query_faults_of, definition_faults, owner_faults}
use Rattle.gql_text.specs.Roots as r
use Rattle.gql_text.specs.Roots.{same_operation}
use Rattle.gql_text.specs.WrittenRoots as w
use Rattle.gql_text.specs.declared.document.RootLine.{RootLine}
use Rattle.gql_registry_meta.specs.Parts.{Text, is_empty}
use Rattle.gql_sdl_rows.specs.Faultless.{are_distinct, is_faultless, type_name, directive_name, has_one_block, has_query, are_faultless}
use Rattle.gql_sdl_rows.proofs.Empty.{both_tests, one_where, none_repeat}
use Rattle.gql_sdl_rows.proofs.FaultlessParts.{is_plain, HasWritten, kind_told}

-- ---- names of definitions

type_name_stays : (d : Option Description) (k : Kind) → option_map (λ (n : PlacedName). n.name) (type_key k) ≡ type_name (kind_of d k)
type_name_stays d (kinds.Schema at uses roots) = refl
type_name_stays d (kinds.Scalar key uses) = refl
type_name_stays d (kinds.Object x) = refl
type_name_stays d (kinds.Interface x) = refl
type_name_stays d (kinds.Union key uses members) = refl
type_name_stays d (kinds.Enum key uses values) = refl
type_name_stays d (kinds.Input key uses fields) = refl
type_name_stays d (kinds.Directive key arguments repeatable locations) = refl

directive_name_stays : (d : Option Description) (k : Kind) → option_map (λ (n : PlacedName). n.name) (directive_key k) ≡ directive_name (kind_of d k)
directive_name_stays d (kinds.Schema at uses roots) = refl
directive_name_stays d (kinds.Scalar key uses) = refl
directive_name_stays d (kinds.Object x) = refl
directive_name_stays d (kinds.Interface x) = refl
directive_name_stays d (kinds.Union key uses members) = refl
directive_name_stays d (kinds.Enum key uses values) = refl
directive_name_stays d (kinds.Input key uses fields) = refl
directive_name_stays d (kinds.Directive key arguments repeatable locations) = refl

-- the names of keys that some have are those that some of the others have
names_found : {X Y : Type 0} (key : X → Option PlacedName) (of : X → Y) (name : Y → Option Text) → ((x : X) → option_map (λ (n : PlacedName). n.name) (key x) ≡ name (of x)) → (xs : List X)
    → map (λ (n : PlacedName). n.name) (filter_map key xs) ≡ filter_map name (map of xs)
names_found key of name same [] = refl
names_found {X} key of name same (x ∷ xs) = by_key (key x) refl (names_found key of name same xs)
  where
    by_key : (o : Option PlacedName) → key x ≡ o → map (λ (n : PlacedName). n.name) (filter_map key xs) ≡ filter_map name (map of xs) → map (λ (n : PlacedName). n.name) (filter_map key (x ∷ xs)) ≡ filter_map name (map of (x ∷ xs))
    by_key None e f =
        let n : name (of x) ≡ None = sym (same x) ∙ ap (option_map (λ (n : PlacedName). n.name)) e in
        rw (e, n) f
    by_key (Some k) e f =
        let n : name (of x) ≡ Some k.name = sym (same x) ∙ ap (option_map (λ (n : PlacedName). n.name)) e in
        rw (e, n) (ap (λ (l : List Text). k.name ∷ l) f)

types_told : (ds : List WrittenDefinition) → is_empty (type_name_faults ds) ≡ are_distinct (filter_map type_name (map definition_of ds))
types_told ds = none_repeat no_names (filter_map (λ (d : WrittenDefinition). type_key d.kind) ds) ∙ ap are_distinct (names_found (λ (d : WrittenDefinition). type_key d.kind) definition_of type_name (λ d. type_name_stays d.description d.kind) ds)

directives_told : (ds : List WrittenDefinition) → is_empty (directive_name_faults ds) ≡ are_distinct (filter_map directive_name (map definition_of ds))
directives_told ds = none_repeat no_names (filter_map (λ (d : WrittenDefinition). directive_key d.kind) ds) ∙ ap are_distinct (names_found (λ (d : WrittenDefinition). directive_key d.kind) definition_of directive_name (λ d. directive_name_stays d.description d.kind) ds)

-- ---- schema blocks

schema_stays : (d : Option Description) (k : Kind) → r.is_schema (kind_of d k) ≡ w.is_schema k
schema_stays d (kinds.Schema at uses roots) = refl
schema_stays d (kinds.Scalar key uses) = refl
schema_stays d (kinds.Object x) = refl
schema_stays d (kinds.Interface x) = refl
schema_stays d (kinds.Union key uses members) = refl
schema_stays d (kinds.Enum key uses values) = refl
schema_stays d (kinds.Input key uses fields) = refl
schema_stays d (kinds.Directive key arguments repeatable locations) = refl

second_told : (before : Bool) (k : Kind) → is_empty (second_schema before (schema_place k)) ≡ not (before && w.is_schema k)
second_told true (kinds.Schema at uses roots) = refl
second_told true (kinds.Scalar key uses) = refl
second_told true (kinds.Object x) = refl
second_told true (kinds.Interface x) = refl
second_told true (kinds.Union key uses members) = refl
second_told true (kinds.Enum key uses values) = refl
second_told true (kinds.Input key uses fields) = refl
second_told true (kinds.Directive key arguments repeatable locations) = refl
second_told false k = refl

blocks_told : (before : Bool) (ds : List WrittenDefinition) → is_empty (second_schemas before ds) ≡ has_one_block before (map definition_of ds)
blocks_told before [] = refl
blocks_told before (d ∷ ds) =
    let same = sym (schema_stays d.description d.kind) in
    both_tests (second_schema before (schema_place d.kind)) _ _ _ (second_told before d.kind ∙ ap (λ (b : Bool). not (before && b)) same)
    (blocks_told (before || w.is_schema d.kind) ds ∙ ap (λ (b : Bool). has_one_block (before || b) (map definition_of ds)) same)

has_line_stays : (roots : List Root) → w.has_line Query roots ≡ list_any (λ (l : RootLine). same_operation Query l.kind) (map root_line_of roots)
has_line_stays [] = refl
has_line_stays (x ∷ roots) = ap (λ (b : Bool). same_operation Query x.kind || b) (has_line_stays roots)

query_told : (d : Option Description) (k : Kind) → w.is_schema k ≡ true → is_empty (query_faults_of k) ≡ has_query (Some (kind_of d k))
query_told d (kinds.Schema at uses roots) e = one_where (not (w.has_line Query roots)) _ ∙ not_not (w.has_line Query roots) ∙ has_line_stays roots
  where
    not_not : (b : Bool) → not (not b) ≡ b
    not_not true = refl
    not_not false = refl
query_told d (kinds.Scalar key uses) e = absurd cc
query_told d (kinds.Object x) e = absurd cc
query_told d (kinds.Interface x) e = absurd cc
query_told d (kinds.Union key uses members) e = absurd cc
query_told d (kinds.Enum key uses values) e = absurd cc
query_told d (kinds.Input key uses fields) e = absurd cc
query_told d (kinds.Directive key arguments repeatable locations) e = absurd cc

first_told : (ds : List WrittenDefinition) → is_empty (query_faults (w.first_schema ds)) ≡ has_query (find r.is_schema (map definition_of ds))
first_told [] = refl
first_told (d ∷ ds) = by_test (w.is_schema d.kind) refl (first_told ds)
  where
    by_test : (t : Bool) → w.is_schema d.kind ≡ t → is_empty (query_faults (w.first_schema ds)) ≡ has_query (find r.is_schema (map definition_of ds))
        → is_empty (query_faults (w.first_schema (d ∷ ds))) ≡ has_query (find r.is_schema (map definition_of (d ∷ ds)))
    by_test true e f =
        let g : r.is_schema (definition_of d) ≡ true = schema_stays d.description d.kind ∙ e in
        rw (e, g) (query_told d.description d.kind e)
    by_test false e f =
        let g : r.is_schema (definition_of d) ≡ false = schema_stays d.description d.kind ∙ e in
        rw (e, g) f

-- ---- all definitions

-- the schema blocks of a tree have neither descriptions nor uses
abbrev pub are_plain : List WrittenDefinition → Bool
are_plain ds = list_all (λ d. is_plain d.description d.kind) ds

-- implemented names are written where there is one
abbrev pub HaveWritten : List WrittenDefinition → Type 0
HaveWritten ds = AllByRecursion (λ d. HasWritten d.kind) ds

four : (a b c d : Bool) → ((a && b) && (c && d)) ≡ ((a && c) && (b && d))
four true true c d = refl
four true false true d = refl
four true false false d = refl
four false b c d = refl

each_told : (root : Option Text) (ds : List WrittenDefinition) → HaveWritten ds → is_empty (flat_map (definition_faults root) ds) ≡ (list_all (is_faultless root) (map definition_of ds) && are_plain ds)
each_told root [] h = refl
each_told root (d ∷ ds) h =
    both_tests (definition_faults root d) (flat_map (definition_faults root) ds) _ _ (kind_told root d.description d.kind h.0) (each_told root ds h.1)
    ∙ four (is_faultless root (definition_of d)) (is_plain d.description d.kind) (list_all (is_faultless root) (map definition_of ds)) (are_plain ds)

five : (a b c d e f : Bool) → (a && (b && (c && (d && (e && f))))) ≡ ((a && (b && (c && (d && e)))) && f)
five true true true true e f = refl
five true true true false e f = refl
five true true false d e f = refl
five true false c d e f = refl
five false b c d e f = refl

pub tree_told : (ds : List WrittenDefinition) → HaveWritten ds → is_empty (owner_faults ds) ≡ (are_faultless (map definition_of ds) && are_plain ds)
tree_told ds h =
    let root : Option Text = r.root_of Subscription (document_of ds) in
    both_tests (type_name_faults ds) _ _ _ (types_told ds) (both_tests (directive_name_faults ds) _ _ _ (directives_told ds) (both_tests (second_schemas false ds) _ _ _ (blocks_told false ds)
    (both_tests (query_faults (w.first_schema ds)) (flat_map (definition_faults root) ds) _ _ (first_told ds) (each_told root ds h))))
    ∙ five (are_distinct (filter_map type_name (map definition_of ds))) (are_distinct (filter_map directive_name (map definition_of ds))) (has_one_block false (map definition_of ds)) (has_query (find r.is_schema (map definition_of ds)))
    (list_all (is_faultless root) (map definition_of ds)) (are_plain ds)

is_none : {F : Type 0} (faults : List F) → is_empty faults ≡ true → faults ≡ []
is_none [] e = refl
is_none (x ∷ faults) e = absurd cc

-- a plain tree of a document without owner faults has none
pub tree_faultless : (ds : List WrittenDefinition) → HaveWritten ds → are_faultless (map definition_of ds) ≡ true → are_plain ds ≡ true → owner_faults ds ≡ []
tree_faultless ds h e f = is_none (owner_faults ds) (tree_told ds h ∙ ap₂ (λ (a b : Bool). a && b) e f)

both_true : (a b : Bool) → (a && b) ≡ true → (a ≡ true) × (b ≡ true)
both_true true b e = (refl, e)
both_true false b e = absurd cc

-- and the document of a tree without owner faults has none
pub document_faultless : (ds : List WrittenDefinition) → HaveWritten ds → owner_faults ds ≡ [] → (are_faultless (map definition_of ds) ≡ true) × (are_plain ds ≡ true)
document_faultless ds h e = both_true (are_faultless (map definition_of ds)) (are_plain ds) (sym (tree_told ds h) ∙ ap is_empty e)
