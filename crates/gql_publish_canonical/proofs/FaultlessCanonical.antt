-- The canonical form of a document without owner faults has none.
use Rattle.std.proofs.Common.{◌≡◌, Bool, true, false, cond, List, [], ◌∷◌, ◌++◌, filter, map, Option, Some, None, codes, refl, sym, ap, subst, ◌∙◌, rules}
use Rattle.std.proofs.lemmas.List.{append-nil, map-append}
use Rattle.std.proofs.lemmas.List.Elements.{filter_map-append}
use Rattle.std.proofs.lemmas.Simd.{map-map}
use Rattle.std.specs.Prelude.{◌||◌, not}
use Rattle.std.specs.List.{AllByRecursion, filter_map, find, list_all}
use Rattle.std.specs.Option.{unwrap_or}
use Rattle.std.specs.Str.{bytes_eq}
use Rattle.gql_text_lexer.specs.Forms.{is_reserved}
use Rattle.gql_text_values.specs.declared.const_value.ConstValue.TheFolds.{the_lemmas}
use Rattle.gql_text_values.specs.declared.const_value.ConstValue.TheVariants as values
use Rattle.gql_text_syntax.specs.declared.operation.OperationType.{OperationType}
use Rattle.gql_text_syntax.specs.declared.operation.OperationType.TheVariants.{Query, Mutation, Subscription}
use Rattle.gql_text.specs.Owners.{no_names}
use Rattle.gql_text.specs.Roots.{operation_word, is_schema, root_of, root_by, root_line as first_line}
use Rattle.gql_text.specs.WrittenRoots.{is_root}
use Rattle.gql_text.specs.declared.document.Definition.{Definition}
use Rattle.gql_text.specs.declared.document.Definition.TheVariants as definition
use Rattle.gql_text.specs.declared.document.DirectiveDef.{DirectiveDef}
use Rattle.gql_text.specs.declared.document.Document.{Document}
use Rattle.gql_text.specs.declared.document.FieldDef.{FieldDef}
use Rattle.gql_text.specs.declared.document.RootLine.{RootLine}
use Rattle.gql_text.specs.declared.document.TypeHead.{TypeHead}
use Rattle.gql_registry_meta.specs.Parts.{Text, Invocation, is_empty, is_among}
use Rattle.gql_registry.specs.System.{skip, include, deprecated, specified_by, one_of}
use Rattle.gql_dynamic.specs.SchemaTypes.{type_name as built_name}
use Rattle.gql_publish_document.specs.Document.{ordered_metas, query_root}
use Rattle.gql_publish_document.specs.Types.{directive_meta_of}
use Rattle.gql_publish_document.specs.Uses.{url_in, has_one_of, invocations_in}
use Rattle.gql_sdl_view.specs.Options.{Options, Choice, document_choice}
use Rattle.gql_sdl_view.specs.Ordered.{arranged}
use Rattle.gql_sdl_view.specs.View.{is_needed}
use Rattle.gql_sdl_rows.specs.Faultless.{are_distinct, has_distinct_keys, Owner, on_scalar, on_input, on_other, are_faultless_uses, are_faultless_inputs, are_faultless_fields, are_faultless_values, is_faultless_head, is_faultless_like, are_attributes, is_faultless_root, is_faultless_object, is_faultless, type_name, directive_name, has_one_block, has_query, are_faultless}
use Rattle.gql_sdl_rows.specs.Shown.{url_uses, one_of_uses, root_line, optional_line, directive_definitions}
use Rattle.gql_publish_canonical.proofs.Canonical.{at_zero, canonical_head, with_uses, canonical_fields, canonical_type, type_of, is_type, ordered_definitions, canonical_types, canonical_directive, system_definitions, own_directives, is_missing, ordered_directive_definitions, canonical_directives, canonical_roots, canonical}
use Rattle.gql_publish_canonical.proofs.FaultlessMembers.{both, join, all_pass, pass_all, list_all-append, uses_pass, url_pass, one_of_pass, inputs_pass, arguments_pass, fields_pass, values_pass, head_attributes, root_fields_pass}
use Rattle.gql_publish_canonical.proofs.Lists.{all_arranged, all_filter, all_append, all_map}
use Rattle.gql_publish_canonical.proofs.Locations.{turned}
use Rattle.gql_publish_canonical.proofs.Names.{arranged_distinct, filter_new, AreApart, append_new}

-- ---- one type

like_pass : (choice : Choice) (head : TypeHead) (implements : List Text) (fields : List FieldDef) → is_faultless_like head implements fields ≡ true
    → is_faultless_like (canonical_head head) implements (canonical_fields choice fields) ≡ true
like_pass choice head implements fields e =
    let first = both (not (is_reserved head.name)) _ e in
    let second = both (are_distinct implements) _ first.1 in
    let third = both (are_faultless_uses on_other head.uses) (are_faultless_fields fields) second.1 in
    join _ _ first.0 (join _ _ second.0 (join _ _ (uses_pass on_other [] head.uses refl third.0) (fields_pass choice fields third.1)))

root_pass : (choice : Choice) (head : TypeHead) (implements : List Text) (fields : List FieldDef) → is_faultless_root head implements fields ≡ true
    → is_faultless_root (canonical_head head) implements (canonical_fields choice fields) ≡ true
root_pass choice head implements fields e =
    let first = both (is_empty implements) _ e in
    let second = both (are_attributes head.uses) _ first.1 in
    join _ _ first.0 (join _ _ (head_attributes head.uses second.0) (root_fields_pass choice fields second.1))

object_pass : (choice : Choice) (root : Option Text) (head : TypeHead) (implements : List Text) (fields : List FieldDef) → is_faultless_object root head implements fields ≡ true
    → is_faultless_object root (canonical_head head) implements (canonical_fields choice fields) ≡ true
object_pass choice root head implements fields e =
    let tests = both (is_faultless_like head implements fields) (cond (is_root root head.name) (is_faultless_root head implements fields) true) e in
    join _ _ (like_pass choice head implements fields tests.0) (by_test (is_root root head.name) tests.1)
  where
    by_test : (t : Bool) → cond t (is_faultless_root head implements fields) true ≡ true → cond t (is_faultless_root (canonical_head head) implements (canonical_fields choice fields)) true ≡ true
    by_test true f = root_pass choice head implements fields f
    by_test false f = refl

head_pass : (owner : Owner) (attributes : List Invocation) (head : TypeHead) → are_faultless_uses owner (map at_zero attributes) ≡ true → is_faultless_head owner head ≡ true
    → is_faultless_head owner (with_uses (attributes ++ invocations_in head.uses) head) ≡ true
head_pass owner attributes head a e =
    let tests = both (not (is_reserved head.name)) (are_faultless_uses owner head.uses) e in
    join _ _ tests.0 (uses_pass owner attributes head.uses a tests.1)

type_pass : (choice : Choice) (root : Option Text) (d : Definition) → is_faultless root d ≡ true → is_faultless root (canonical_type choice d) ≡ true
type_pass choice root (definition.SchemaBlock roots at) e = e
type_pass choice root (definition.Scalar head) e = head_pass on_scalar (url_uses (url_in head.uses)) head (url_pass (url_in head.uses)) e
type_pass choice root (definition.Object head implements fields) e = object_pass choice root head implements fields e
type_pass choice root (definition.Interface head implements fields) e = like_pass choice head implements fields e
type_pass choice root (definition.Union head members) e =
    let tests = both (is_faultless_head on_other head) (are_distinct members) e in
    join _ _ (head_pass on_other [] head refl tests.0) tests.1
type_pass choice root (definition.Enum head values) e =
    let tests = both (is_faultless_head on_other head) (are_faultless_values values) e in
    join _ _ (head_pass on_other [] head refl tests.0) (values_pass choice.sorted_enum_items values tests.1)
type_pass choice root (definition.Input head fields) e =
    let tests = both (is_faultless_head on_input head) (are_faultless_inputs fields) e in
    join _ _ (head_pass on_input (one_of_uses (has_one_of head.uses)) head (one_of_pass (has_one_of head.uses)) tests.0) (inputs_pass choice.sorted_fields fields tests.1)
type_pass choice root (definition.Directive directive) e = e

types_pass : (choice : Choice) (root scope : Option Text) (ds : List Definition) → list_all (is_faultless root) ds ≡ true → list_all (is_faultless root) (canonical_types choice scope ds) ≡ true
types_pass choice root scope ds e =
    let P : Definition → Type 0 = λ d. is_faultless root d ≡ true in
    let ordered : List Definition = ordered_definitions scope ds in
    pass_all (is_faultless root) (map (canonical_type choice) ordered) (all_map P P (canonical_type choice) (type_pass choice root) ordered
    (all_arranged P (λ (d : Definition). built_name (type_of scope d)) true (filter (is_type scope) ds) (all_filter P (is_type scope) ds (all_pass (is_faultless root) ds e))))

-- ---- names of types

-- a definition of a type, and its name
abbrev pub name_of : Definition → Text
name_of d = unwrap_or (type_name d) []

-- it has a name as a type
abbrev pub HasName : Definition → Type 0
HasName d = type_name d ≡ Some (name_of d)

name_stays : (choice : Choice) (d : Definition) → type_name (canonical_type choice d) ≡ type_name d
name_stays choice (definition.SchemaBlock roots at) = refl
name_stays choice (definition.Scalar head) = refl
name_stays choice (definition.Object head implements fields) = refl
name_stays choice (definition.Interface head implements fields) = refl
name_stays choice (definition.Union head members) = refl
name_stays choice (definition.Enum head values) = refl
name_stays choice (definition.Input head fields) = refl
name_stays choice (definition.Directive directive) = refl

names_stay : (choice : Choice) (ds : List Definition) → AllByRecursion HasName ds → filter_map type_name (map (canonical_type choice) ds) ≡ map name_of ds
names_stay choice [] a = refl
names_stay choice (d ∷ ds) a = rw (name_stays choice d, a.0) (ap (λ (l : List Text). name_of d ∷ l) (names_stay choice ds a.1))

pub named_types : (root : Option Text) (ds : List Definition) → AllByRecursion HasName (filter (is_type root) ds)
named_types root [] = tt
named_types root (definition.SchemaBlock roots at ∷ ds) = named_types root ds
named_types root (definition.Scalar head ∷ ds) = (refl, named_types root ds)
named_types root (definition.Object head implements fields ∷ ds) = (refl, named_types root ds)
named_types root (definition.Interface head implements fields ∷ ds) = (refl, named_types root ds)
named_types root (definition.Union head members ∷ ds) = (refl, named_types root ds)
named_types root (definition.Enum head values ∷ ds) = (refl, named_types root ds)
named_types root (definition.Input head fields ∷ ds) = (refl, named_types root ds)
named_types root (definition.Directive directive ∷ ds) = named_types root ds

type_names_are : (root : Option Text) (ds : List Definition) → map name_of (filter (is_type root) ds) ≡ filter_map type_name ds
type_names_are root [] = refl
type_names_are root (definition.SchemaBlock roots at ∷ ds) = type_names_are root ds
type_names_are root (definition.Scalar head ∷ ds) = ap (λ (l : List Text). head.name ∷ l) (type_names_are root ds)
type_names_are root (definition.Object head implements fields ∷ ds) = ap (λ (l : List Text). head.name ∷ l) (type_names_are root ds)
type_names_are root (definition.Interface head implements fields ∷ ds) = ap (λ (l : List Text). head.name ∷ l) (type_names_are root ds)
type_names_are root (definition.Union head members ∷ ds) = ap (λ (l : List Text). head.name ∷ l) (type_names_are root ds)
type_names_are root (definition.Enum head values ∷ ds) = ap (λ (l : List Text). head.name ∷ l) (type_names_are root ds)
type_names_are root (definition.Input head fields ∷ ds) = ap (λ (l : List Text). head.name ∷ l) (type_names_are root ds)
type_names_are root (definition.Directive directive ∷ ds) = type_names_are root ds

types_distinct : (choice : Choice) (root : Option Text) (ds : List Definition) → are_distinct (filter_map type_name ds) ≡ true → are_distinct (filter_map type_name (canonical_types choice root ds)) ≡ true
types_distinct choice root ds e =
    let by : Definition → Text = λ d. built_name (type_of root d) in
    let types : List Definition = filter (is_type root) ds in
    ap are_distinct (names_stay choice (ordered_definitions root ds) (all_arranged HasName by true types (named_types root ds)))
    ∙ arranged_distinct name_of by true types ∙ ap are_distinct (type_names_are root ds) ∙ e

-- ---- names of directives

own_names_are : (ds : List Definition) → map (λ (d : DirectiveDef). d.name) (own_directives ds) ≡ filter_map directive_name ds
own_names_are [] = refl
own_names_are (definition.SchemaBlock roots at ∷ ds) = own_names_are ds
own_names_are (definition.Scalar head ∷ ds) = own_names_are ds
own_names_are (definition.Object head implements fields ∷ ds) = own_names_are ds
own_names_are (definition.Interface head implements fields ∷ ds) = own_names_are ds
own_names_are (definition.Union head members ∷ ds) = own_names_are ds
own_names_are (definition.Enum head values ∷ ds) = own_names_are ds
own_names_are (definition.Input head fields ∷ ds) = own_names_are ds
own_names_are (definition.Directive d ∷ ds) = ap (λ (l : List Text). d.name ∷ l) (own_names_are ds)

none_of : (name : Text) (names : List Text) → is_among name names ≡ false → AllByRecursion (λ n. bytes_eq n name ≡ false) names
none_of name [] e = tt
none_of name (n ∷ names) e = let tests = neither (bytes_eq name n) (is_among name names) e in (turned n name ∙ tests.0, none_of name names tests.1)
  where
    neither : (a b : Bool) → (a || b) ≡ false → (a ≡ false) × (b ≡ false)
    neither true b e = absurd cc
    neither false b e = (refl, e)

-- each of the first is apart from one more
apart_more : (names : List Text) (m : Text) (ms : List Text) → AllByRecursion (λ n. bytes_eq n m ≡ false) names → AreApart names ms → AreApart names (m ∷ ms)
apart_more [] m ms a b = tt
apart_more (n ∷ names) m ms a b = ((a.0, b.0), apart_more names m ms a.1 b.1)

apart_none : (names : List Text) → AreApart names []
apart_none [] = tt
apart_none (n ∷ names) = (tt, apart_none names)

added_apart : (own system : List DirectiveDef) → AreApart (map (λ (d : DirectiveDef). d.name) own) (map (λ (d : DirectiveDef). d.name) (filter (is_missing own) system))
added_apart own [] = apart_none (map (λ (d : DirectiveDef). d.name) own)
added_apart own (s ∷ system) = by_test (is_among s.name (map (λ (d : DirectiveDef). d.name) own)) refl (added_apart own system)
  where
    by_test : (t : Bool) → is_among s.name (map (λ (d : DirectiveDef). d.name) own) ≡ t → AreApart (map (λ (d : DirectiveDef). d.name) own) (map (λ (d : DirectiveDef). d.name) (filter (is_missing own) system))
        → AreApart (map (λ (d : DirectiveDef). d.name) own) (map (λ (d : DirectiveDef). d.name) (filter (is_missing own) (s ∷ system)))
    by_test true e a = rw e a
    by_test false e a = rw e (apart_more (map (λ (d : DirectiveDef). d.name) own) s.name _ (none_of s.name (map (λ (d : DirectiveDef). d.name) own) e) a)

system_distinct : are_distinct (map (λ (d : DirectiveDef). d.name) system_definitions) ≡ true
unfolding skip include deprecated specified_by one_of
system_distinct = refl

directives_distinct : (d : Document) → are_distinct (filter_map directive_name d.definitions) ≡ true → are_distinct (map (λ (c : DirectiveDef). c.name) (canonical_directives d)) ≡ true
directives_distinct d e =
    let name : DirectiveDef → Text = λ c. c.name in
    let own : List DirectiveDef = own_directives d.definitions in
    let added : List DirectiveDef = filter (is_missing own) system_definitions in
    let ordered : List DirectiveDef = arranged name true (own ++ added) in
    let test : DirectiveDef → Bool = λ c. is_needed (ordered_metas d) (directive_meta_of c) in
    let own_distinct : are_distinct (map name own) ≡ true = ap are_distinct (own_names_are d.definitions) ∙ e in
    let added_distinct : are_distinct (map name added) ≡ true = filter_new name (is_missing own) no_names system_definitions system_distinct in
    let together : are_distinct (map name (own ++ added)) ≡ true = ap are_distinct (map-append name own added) ∙ append_new no_names (map name own) (map name added) (added_apart own system_definitions) own_distinct added_distinct in
    let arranged_so : are_distinct (map name ordered) ≡ true = arranged_distinct name name true (own ++ added) ∙ together in
    ap are_distinct (map-map name canonical_directive (filter test ordered)) ∙ filter_new name test no_names ordered arranged_so

-- ---- each directive

own_pass : (root : Option Text) (ds : List Definition) → list_all (is_faultless root) ds ≡ true → AllByRecursion (λ (c : DirectiveDef). are_faultless_inputs c.args ≡ true) (own_directives ds)
own_pass root [] e = tt
own_pass root (definition.SchemaBlock roots at ∷ ds) e = own_pass root ds (both (is_faultless root (definition.SchemaBlock roots at)) _ e).1
own_pass root (definition.Scalar head ∷ ds) e = own_pass root ds (both (is_faultless root (definition.Scalar head)) _ e).1
own_pass root (definition.Object head implements fields ∷ ds) e = own_pass root ds (both (is_faultless root (definition.Object head implements fields)) _ e).1
own_pass root (definition.Interface head implements fields ∷ ds) e = own_pass root ds (both (is_faultless root (definition.Interface head implements fields)) _ e).1
own_pass root (definition.Union head members ∷ ds) e = own_pass root ds (both (is_faultless root (definition.Union head members)) _ e).1
own_pass root (definition.Enum head values ∷ ds) e = own_pass root ds (both (is_faultless root (definition.Enum head values)) _ e).1
own_pass root (definition.Input head fields ∷ ds) e = own_pass root ds (both (is_faultless root (definition.Input head fields)) _ e).1
own_pass root (definition.Directive d ∷ ds) e = let tests = both (is_faultless root (definition.Directive d)) _ e in (tests.0, own_pass root ds tests.1)

text_keys : (text : Text) → has_distinct_keys (values.String text) ≡ true
text_keys text = search (rules, the_lemmas)

system_pass : AllByRecursion (λ (c : DirectiveDef). are_faultless_inputs c.args ≡ true) system_definitions
system_pass = (refl, (refl, (rw (text_keys (codes "No longer supported")) refl, (refl, (refl, tt)))))

directives_pass : (root : Option Text) (d : Document) → list_all (is_faultless root) d.definitions ≡ true → list_all (is_faultless root) (directive_definitions (canonical_directives d)) ≡ true
directives_pass root d e =
    let P : DirectiveDef → Type 0 = λ c. are_faultless_inputs c.args ≡ true in
    let own : List DirectiveDef = own_directives d.definitions in
    let added : List DirectiveDef = filter (is_missing own) system_definitions in
    let ordered : List DirectiveDef = ordered_directive_definitions d.definitions in
    let test : DirectiveDef → Bool = λ c. is_needed (ordered_metas d) (directive_meta_of c) in
    let all : AllByRecursion P (filter test ordered) = all_filter P test ordered (all_arranged P (λ (c : DirectiveDef). c.name) true (own ++ added) (all_append P own added (own_pass root d.definitions e) (all_filter P (is_missing own) system_definitions system_pass))) in
    pass_all (is_faultless root) (directive_definitions (canonical_directives d))
    (all_map P (λ (c : Definition). is_faultless root c ≡ true) (λ (c : DirectiveDef). definition.Directive c) (λ c h. h) (canonical_directives d) (all_map P P canonical_directive (λ c h. arguments_pass c.args h) (filter test ordered) all))

-- ---- the whole document

-- neither a directive nor a schema block
record IsTypeAlone (d : Definition) : Type 0 where
  no_directive : directive_name d ≡ None
  no_schema : is_schema d ≡ false

type_alone : (choice : Choice) (d : Definition) → HasName d → IsTypeAlone (canonical_type choice d)
type_alone choice (definition.SchemaBlock roots at) h = absurd cc
type_alone choice (definition.Scalar head) h = record { no_directive = refl; no_schema = refl }
type_alone choice (definition.Object head implements fields) h = record { no_directive = refl; no_schema = refl }
type_alone choice (definition.Interface head implements fields) h = record { no_directive = refl; no_schema = refl }
type_alone choice (definition.Union head members) h = record { no_directive = refl; no_schema = refl }
type_alone choice (definition.Enum head values) h = record { no_directive = refl; no_schema = refl }
type_alone choice (definition.Input head fields) h = record { no_directive = refl; no_schema = refl }
type_alone choice (definition.Directive directive) h = absurd cc

types_alone : (choice : Choice) (root : Option Text) (ds : List Definition) → AllByRecursion IsTypeAlone (canonical_types choice root ds)
types_alone choice root ds =
    all_map HasName IsTypeAlone (canonical_type choice) (type_alone choice) (ordered_definitions root ds) (all_arranged HasName (λ (d : Definition). built_name (type_of root d)) true (filter (is_type root) ds) (named_types root ds))

-- definitions that are no schema blocks
abbrev AreNoBlocks : List Definition → Type 0
AreNoBlocks ds = AllByRecursion (λ d. is_schema d ≡ false) ds

no_blocks : (ds : List Definition) → AllByRecursion IsTypeAlone ds → AreNoBlocks ds
no_blocks [] a = tt
no_blocks (d ∷ ds) a = (a.0.no_schema, no_blocks ds a.1)

no_directive_blocks : (cs : List DirectiveDef) → AreNoBlocks (directive_definitions cs)
no_directive_blocks [] = tt
no_directive_blocks (c ∷ cs) = (refl, no_directive_blocks cs)

blocks_after : (ds rest : List Definition) → AreNoBlocks ds → has_one_block false (ds ++ rest) ≡ has_one_block false rest
blocks_after [] rest a = refl
blocks_after (d ∷ ds) rest a = rw a.0 (blocks_after ds rest a.1)

found_after : (ds rest : List Definition) → AreNoBlocks ds → find is_schema (ds ++ rest) ≡ find is_schema rest
found_after [] rest a = refl
found_after (d ∷ ds) rest a = rw a.0 (found_after ds rest a.1)

no_directive_names : (ds rest : List Definition) → AllByRecursion IsTypeAlone ds → filter_map directive_name (ds ++ rest) ≡ filter_map directive_name rest
no_directive_names [] rest a = refl
no_directive_names (d ∷ ds) rest a = rw a.0.no_directive (no_directive_names ds rest a.1)

directive_names : (cs : List DirectiveDef) (roots : List RootLine) → filter_map directive_name (directive_definitions cs ++ definition.SchemaBlock roots 0 ∷ []) ≡ map (λ (c : DirectiveDef). c.name) cs
directive_names [] roots = refl
directive_names (c ∷ cs) roots = ap (λ (l : List Text). c.name ∷ l) (directive_names cs roots)

no_type_names : (cs : List DirectiveDef) (roots : List RootLine) → filter_map type_name (directive_definitions cs ++ definition.SchemaBlock roots 0 ∷ []) ≡ []
no_type_names [] roots = refl
no_type_names (c ∷ cs) roots = no_type_names cs roots

-- the block is the one that is found
pub block_found : (o : Options) (d : Document) → find is_schema (canonical o d).definitions ≡ Some (definition.SchemaBlock (canonical_roots d) 0)
block_found o d =
    let types : List Definition = canonical_types (document_choice o) (root_of Subscription d) d.definitions in
    let directives : List Definition = directive_definitions (canonical_directives d) in
    let block : List Definition = definition.SchemaBlock (canonical_roots d) 0 ∷ [] in
    found_after types (directives ++ block) (no_blocks types (types_alone (document_choice o) (root_of Subscription d) d.definitions)) ∙ found_after directives block (no_directive_blocks (canonical_directives d))

lines_distinct : (query : Text) (m s : Option Text) → are_distinct (map (λ (l : RootLine). operation_word l.kind) (root_line Query query ∷ (optional_line Mutation m ++ optional_line Subscription s))) ≡ true
lines_distinct query None None = refl
lines_distinct query None (Some s) = refl
lines_distinct query (Some m) None = refl
lines_distinct query (Some m) (Some s) = refl

-- the roots of the canonical form are those of the document
subscription_line : (query : Text) (m s : Option Text) → first_line Subscription (root_line Query query ∷ (optional_line Mutation m ++ optional_line Subscription s)) ≡ s
subscription_line query None None = refl
subscription_line query None (Some s) = refl
subscription_line query (Some m) None = refl
subscription_line query (Some m) (Some s) = refl

mutation_line : (query : Text) (m s : Option Text) → first_line Mutation (root_line Query query ∷ (optional_line Mutation m ++ optional_line Subscription s)) ≡ m
mutation_line query None None = refl
mutation_line query None (Some s) = refl
mutation_line query (Some m) None = refl
mutation_line query (Some m) (Some s) = refl

pub canonical_root : (o : Options) (d : Document) (kind : OperationType) → root_of kind (canonical o d) ≡ first_line kind (canonical_roots d)
canonical_root o d kind = ap (λ (b : Option Definition). root_by b kind (canonical o d).definitions) (block_found o d)

pub canonical_subscription : (o : Options) (d : Document) → root_of Subscription (canonical o d) ≡ root_of Subscription d
canonical_subscription o d = canonical_root o d Subscription ∙ subscription_line (query_root d) (root_of Mutation d) (root_of Subscription d)

pub canonical_mutation : (o : Options) (d : Document) → root_of Mutation (canonical o d) ≡ root_of Mutation d
canonical_mutation o d = canonical_root o d Mutation ∙ mutation_line (query_root d) (root_of Mutation d) (root_of Subscription d)

pub canonical_query : (o : Options) (d : Document) → root_of Query (canonical o d) ≡ Some (query_root d)
canonical_query o d = canonical_root o d Query

-- what the test of a document says of its parts
pub record AreFaultless (d : Document) : Type 0 where
  pub types : are_distinct (filter_map type_name d.definitions) ≡ true
  pub directives : are_distinct (filter_map directive_name d.definitions) ≡ true
  pub query : has_query (find is_schema d.definitions) ≡ true
  pub each : list_all (is_faultless (root_of Subscription d)) d.definitions ≡ true

pub parts_faultless : (d : Document) → are_faultless d.definitions ≡ true → AreFaultless d
parts_faultless d e =
    let first = both (are_distinct (filter_map type_name d.definitions)) _ e in
    let second = both (are_distinct (filter_map directive_name d.definitions)) _ first.1 in
    let third = both (has_one_block false d.definitions) _ second.1 in
    let fourth = both (has_query (find is_schema d.definitions)) (list_all (is_faultless (root_of Subscription d)) d.definitions) third.1 in
    record { types = first.0; directives = second.0; query = fourth.0; each = fourth.1 }

-- the canonical form of a document without owner faults has none
pub canonical_faultless : (o : Options) (d : Document) → are_faultless d.definitions ≡ true → are_faultless (canonical o d).definitions ≡ true
canonical_faultless o d e =
    let f = parts_faultless d e in
    let root : Option Text = root_of Subscription d in
    let types : List Definition = canonical_types (document_choice o) root d.definitions in
    let directives : List Definition = directive_definitions (canonical_directives d) in
    let block : List Definition = definition.SchemaBlock (canonical_roots d) 0 ∷ [] in
    let alone = types_alone (document_choice o) root d.definitions in
    let type_names : filter_map type_name (types ++ (directives ++ block)) ≡ filter_map type_name types =
    filter_map-append type_name types (directives ++ block) ∙ ap (λ (l : List Text). filter_map type_name types ++ l) (no_type_names (canonical_directives d) (canonical_roots d)) ∙ append-nil (filter_map type_name types) in
    let names : filter_map directive_name (types ++ (directives ++ block)) ≡ map (λ (c : DirectiveDef). c.name) (canonical_directives d) =
    no_directive_names types (directives ++ block) alone ∙ directive_names (canonical_directives d) (canonical_roots d) in
    let one_block : has_one_block false (types ++ (directives ++ block)) ≡ true = blocks_after types (directives ++ block) (no_blocks types alone) ∙ blocks_after directives block (no_directive_blocks (canonical_directives d)) in
    let lines : list_all (is_faultless root) block ≡ true = join _ _ (lines_distinct (query_root d) (root_of Mutation d) root) refl in
    let each : list_all (is_faultless root) (types ++ (directives ++ block)) ≡ true =
    list_all-append (is_faultless root) types (directives ++ block) (types_pass (document_choice o) root root d.definitions f.each) (list_all-append (is_faultless root) directives block (directives_pass root d f.each) lines) in
    join _ _ (ap are_distinct type_names ∙ types_distinct (document_choice o) root d.definitions f.types)
    (join _ _ (ap are_distinct names ∙ directives_distinct d f.directives)
    (join _ _ one_block
    (join _ _ (ap has_query (block_found o d))
    (subst (λ (r : Option Text). list_all (is_faultless r) (types ++ (directives ++ block)) ≡ true) (sym (canonical_subscription o d)) each))))
