-- A document in which the reader finds no fault is clean.
use Rattle.std.proofs.Common.{◌≡◌, Bool, true, false, cond, ◌||◌, List, [], ◌∷◌, ◌++◌, map, flat_map, Option, Some, None, refl, sym, ap, subst, ◌∙◌, codes}
use Rattle.std.specs.Prelude.{◌&&◌}
use Rattle.std.specs.List.{AllByRecursion, IsDistinct, filter_map, cons_option}
use Rattle.std.specs.Str.{bytes_eq}
use Rattle.std.proofs.lemmas.Slice.Eq.{bytes_eq-Decides}
use Rattle.gql_text_syntax.specs.declared.operation.OperationType.TheVariants.{Subscription}
use Rattle.gql_text_syntax.specs.declared.syntax.PlacedName.{PlacedName}
use Rattle.gql_text_syntax.specs.declared.syntax.Description.{Description}
use Rattle.gql_text_syntax.specs.declared.syntax.Argument.{Argument}
use Rattle.gql_text_syntax.specs.declared.syntax.Use.{Use}
use Rattle.gql_text_syntax.specs.declared.syntax.InputValue.{InputValue}
use Rattle.gql_text_syntax.specs.declared.syntax.Field.{Field}
use Rattle.gql_text_syntax.specs.declared.syntax.EnumValue.{EnumValue}
use Rattle.gql_text_syntax.specs.declared.syntax.Implements.{Implements}
use Rattle.gql_text_syntax.specs.declared.syntax.ObjectLike.{ObjectLike}
use Rattle.gql_text_syntax.specs.declared.syntax.Kind.{Kind}
use Rattle.gql_text_syntax.specs.declared.syntax.Kind.TheVariants as kind
use Rattle.gql_text_syntax.specs.declared.syntax.WrittenDefinition.{WrittenDefinition}
use Rattle.gql_text.specs.DocumentOf.{argument_of, use_of, input_of, field_def_of, enum_value_of, bare_names_of, implements_of, head_of, kind_of, definition_of, document_of}
use Rattle.gql_text.specs.Owners.{Names, no_names, with_seen_name, repeated, duplicates, use_faults, argument_faults, attribute_faults, uses_faults, default_faults, input_faults, inputs_faults, field_faults, fields_faults, enum_value_faults, enum_values_faults, implements_faults, reserved, object_like_faults, subscription_faults, head_faults, kind_faults, definition_faults, type_key, directive_key, type_name_faults, directive_name_faults, second_schemas, query_faults, owner_faults, value_faults}
use Rattle.gql_text.specs.WrittenRoots.{first_schema, is_root as is_written_root}
use Rattle.gql_text.specs.Roots.{root_of}
use Rattle.gql_text.specs.declared.document.TypeHead.{TypeHead}
use Rattle.gql_text.specs.declared.document.FieldDef.{FieldDef}
use Rattle.gql_text_lexer.specs.Forms.{is_reserved}
use Rattle.gql_registry_meta.specs.Parts.{Text, Directive}
use Rattle.gql_dynamic.specs.SchemaTypes.{TypeParts, type_name, upload}
use Rattle.gql_publish_document.specs.Types.{type_in, directive_in, is_upload, scalar_parts, object_parts, subscription_parts, is_root}
use Rattle.gql_publish_document.specs.Clean.{AreDistinct, IsCleanUse, AreCleanUses, IsCleanInput, AreCleanInputs, IsCleanField, AreCleanFields, IsCleanValue, AreCleanValues, IsCleanDefinition, IsClean}

-- ---- lists without a fault

none_both : {X : Type 0} (xs ys : List X) → xs ++ ys ≡ [] → (xs ≡ []) × (ys ≡ [])
none_both [] ys e = (refl, e)
none_both (x ∷ xs) ys e = cc e

none_each : {X Y : Type 0} (f : X → List Y) (xs : List X) → flat_map f xs ≡ [] → AllByRecursion (λ x. f x ≡ []) xs
none_each f [] e = tt
none_each f (x ∷ xs) e = let parts = none_both (f x) (flat_map f xs) e in (parts.0, none_each f xs parts.1)

all_mapped : {X D : Type 0} (of : X → D) (Q : X → Type 0) (P : D → Type 0) → ((x : X) → Q x → P (of x)) → (xs : List X) → AllByRecursion Q xs → AllByRecursion P (map of xs)
all_mapped of Q P f [] h = tt
all_mapped of Q P f (x ∷ xs) h = (f x h.0, all_mapped of Q P f xs h.1)

-- ---- distinct names

no_fault : {X : Type 0} (test : Bool) (fault : X) → cond test (fault ∷ []) [] ≡ [] → test ≡ false
no_fault true fault e = cc e
no_fault false fault e = refl

either_not : (a b : Bool) → a || b ≡ false → (a ≡ false) × (b ≡ false)
either_not true b e = cc e
either_not false b e = (refl, e)

names_in : List PlacedName → List Text
names_in keys = map (λ key. key.name) keys

both_by : (more : Text) (earlier : Names) (names : List Text) → AllByRecursion (λ n. with_seen_name more earlier n ≡ false) names → AllByRecursion (λ n. bytes_eq more n ≡ false) names × AllByRecursion (λ n. earlier n ≡ false) names
both_by more earlier [] h = (tt, tt)
both_by more earlier (n ∷ ns) h =
    let here = either_not (bytes_eq more n) (earlier n) h.0 in
    let rest = both_by more earlier ns h.1 in
    ((here.0, rest.0), (here.1, rest.1))

distinct_from : (earlier : Names) (keys : List PlacedName) → duplicates earlier keys ≡ [] → AllByRecursion (λ n. earlier n ≡ false) (names_in keys) × AreDistinct (names_in keys)
unfolding IsDistinct names_in
distinct_from earlier [] e = (tt, tt)
distinct_from earlier (key ∷ keys) e =
    let parts = none_both (repeated earlier key.name key.at) (duplicates (with_seen_name key.name earlier) keys) e in
    let rest = distinct_from (with_seen_name key.name earlier) keys parts.1 in
    let each = both_by key.name earlier (names_in keys) rest.0 in
    ((no_fault (earlier key.name) _ parts.0, each.1), (each.0, rest.1))

same_names : {X D : Type 0} (key : X → PlacedName) (of : X → D) (name : D → Text) → ((x : X) → (key x).name ≡ name (of x)) → (xs : List X) → names_in (map key xs) ≡ map name (map of xs)
unfolding names_in
same_names key of name f [] = refl
same_names key of name f (x ∷ xs) = ap (λ n. n ∷ names_in (map key xs)) (f x) ∙ ap (λ ns. name (of x) ∷ ns) (same_names key of name f xs)

-- what has distinct keys has distinct names
distinct_names : {X D : Type 0} (key : X → PlacedName) (of : X → D) (name : D → Text) → ((x : X) → (key x).name ≡ name (of x)) → (xs : List X) → duplicates no_names (map key xs) ≡ [] → AreDistinct (map name (map of xs))
distinct_names key of name f xs e = subst AreDistinct (same_names key of name f xs) (distinct_from no_names (map key xs) e).1

distinct_bare : (keys : List PlacedName) → duplicates no_names keys ≡ [] → AreDistinct (bare_names_of keys)
unfolding names_in
distinct_bare keys e = (distinct_from no_names keys e).1

-- ---- uses and members

clean_use : (o : _) (u : Use) → use_faults o u ≡ [] → IsCleanUse (use_of u)
clean_use o u e =
    let arguments = none_both _ (argument_faults u.arguments) e in
    let keys = none_both (duplicates no_names (map (λ a. a.key) u.arguments)) (flat_map (λ a. value_faults a.value) u.arguments) arguments.1 in
    distinct_names (λ (a : Argument). a.key) argument_of (λ argument. argument.0) (λ a. refl) u.arguments keys.0

clean_uses : (o : _) (uses : List Use) → uses_faults o uses ≡ [] → AreCleanUses (map use_of uses)
clean_uses o uses e =
    let each = none_each (use_faults o) uses (none_both (attribute_faults uses) (flat_map (use_faults o) uses) e).1 in
    all_mapped use_of (λ u. use_faults o u ≡ []) IsCleanUse (clean_use o) uses each

clean_input : (i : InputValue) → input_faults i ≡ [] → IsCleanInput (input_of i)
clean_input i e = let h = (none_both (default_faults i.default) _ e).1 in search clean_uses

clean_inputs : (inputs : List InputValue) → inputs_faults inputs ≡ [] → AreCleanInputs (map input_of inputs)
clean_inputs inputs e =
    let parts = none_both (duplicates no_names (map (λ i. i.key) inputs)) (flat_map input_faults inputs) e in (
      distinct_names (λ (i : InputValue). i.key) input_of (λ input. input.name) (λ i. refl) inputs parts.0,
      all_mapped input_of (λ i. input_faults i ≡ []) IsCleanInput clean_input inputs (none_each input_faults inputs parts.1),
    )

clean_field : (f : Field) → field_faults f ≡ [] → IsCleanField (field_def_of f)
clean_field f e =
    let parts = none_both (inputs_faults f.arguments) _ e in
    let uses = parts.1 in
    (clean_inputs f.arguments parts.0, search clean_uses)

clean_fields : (fields : List Field) → fields_faults fields ≡ [] → AreCleanFields (map field_def_of fields)
clean_fields fields e =
    let parts = none_both (duplicates no_names (map (λ f. f.key) fields)) (flat_map field_faults fields) e in (
      distinct_names (λ (f : Field). f.key) field_def_of (λ field. field.name) (λ f. refl) fields parts.0,
      all_mapped field_def_of (λ f. field_faults f ≡ []) IsCleanField clean_field fields (none_each field_faults fields parts.1),
    )

clean_value : (v : EnumValue) → enum_value_faults v ≡ [] → IsCleanValue (enum_value_of v)
clean_value v e = search clean_uses

clean_values : (values : List EnumValue) → enum_values_faults values ≡ [] → AreCleanValues (map enum_value_of values)
clean_values values e =
    let parts = none_both (duplicates no_names (map (λ v. v.key) values)) (flat_map enum_value_faults values) e in (
      distinct_names (λ (v : EnumValue). v.key) enum_value_of (λ value. value.name) (λ v. refl) values parts.0,
      all_mapped enum_value_of (λ v. enum_value_faults v ≡ []) IsCleanValue clean_value values (none_each enum_value_faults values parts.1),
    )

clean_implements : (i : Option Implements) → implements_faults i ≡ [] → AreDistinct (implements_of i)
unfolding IsDistinct
clean_implements None e = tt
clean_implements (Some i) e = distinct_bare i.names e

-- ---- definitions

abbrev CleanObject : ObjectLike → Type 0
CleanObject o = AreCleanUses (map use_of o.uses) × AreDistinct (implements_of o.implements) × AreCleanFields (map field_def_of o.fields)

clean_object : (o : ObjectLike) → object_like_faults o ≡ [] → CleanObject o
clean_object o e =
    let a = none_both (reserved o.key) _ e in
    let b = none_both (implements_faults o.implements) _ a.1 in
    let c = none_both _ (fields_faults o.fields) b.1 in
    let uses = c.0 in
    (search clean_uses, clean_implements o.implements b.0, clean_fields o.fields c.1)

clean_head : (o : _) (key : PlacedName) (uses : List Use) → head_faults key o uses ≡ [] → AreCleanUses (map use_of uses)
clean_head o key uses e = clean_uses o uses (none_both (reserved key) (uses_faults o uses) e).1

clean_kind : (root : Option Text) (d : Option Description) (k : Kind) → kind_faults root d k ≡ [] → IsCleanDefinition (kind_of d k)
clean_kind root d (kind.Schema at uses roots) e = tt
clean_kind root d (kind.Scalar key uses) e = search clean_head
clean_kind root d (kind.Object o) e = clean_object o (none_both (object_like_faults o) (cond (is_written_root root o.key.name) (subscription_faults o) []) e).0
clean_kind root d (kind.Interface o) e = clean_object o e
clean_kind root d (kind.Union key uses members) e =
    let parts = none_both _ (duplicates no_names members) e in
    let head = parts.0 in
    (search clean_head, distinct_bare members parts.1)
clean_kind root d (kind.Enum key uses values) e =
    let parts = none_both _ (enum_values_faults values) e in
    let head = parts.0 in
    (search clean_head, clean_values values parts.1)
clean_kind root d (kind.Input key uses fields) e =
    let parts = none_both _ (inputs_faults fields) e in
    let head = parts.0 in
    (search clean_head, clean_inputs fields parts.1)
clean_kind root d (kind.Directive key arguments repeatable locations) e = clean_inputs arguments e

-- ---- names of types

abbrev names_by : Option PlacedName → List Text → List Text
names_by None names = names
names_by (Some key) names = key.name ∷ names

abbrev parts_by : Option TypeParts → List Text → List Text
parts_by None names = names
parts_by (Some type) names = type_name type ∷ names

first_and : (a b : Bool) → a && b ≡ true → a ≡ true
first_and true b e = refl
first_and false b e = cc e

scalar_name : (head : TypeHead) (b : Bool) → is_upload head ≡ b → type_name (cond b upload (scalar_parts head)) ≡ head.name
scalar_name head true e = sym ((bytes_eq-Decides head.name (codes "Upload")).0 (first_and (bytes_eq head.name (codes "Upload")) _ e))
scalar_name head false e = refl

object_name : (head : TypeHead) (implements : List Text) (fields : List FieldDef) (b : Bool) → type_name (cond b (subscription_parts head fields) (object_parts head implements fields)) ≡ head.name
object_name head implements fields true = refl
object_name head implements fields false = refl

one_name : (root : Option Text) (d : Option Description) (k : Kind) (names : List Text) → names_by (type_key k) names ≡ parts_by (type_in root (kind_of d k)) names
one_name root d (kind.Schema at uses roots) names = refl
one_name root d (kind.Scalar key uses) names = let head = head_of d key uses in ap (λ n. n ∷ names) (sym (scalar_name head (is_upload head) refl))
one_name root d (kind.Object o) names = let head = head_of d o.key o.uses in ap (λ n. n ∷ names) (sym (object_name head (implements_of o.implements) (map field_def_of o.fields) (is_root root head.name)))
one_name root d (kind.Interface o) names = refl
one_name root d (kind.Union key uses members) names = refl
one_name root d (kind.Enum key uses values) names = refl
one_name root d (kind.Input key uses fields) names = refl
one_name root d (kind.Directive key arguments repeatable locations) names = refl

keys_more : (key : Option PlacedName) (keys : List PlacedName) → names_in (cons_option key keys) ≡ names_by key (names_in keys)
unfolding names_in
keys_more None keys = refl
keys_more (Some key) keys = refl

types_more : (type : Option TypeParts) (types : List TypeParts) → map type_name (cons_option type types) ≡ parts_by type (map type_name types)
types_more None types = refl
types_more (Some type) types = refl

-- the types of a document have the names of its definitions
type_names : (root : Option Text) (ds : List WrittenDefinition) → names_in (filter_map (λ d. type_key d.kind) ds) ≡ map type_name (filter_map (type_in root) (map definition_of ds))
unfolding names_in
type_names root [] = refl
type_names root (d ∷ ds) =
    keys_more (type_key d.kind) (filter_map (λ d. type_key d.kind) ds)
    ∙ ap (names_by (type_key d.kind)) (type_names root ds)
    ∙ one_name root d.description d.kind (map type_name (filter_map (type_in root) (map definition_of ds)))
    ∙ sym (types_more (type_in root (definition_of d)) (filter_map (type_in root) (map definition_of ds)))

-- ---- names of directives

directives_by : Option Directive → List Text → List Text
directives_by None names = names
directives_by (Some directive) names = directive.name ∷ names

one_directive : (d : Option Description) (k : Kind) (names : List Text) → names_by (directive_key k) names ≡ directives_by (directive_in (kind_of d k)) names
unfolding directives_by
one_directive d (kind.Schema at uses roots) names = refl
one_directive d (kind.Scalar key uses) names = refl
one_directive d (kind.Object o) names = refl
one_directive d (kind.Interface o) names = refl
one_directive d (kind.Union key uses members) names = refl
one_directive d (kind.Enum key uses values) names = refl
one_directive d (kind.Input key uses fields) names = refl
one_directive d (kind.Directive key arguments repeatable locations) names = refl

directives_more : (directive : Option Directive) (directives : List Directive) → map (λ x. x.name) (cons_option directive directives) ≡ directives_by directive (map (λ x. x.name) directives)
unfolding directives_by
directives_more None directives = refl
directives_more (Some directive) directives = refl

directive_names : (ds : List WrittenDefinition) → names_in (filter_map (λ d. directive_key d.kind) ds) ≡ map (λ x. x.name) (filter_map directive_in (map definition_of ds))
unfolding names_in
directive_names [] = refl
directive_names (d ∷ ds) =
    keys_more (directive_key d.kind) (filter_map (λ d. directive_key d.kind) ds)
    ∙ ap (names_by (directive_key d.kind)) (directive_names ds)
    ∙ one_directive d.description d.kind (map (λ x. x.name) (filter_map directive_in (map definition_of ds)))
    ∙ sym (directives_more (directive_in (definition_of d)) (filter_map directive_in (map definition_of ds)))

-- ---- reserved names

abbrev IsFree : Text → Type 0
IsFree name = is_reserved name ≡ false

free_key : (key : PlacedName) → reserved key ≡ [] → IsFree key.name
free_key key e = no_fault (is_reserved key.name) _ e

free_kind : (root : Option Text) (d : Option Description) (k : Kind) (names : List Text) → kind_faults root d k ≡ [] → AllByRecursion IsFree names → AllByRecursion IsFree (names_by (type_key k) names)
free_kind root d (kind.Schema at uses roots) names e h = h
free_kind root d (kind.Scalar key uses) names e h = (free_key key (none_both (reserved key) _ e).0, h)
free_kind root d (kind.Object o) names e h =
    let like = (none_both (object_like_faults o) (cond (is_written_root root o.key.name) (subscription_faults o) []) e).0 in
    (free_key o.key (none_both (reserved o.key) _ like).0, h)
free_kind root d (kind.Interface o) names e h = (free_key o.key (none_both (reserved o.key) _ e).0, h)
free_kind root d (kind.Union key uses members) names e h =
    let head = (none_both (reserved key ++ _) (duplicates no_names members) e).0 in
    (free_key key (none_both (reserved key) _ head).0, h)
free_kind root d (kind.Enum key uses values) names e h =
    let head = (none_both (reserved key ++ _) (enum_values_faults values) e).0 in
    (free_key key (none_both (reserved key) _ head).0, h)
free_kind root d (kind.Input key uses fields) names e h =
    let head = (none_both (reserved key ++ _) (inputs_faults fields) e).0 in
    (free_key key (none_both (reserved key) _ head).0, h)
free_kind root d (kind.Directive key arguments repeatable locations) names e h = h

free_names : (root : Option Text) (ds : List WrittenDefinition) → AllByRecursion (λ d. definition_faults root d ≡ []) ds → AllByRecursion IsFree (names_in (filter_map (λ d. type_key d.kind) ds))
unfolding names_in
free_names root [] h = tt
free_names root (d ∷ ds) h =
    subst (AllByRecursion IsFree) (sym (keys_more (type_key d.kind) (filter_map (λ d. type_key d.kind) ds))) (free_kind root d.description d.kind (names_in (filter_map (λ d. type_key d.kind) ds)) h.0 (free_names root ds h.1))

-- a document in which no fault was found
pub is_clean : (tree : List WrittenDefinition) → owner_faults tree ≡ [] → IsClean (document_of tree)
is_clean tree e =
    let root = root_of Subscription (document_of tree) in
    let each = flat_map (definition_faults root) tree in
    let a = none_both (type_name_faults tree) (directive_name_faults tree ++ (second_schemas false tree ++ (query_faults (first_schema tree) ++ each))) e in
    let b = none_both (directive_name_faults tree) (second_schemas false tree ++ (query_faults (first_schema tree) ++ each)) a.1 in
    let c = none_both (second_schemas false tree) (query_faults (first_schema tree) ++ each) b.1 in
    let d = none_both (query_faults (first_schema tree)) each c.1 in
    record {
      types = subst AreDistinct (type_names root tree) (distinct_from no_names (filter_map (λ d. type_key d.kind) tree) a.0).1;
      unreserved = subst (AllByRecursion IsFree) (type_names root tree) (free_names root tree (none_each (definition_faults root) tree d.1));
      directives = subst AreDistinct (directive_names tree) (distinct_from no_names (filter_map (λ d. directive_key d.kind) tree) b.0).1;
      definitions = all_mapped definition_of (λ d. definition_faults root d ≡ []) IsCleanDefinition (λ d h. clean_kind root d.description d.kind h) tree (none_each (definition_faults root) tree d.1);
    }
