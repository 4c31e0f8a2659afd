-- What is recorded of one definition.
use Rattle.std.proofs.Common.{◌≡◌, ℕ, ◌+◌, ◌<◌, Bool, cond, List, [], ◌∷◌, ◌++◌, length, get_or, take, drop, map, Some, None, Result, Ok, Err, IfSome, IfOk, refl, sym, ap, subst, ◌∙◌, append-nil, append_assoc, add-one, drop-cons}
use Rattle.std.specs.declared.option.Option.{Option}
use Rattle.std.specs.List.{AllByRecursion, IsDistinct, filter_map, cons_option}
use Rattle.std.specs.Map.{keys_of}
use Rattle.std.specs.Str.{bytes_eq}
use Rattle.std.proofs.lemmas.List.{take_more}
use Rattle.gql_text_syntax.specs.declared.operation.OperationType.TheVariants.{Mutation, Subscription}
use Rattle.gql_text_syntax.specs.declared.syntax.WrittenDefinition.{WrittenDefinition}
use Rattle.gql_text.specs.DocumentOf.{definition_of, document_of}
use Rattle.gql_text.specs.Roots.{root_of}
use Rattle.gql_text.specs.declared.document.Document.{Document}
use Rattle.gql_text.specs.declared.document.TypeHead.{TypeHead}
use Rattle.gql_text.specs.declared.document.FieldDef.{FieldDef}
use Rattle.gql_text.specs.declared.document.Definition.{Definition}
use Rattle.gql_text.specs.declared.document.Definition.TheVariants as definition
use Rattle.gql_registry_meta.specs.Parts.{Text, Directive}
use Rattle.gql_dynamic.specs.Errors.{fault_of}
use Rattle.gql_dynamic.specs.SchemaTypes.{TypeParts, type_name, upload}
use Rattle.gql_dynamic.specs.declared.schema_error.SchemaError.{SchemaError}
use Rattle.gql_check_rules.specs.Faults.{Fault}
use Rattle.gql_check_rules.specs.Rules.{first_fault}
use Rattle.gql_check.specs.Names.{IsNewName}
use Rattle.gql_check.specs.Recorded.{Recorded, begun}
use Rattle.gql_check.specs.Recordings.{recorded_of}
use Rattle.gql_check.specs.declared.builder.SchemaBuilder.{SchemaBuilder}
use Rattle.gql_text_lexer.specs.declared.error.OutOfMemory.{OutOfMemory}
use Rattle.gql_publish_document.specs.Clean.{AreDistinct, IsClean}
use Rattle.gql_publish_document.specs.Types.{is_upload, is_root, scalar_parts, object_parts, subscription_parts, type_in, directive_in}
use Rattle.gql_publish_document.specs.Document.{document_recorded, document_schema, entry_of, query_root}
use Rattle.gql_publish_load.specs.declared.error.PublishError.{PublishError}
use Rattle.gql_publish_load.specs.Errors.{Refuses, published_as, published_with}
use Rattle.gql_publish_load.specs.Loading.{AreNewTypes, IsRefusedFor, recorded_with, with_type}
use Rattle.gql_publish_load.proofs.Taken.{filter_map-append, keys_last, none_among}

-- a type more, and no directive
step : Recorded → TypeParts → Recorded
step recorded type = record recorded {
  schema = record recorded.schema { types = recorded.schema.types ++ entry_of type ∷ [] };
  directives = recorded.directives ++ [];
}

one_step : (recorded : Recorded) (type : TypeParts) → with_type recorded type ≡ step recorded type
unfolding step
one_step recorded type = ap (λ ds. record recorded { schema = record recorded.schema { types = recorded.schema.types ++ entry_of type ∷ [] }; directives = ds }) (sym (append-nil recorded.directives))

pub scalar_recorded : (root : Option Text) (recorded : Recorded) (head : TypeHead) (b : Bool) → is_upload head ≡ b → with_type recorded (cond b upload (scalar_parts head)) ≡ recorded_with root recorded (definition.Scalar head ∷ [])
unfolding step
scalar_recorded root recorded head b e = one_step recorded (cond b upload (scalar_parts head)) ∙ ap (λ c. step recorded (cond c upload (scalar_parts head))) (sym e)

pub object_recorded : (root : Option Text) (recorded : Recorded) (head : TypeHead) (implements : List Text) (fields : List FieldDef) (b : Bool) → is_root root head.name ≡ b
    → with_type recorded (cond b (subscription_parts head fields) (object_parts head implements fields)) ≡ recorded_with root recorded (definition.Object head implements fields ∷ [])
unfolding step
object_recorded root recorded head implements fields b e =
    one_step recorded (cond b (subscription_parts head fields) (object_parts head implements fields))
    ∙ ap (λ c. step recorded (cond c (subscription_parts head fields) (object_parts head implements fields))) (sym e)

-- no types stand under their own names, and under different ones
pub own_names : (types : List (Text × TypeParts)) → types ≡ [] → map (λ entry. type_name entry.1) types ≡ keys_of types
own_names types e = subst (λ (ts : List (Text × TypeParts)). map (λ entry. type_name entry.1) ts ≡ keys_of ts) (sym e) refl

pub different_names : (types : List (Text × TypeParts)) → types ≡ [] → IsDistinct bytes_eq (keys_of types)
unfolding IsDistinct
different_names types e = subst (λ (ts : List (Text × TypeParts)). IsDistinct bytes_eq (keys_of ts)) (sym e) tt

-- ---- definitions, one after another

-- a definition of a type
pub one_recorded : (root : Option Text) (recorded : Recorded) (d : Definition) (type : TypeParts) → type_in root d ≡ Some type → directive_in d ≡ None → with_type recorded type ≡ recorded_with root recorded (d ∷ [])
unfolding step
one_recorded root recorded d type e n =
    one_step recorded type
    ∙ ap (λ (o : Option TypeParts). record recorded { schema = record recorded.schema { types = recorded.schema.types ++ map entry_of (cons_option o []) }; directives = recorded.directives ++ [] }) (sym e)
    ∙ ap (λ (o : Option Directive). record recorded { schema = record recorded.schema { types = recorded.schema.types ++ map entry_of (cons_option (type_in root d) []) }; directives = recorded.directives ++ cons_option o [] }) (sym n)

map-append : {X Y : Type 0} (f : X → Y) (xs ys : List X) → map f (xs ++ ys) ≡ map f xs ++ map f ys
map-append f [] ys = refl
map-append f (x ∷ xs) ys = ap (λ l. f x ∷ l) (map-append f xs ys)

-- some definitions, and then others
recorded_then : (root : Option Text) (recorded : Recorded) (xs ys : List Definition) → recorded_with root (recorded_with root recorded xs) ys ≡ recorded_with root recorded (xs ++ ys)
recorded_then root recorded xs ys =
    let T = recorded.schema.types in
    let a : List TypeParts = filter_map (type_in root) xs in
    let b : List TypeParts = filter_map (type_in root) ys in
    let types : (T ++ map entry_of a) ++ map entry_of b ≡ T ++ map entry_of (filter_map (type_in root) (xs ++ ys)) =
    append_assoc T (map entry_of a) (map entry_of b) ∙ ap (λ l. T ++ l) (sym (map-append entry_of a b) ∙ ap (map entry_of) (sym (filter_map-append (type_in root) xs ys))) in
    let directives : (recorded.directives ++ filter_map directive_in xs) ++ filter_map directive_in ys ≡ recorded.directives ++ filter_map directive_in (xs ++ ys) =
    append_assoc recorded.directives (filter_map directive_in xs) (filter_map directive_in ys) ∙ ap (λ l. recorded.directives ++ l) (sym (filter_map-append directive_in xs ys)) in
    ap (λ (t : List (Text × TypeParts)). record recorded { schema = record recorded.schema { types = t }; directives = (recorded.directives ++ filter_map directive_in xs) ++ filter_map directive_in ys }) types
    ∙ ap (λ (ds : List Directive). record recorded { schema = record recorded.schema { types = T ++ map entry_of (filter_map (type_in root) (xs ++ ys)) }; directives = ds }) directives

-- one definition more
pub recorded_more : (root : Option Text) (recorded before after : Recorded) (ds : List WrittenDefinition) (i : ℕ) (d : WrittenDefinition) → i < length ds → d ≡ get_or ds i d
    → before ≡ recorded_with root recorded (map definition_of (take i ds)) → after ≡ recorded_with root before (definition_of d ∷ [])
    → after ≡ recorded_with root recorded (map definition_of (take (i + 1) ds))
recorded_more root recorded before after ds i d h e b a =
    a ∙ ap (λ (r : Recorded). recorded_with root r (definition_of d ∷ [])) b
    ∙ recorded_then root recorded (map definition_of (take i ds)) (definition_of d ∷ [])
    ∙ ap (recorded_with root recorded) (sym (map-append definition_of (take i ds) (d ∷ [])) ∙ ap (map definition_of) (ap (λ x. take i ds ++ x ∷ []) e ∙ sym (take_more ds i d h)))

head_new : (root : Option Text) (recorded : Recorded) (d : Definition) (ds : List Definition) → AreNewTypes root recorded (d ∷ ds)
    → IfSome (type_in root d) (λ type. IsNewName (type_name type) recorded.schema) × AreNewTypes root (recorded_with root recorded (d ∷ [])) ds
head_new root recorded d ds h = by (type_in root d) h
  where
    T : List (Text × TypeParts)
    T = recorded.schema.types

    rest : List Text
    rest = map type_name (filter_map (type_in root) ds)

    by : (o : Option TypeParts) → AreDistinct (keys_of recorded.schema.types ++ map type_name (cons_option o (filter_map (type_in root) ds)))
        → IfSome o (λ type. IsNewName (type_name type) recorded.schema) × AreDistinct (keys_of (recorded.schema.types ++ map entry_of (cons_option o [])) ++ map type_name (filter_map (type_in root) ds))
    by None h = (tt, subst (λ (t : List (Text × TypeParts)). AreDistinct (keys_of t ++ map type_name (filter_map (type_in root) ds))) (sym (append-nil recorded.schema.types)) h)
    by (Some type) h = (
      none_among (type_name type) (keys_of recorded.schema.types) (map type_name (filter_map (type_in root) ds)) h,
      subst AreDistinct (sym (ap (λ l. l ++ map type_name (filter_map (type_in root) ds)) (keys_last recorded.schema.types (entry_of type)) ∙ append_assoc (keys_of recorded.schema.types) (type_name type ∷ []) (map type_name (filter_map (type_in root) ds)))) h,
    )

left : (ds : List WrittenDefinition) (i : ℕ) (d : WrittenDefinition) → i < length ds → d ≡ get_or ds i d → drop i ds ≡ d ∷ drop (i + 1) ds
left ds i d h e = drop_at ds i d h ∙ ap (λ x. x ∷ drop (i + 1) ds) (sym e)
  where
    drop_at : (ds : List WrittenDefinition) (i : ℕ) (d : WrittenDefinition) → i < length ds → drop i ds ≡ get_or ds i d ∷ drop (i + 1) ds
    drop_at ds i d h = rw (add-one, drop-cons ds i d) refl

-- the next definition is new, and those after it stay so
pub next_new : (root : Option Text) (recorded : Recorded) (ds : List WrittenDefinition) (i : ℕ) (d : WrittenDefinition) → i < length ds → d ≡ get_or ds i d → AreNewTypes root recorded (map definition_of (drop i ds))
    → IfSome (type_in root (definition_of d)) (λ type. IsNewName (type_name type) recorded.schema) × AreNewTypes root (recorded_with root recorded (definition_of d ∷ [])) (map definition_of (drop (i + 1) ds))
next_new root recorded ds i d h e n =
    head_new root recorded (definition_of d) (map definition_of (drop (i + 1) ds)) (subst (λ (l : List WrittenDefinition). AreNewTypes root recorded (map definition_of l)) (left ds i d h e) n)

-- the next definition is clean, and so are those after it
pub next_clean : (P : Definition → Type 0) (ds : List WrittenDefinition) (i : ℕ) (d : WrittenDefinition) → i < length ds → d ≡ get_or ds i d → AllByRecursion P (map definition_of (drop i ds)) → P (definition_of d) × AllByRecursion P (map definition_of (drop (i + 1) ds))
next_clean P ds i d h e c =
    let all : AllByRecursion P (map definition_of (d ∷ drop (i + 1) ds)) = subst (λ (l : List WrittenDefinition). AllByRecursion P (map definition_of l)) (left ds i d h e) c in
    (all.0, all.1)

-- all definitions of a document
pub whole_recorded : (tree : List WrittenDefinition) (d : Document) → document_of tree ≡ d
    → recorded_with (root_of Subscription d) (begun (query_root d) (root_of Mutation d) (root_of Subscription d)) (map definition_of tree) ≡ document_recorded d
whole_recorded tree d e =
    subst (λ (x : Document). recorded_with (root_of Subscription x) (begun (query_root x) (root_of Mutation x) (root_of Subscription x)) (map definition_of tree) ≡ document_recorded x) e refl

pub all_new : (tree : List WrittenDefinition) (d : Document) (recorded : Recorded) → document_of tree ≡ d → IsClean d → recorded ≡ begun (query_root d) (root_of Mutation d) (root_of Subscription d)
    → AreNewTypes (root_of Subscription d) recorded (map definition_of tree)
all_new tree d recorded e clean b =
    subst (λ (r : Recorded). AreNewTypes (root_of Subscription d) r (map definition_of tree)) (sym b)
    (subst (λ (ds : List Definition). AreDistinct (map type_name (filter_map (type_in (root_of Subscription d)) ds))) (sym (ap (λ (x : Document). x.definitions) e)) clean.types)

-- a broken rule that is told
pub refused_by : (d : Document) (error : SchemaError) (answer : PublishError) (first : Option Fault) → first ≡ first_fault (document_schema d) → IfSome (fault_of error) (λ fault. first ≡ Some fault)
    → published_as error answer → Refuses (IsRefusedFor d) answer
refused_by d error answer first e h is = by (fault_of error) refl h is
  where
    by : (o : Option Fault) → fault_of error ≡ o → IfSome o (λ fault. first ≡ Some fault) → published_with o error answer → Refuses (IsRefusedFor d) answer
    by (Some fault) f h is = subst (Refuses (IsRefusedFor d)) (sym is) (rw f (sym e ∙ h))
    by None f h is = subst (Refuses (IsRefusedFor d)) (sym is) tt

-- what is recorded in the end
pub whole_built : (tree : List WrittenDefinition) (d : Document) (root : Option Text) (before after : Recorded) → document_of tree ≡ d → root ≡ root_of Subscription d
    → before ≡ begun (query_root d) (root_of Mutation d) (root_of Subscription d) → after ≡ recorded_with root before (map definition_of tree) → after ≡ document_recorded d
whole_built tree d root before after e r b a =
    a ∙ ap (λ (o : Option Text). recorded_with o before (map definition_of tree)) r
    ∙ ap (λ (x : Recorded). recorded_with (root_of Subscription d) x (map definition_of tree)) b
    ∙ whole_recorded tree d e

-- a type that was registered
pub settled : {x g : _} (r : Result (SchemaBuilder x g) OutOfMemory) (before : Recorded) (type same : TypeParts) (after : Recorded) → IfOk r (λ more. recorded_of more ≡ with_type before type)
    → type ≡ same → with_type before same ≡ after → IfOk r (λ more. recorded_of more ≡ after)
settled (Ok more) before type same after h e f = h ∙ ap (with_type before) e ∙ f
settled (Err error) before type same after h e f = tt
