-- The types of a canonical form stand in the view in the same order, and need the same definitions of directives.
use Rattle.std.proofs.Common.{◌≡◌, Bool, true, List, [], ◌∷◌, ◌++◌, filter, map, Option, refl, sym, ap, ap₂, ◌∙◌}
use Rattle.std.proofs.lemmas.List.{append-nil}
use Rattle.std.proofs.lemmas.List.Elements.{filter_map-append}
use Rattle.std.proofs.lemmas.Simd.{map-map}
use Rattle.std.specs.Prelude.{◌||◌}
use Rattle.std.specs.List.{AllByRecursion, filter_map, list_any}
use Rattle.std.specs.Map.{values_of}
use Rattle.gql_text_syntax.specs.declared.operation.OperationType.TheVariants.{Subscription}
use Rattle.gql_text.specs.Roots.{root_of}
use Rattle.gql_text.specs.declared.document.Definition.{Definition}
use Rattle.gql_text.specs.declared.document.Definition.TheVariants as definition
use Rattle.gql_text.specs.declared.document.DirectiveDef.{DirectiveDef}
use Rattle.gql_text.specs.declared.document.Document.{Document}
use Rattle.gql_text.specs.declared.document.RootLine.{RootLine}
use Rattle.gql_registry_meta.specs.Parts.{Text, Field, EnumValue, Meta, scalar, object, interface, union, enum, input_object, is_deprecated}
use Rattle.gql_dynamic.specs.SchemaTypes.{TypeParts, type_name, type_meta, interfaces}
use Rattle.gql_publish_document.specs.Document.{document_types, ordered_types, ordered_metas}
use Rattle.gql_publish_document.specs.Types.{type_in}
use Rattle.gql_sdl_view.specs.Options.{Options, Choice, document_choice}
use Rattle.gql_sdl_view.specs.Ordered.{arranged, changed}
use Rattle.gql_sdl_view.specs.View.{viewed_field, viewed_value, viewed_type, has_deprecated, has_url, has_one_of}
use Rattle.gql_sdl_rows.specs.Shown.{directive_definitions}
use Rattle.gql_publish_canonical.proofs.Canonical.{canonical_type, type_of, is_type, ordered_definitions, canonical_types, canonical_directives, canonical_roots, canonical}
use Rattle.gql_publish_canonical.proofs.FaultlessCanonical.{HasName, named_types, canonical_subscription}
use Rattle.gql_publish_canonical.proofs.Lists.{arranged_map, all_arranged, filter_all}
use Rattle.gql_publish_canonical.proofs.Orders.{again, any_arranged}
use Rattle.gql_publish_canonical.proofs.SameViews.{type_same, name_same, interfaces_same}
use Rattle.gql_publish_canonical.proofs.Types.{ordered_are}

-- ---- the types of the canonical form

all_defined : (choice : Choice) (root : Option Text) (ds : List Definition) → AllByRecursion HasName ds → filter_map (type_in root) (map (canonical_type choice) ds) ≡ map (λ (d : Definition). type_of root (canonical_type choice d)) ds
all_defined choice root [] a = refl
all_defined choice root (definition.SchemaBlock roots at ∷ ds) a = let no = a.0 in absurd cc
all_defined choice root (definition.Scalar head ∷ ds) a = ap (λ (l : List TypeParts). type_of root (canonical_type choice (definition.Scalar head)) ∷ l) (all_defined choice root ds a.1)
all_defined choice root (definition.Object head implements fields ∷ ds) a = ap (λ (l : List TypeParts). type_of root (canonical_type choice (definition.Object head implements fields)) ∷ l) (all_defined choice root ds a.1)
all_defined choice root (definition.Interface head implements fields ∷ ds) a = ap (λ (l : List TypeParts). type_of root (canonical_type choice (definition.Interface head implements fields)) ∷ l) (all_defined choice root ds a.1)
all_defined choice root (definition.Union head members ∷ ds) a = ap (λ (l : List TypeParts). type_of root (canonical_type choice (definition.Union head members)) ∷ l) (all_defined choice root ds a.1)
all_defined choice root (definition.Enum head values ∷ ds) a = ap (λ (l : List TypeParts). type_of root (canonical_type choice (definition.Enum head values)) ∷ l) (all_defined choice root ds a.1)
all_defined choice root (definition.Input head fields ∷ ds) a = ap (λ (l : List TypeParts). type_of root (canonical_type choice (definition.Input head fields)) ∷ l) (all_defined choice root ds a.1)
all_defined choice root (definition.Directive directive ∷ ds) a = let no = a.0 in absurd cc

none_defined : (root : Option Text) (cs : List DirectiveDef) (roots : List RootLine) → filter_map (type_in root) (directive_definitions cs ++ definition.SchemaBlock roots 0 ∷ []) ≡ []
none_defined root [] roots = refl
none_defined root (c ∷ cs) roots = none_defined root cs roots

abbrev pub ordered_in : Document → List Definition
ordered_in d = ordered_definitions (root_of Subscription d) d.definitions

pub canonical_types_are : (o : Options) (d : Document) → document_types (canonical o d) ≡ map (λ (c : Definition). type_of (root_of Subscription d) (canonical_type (document_choice o) c)) (ordered_in d)
canonical_types_are o d =
    let root : Option Text = root_of Subscription d in
    let types : List Definition = canonical_types (document_choice o) root d.definitions in
    let more : List Definition = directive_definitions (canonical_directives d) ++ definition.SchemaBlock (canonical_roots d) 0 ∷ [] in
    ap (λ (r : Option Text). filter_map (type_in r) (types ++ more)) (canonical_subscription o d)
    ∙ filter_map-append (type_in root) types more ∙ ap (λ (l : List TypeParts). filter_map (type_in root) types ++ l) (none_defined root (canonical_directives d) (canonical_roots d)) ∙ append-nil (filter_map (type_in root) types)
    ∙ all_defined (document_choice o) root (ordered_in d) (all_arranged HasName (λ (c : Definition). type_name (type_of root c)) true (filter (is_type root) d.definitions) (named_types root d.definitions))

pub canonical_ordered : (o : Options) (d : Document) → ordered_types (canonical o d) ≡ map (λ (c : Definition). type_of (root_of Subscription d) (canonical_type (document_choice o) c)) (ordered_in d)
canonical_ordered o d =
    let root : Option Text = root_of Subscription d in
    let made : Definition → TypeParts = λ c. type_of root (canonical_type (document_choice o) c) in
    let name : Definition → Text = λ c. type_name (type_of root c) in
    ap (arranged type_name true) (canonical_types_are o d) ∙ arranged_map made type_name true (ordered_in d)
    ∙ ap (λ (n : Definition → Text). map made (arranged n true (ordered_in d))) (λ i c. name_same (document_choice o) root c i) ∙ ap (map made) (again name true (filter (is_type root) d.definitions))

pub own_ordered : (d : Document) → ordered_types d ≡ map (type_of (root_of Subscription d)) (ordered_in d)
own_ordered d = ordered_are (root_of Subscription d) d.definitions

-- ---- what is the same of each type

pointwise : {X Y Z : Type 0} (f g : X → Y) (h : Y → Z) → ((x : X) → h (f x) ≡ h (g x)) → (xs : List X) → map h (map f xs) ≡ map h (map g xs)
pointwise f g h same [] = refl
pointwise {X} {Y} {Z} f g h same (x ∷ xs) = ap₂ (λ (z : Z) (zs : List Z). z ∷ zs) (same x) (pointwise f g h same xs)

-- what is the same of each type is the same of all in name order
pub each_same : {Z : Type 0} (o : Options) (d : Document) (of : TypeParts → Z) → ((c : Definition) → of (type_of (root_of Subscription d) (canonical_type (document_choice o) c)) ≡ of (type_of (root_of Subscription d) c))
    → map of (ordered_types (canonical o d)) ≡ map of (ordered_types d)
each_same o d of same =
    let root : Option Text = root_of Subscription d in
    ap (map of) (canonical_ordered o d) ∙ pointwise (λ (c : Definition). type_of root (canonical_type (document_choice o) c)) (type_of root) of same (ordered_in d) ∙ sym (ap (map of) (own_ordered d))

pub views_same : (o : Options) (d : Document) → map (viewed_type (document_choice o) (root_of Subscription d)) (ordered_metas (canonical o d)) ≡ map (viewed_type (document_choice o) (root_of Subscription d)) (ordered_metas d)
views_same o d =
    let root : Option Text = root_of Subscription d in
    let view : TypeParts → Meta = λ t. viewed_type (document_choice o) root (type_meta t) in
    map-map (viewed_type (document_choice o) root) type_meta (ordered_types (canonical o d)) ∙ each_same o d view (type_same o root) ∙ sym (map-map (viewed_type (document_choice o) root) type_meta (ordered_types d))

pub implements_same : (o : Options) (d : Document) → map interfaces (ordered_types (canonical o d)) ≡ map interfaces (ordered_types d)
implements_same o d = each_same o d interfaces (interfaces_same (document_choice o) (root_of Subscription d))

-- ---- what types need

any_made : {X Y : Type 0} (of : X → Y) (test : Y → Bool) (xs : List X) → list_any test (map of xs) ≡ list_any (λ x. test (of x)) xs
any_made of test [] = refl
any_made of test (x ∷ xs) = ap (λ (b : Bool). test (of x) || b) (any_made of test xs)

-- a test of members that a view does not change
any_viewed : {M : Type 0} (name : M → Text) (t : Bool) (view : M → M) (test : M → Bool) → ((m : M) → test (view m) ≡ test m) → (es : List (Text × M))
    → list_any test (values_of (arranged (λ (e : Text × M). name e.1) t (changed view es))) ≡ list_any test (values_of es)
any_viewed {M} name t view test same es =
    any_made (λ (e : Text × M). e.1) test (arranged (λ (e : Text × M). name e.1) t (changed view es)) ∙ any_arranged (λ (e : Text × M). name e.1) t (λ (e : Text × M). test e.1) (changed view es)
    ∙ any_made (λ (e : Text × M). (e.0, view e.1)) (λ (e : Text × M). test e.1) es ∙ ap (λ (p : Text × M → Bool). list_any p es) (λ i e. same e.1 i) ∙ sym (any_made (λ (e : Text × M). e.1) test es)

viewed_deprecated : (o : Options) (root : Option Text) (m : Meta) → has_deprecated (viewed_type (document_choice o) root m) ≡ has_deprecated m
viewed_deprecated o root (scalar type) = refl
viewed_deprecated o root (object type) =
    any_viewed (λ (f : Field). f.name) o.sorted_fields (viewed_field (document_choice o)) (λ (f : Field). is_deprecated f.deprecation) (λ f. refl) (filter (λ (e : Text × Field). true) type.fields)
    ∙ ap (λ (es : List (Text × Field)). list_any (λ (f : Field). is_deprecated f.deprecation) (values_of es)) (filter_all type.fields)
viewed_deprecated o root (interface type) = refl
viewed_deprecated o root (union type) = refl
viewed_deprecated o root (enum type) = any_viewed (λ (v : EnumValue). v.name) o.sorted_enum_items viewed_value (λ (v : EnumValue). is_deprecated v.deprecation) (λ v. refl) type.enum_values
viewed_deprecated o root (input_object type) = refl

viewed_url : (o : Options) (root : Option Text) (m : Meta) → has_url (viewed_type (document_choice o) root m) ≡ has_url m
viewed_url o root (scalar type) = refl
viewed_url o root (object type) = refl
viewed_url o root (interface type) = refl
viewed_url o root (union type) = refl
viewed_url o root (enum type) = refl
viewed_url o root (input_object type) = refl

viewed_mark : (o : Options) (root : Option Text) (m : Meta) → has_one_of (viewed_type (document_choice o) root m) ≡ has_one_of m
viewed_mark o root (scalar type) = refl
viewed_mark o root (object type) = refl
viewed_mark o root (interface type) = refl
viewed_mark o root (union type) = refl
viewed_mark o root (enum type) = refl
viewed_mark o root (input_object type) = refl

-- a test of types that looks at their views alone
pub any_same : (o : Options) (d : Document) (test : Meta → Bool) → ((m : Meta) → test (viewed_type (document_choice o) (root_of Subscription d) m) ≡ test m) → list_any test (ordered_metas (canonical o d)) ≡ list_any test (ordered_metas d)
any_same o d test same =
    let root : Option Text = root_of Subscription d in
    let view : Meta → Meta = viewed_type (document_choice o) root in
    let over : (ms : List Meta) → list_any test ms ≡ list_any test (map view ms) = λ ms. ap (λ (p : Meta → Bool). list_any p ms) (λ i m. sym (same m) i) ∙ sym (any_made view test ms) in
    over (ordered_metas (canonical o d)) ∙ ap (list_any test) (views_same o d) ∙ sym (over (ordered_metas d))

pub deprecated_same : (o : Options) (d : Document) → list_any has_deprecated (ordered_metas (canonical o d)) ≡ list_any has_deprecated (ordered_metas d)
deprecated_same o d = any_same o d has_deprecated (viewed_deprecated o (root_of Subscription d))

pub urls_same : (o : Options) (d : Document) → list_any has_url (ordered_metas (canonical o d)) ≡ list_any has_url (ordered_metas d)
urls_same o d = any_same o d has_url (viewed_url o (root_of Subscription d))

pub marks_same : (o : Options) (d : Document) → list_any has_one_of (ordered_metas (canonical o d)) ≡ list_any has_one_of (ordered_metas d)
marks_same o d = any_same o d has_one_of (viewed_mark o (root_of Subscription d))
