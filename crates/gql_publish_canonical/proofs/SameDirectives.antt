-- The definitions of directives of a canonical form have the same views.
use Rattle.std.proofs.Common.{◌≡◌, Bool, true, false, cond, List, [], ◌∷◌, ◌++◌, filter, map, Option, None, codes, refl, sym, ap, ap₂, subst, ◌∙◌}
use Rattle.std.proofs.lemmas.List.{append-nil}
use Rattle.std.proofs.lemmas.Simd.{map-map}
use Rattle.std.specs.Prelude.{◌||◌, not, if◌then◌else◌}
use Rattle.std.specs.Cmp.Lexicographic.{bytes_decides}
use Rattle.std.specs.List.{AllByRecursion, filter_map, list_any}
use Rattle.std.specs.Str.{bytes_eq}
use Rattle.gql_text_syntax.specs.declared.operation.OperationType.TheVariants.{Subscription}
use Rattle.gql_text.specs.Roots.{root_of}
use Rattle.gql_text.specs.declared.document.Definition.{Definition}
use Rattle.gql_text.specs.declared.document.Definition.TheVariants as definition
use Rattle.gql_text.specs.declared.document.DirectiveDef.{DirectiveDef}
use Rattle.gql_text.specs.declared.document.Document.{Document}
use Rattle.gql_text.specs.declared.document.InputDef.{InputDef}
use Rattle.gql_text.specs.declared.document.RootLine.{RootLine}
use Rattle.gql_registry_meta.specs.Parts.{Text, InputValue, Directive, Meta, is_among}
use Rattle.gql_registry.specs.System.{skip, include, deprecated, specified_by, one_of}
use Rattle.gql_parts.specs.Builders.{arguments_meta}
use Rattle.gql_dynamic.specs.SchemaTypes.{type_name}
use Rattle.gql_publish_document.specs.Document.{ordered_metas, ordered_directives}
use Rattle.gql_publish_document.specs.Members.{inputs_parts, input_meta_of}
use Rattle.gql_publish_document.specs.Types.{location_named, directive_meta_of}
use Rattle.gql_sdl_view.specs.Options.{Options, Choice, document_choice}
use Rattle.gql_sdl_view.specs.Ordered.{arranged, changed}
use Rattle.gql_sdl_view.specs.View.{bare_argument, viewed_directive, has_deprecated, has_url, has_one_of, is_needed, needed}
use Rattle.gql_sdl_rows.specs.Shown.{directive_definitions}
use Rattle.gql_publish_canonical.proofs.Canonical.{canonical_argument, canonical_type, canonical_directive, system_definitions, own_directives, is_missing, ordered_directive_definitions, canonical_directives, canonical_roots, canonical, ordered_definitions, is_type, type_of}
use Rattle.gql_publish_canonical.proofs.Directives.{ordered_directives_are}
use Rattle.gql_publish_canonical.proofs.FaultlessCanonical.{HasName, named_types}
use Rattle.gql_publish_canonical.proofs.Lists.{arranged_map, all_arranged, filter_map_is}
use Rattle.gql_publish_canonical.proofs.Orders.{again, arranged_filter, any_arranged}
use Rattle.gql_publish_canonical.proofs.SameMembers.{filter_append}
use Rattle.gql_publish_canonical.proofs.SameTypes.{deprecated_same, urls_same, marks_same}

-- ---- which definitions are needed, by their names

abbrev Needs : Type 0
Needs = Bool × (Bool × Bool)

abbrev needed_by : Needs → Text → Bool
needed_by n name = if bytes_eq name (codes "deprecated") then n.0 else if bytes_eq name (codes "specifiedBy") then n.1.0 else if bytes_eq name (codes "oneOf") then n.1.1 else true

abbrev needs_of : List Meta → Needs
needs_of types = (list_any has_deprecated types, (list_any has_url types, list_any has_one_of types))

needs_same : (o : Options) (d : Document) → needs_of (ordered_metas (canonical o d)) ≡ needs_of (ordered_metas d)
needs_same o d = ap₂ (λ (a : Bool) (b : Bool × Bool). (a, b)) (deprecated_same o d) (ap₂ (λ (a b : Bool). (a, b)) (urls_same o d) (marks_same o d))

-- ---- the definitions that a canonical form has itself

abbrev test_of : Needs → DirectiveDef → Bool
test_of n c = needed_by n c.name

chosen_twice : {X : Type 0} (test : X → Bool) (xs : List X) → filter test (filter test xs) ≡ filter test xs
chosen_twice test [] = refl
chosen_twice {X} test (x ∷ xs) = by_test (test x) refl (chosen_twice test xs)
  where
    by_test : (t : Bool) → test x ≡ t → filter test (filter test xs) ≡ filter test xs → filter test (cond t (x ∷ filter test xs) (filter test xs)) ≡ cond t (x ∷ filter test xs) (filter test xs)
    by_test true e h = rw e (ap (λ (l : List X). x ∷ l) h)
    by_test false e h = h

no_own : (choice : Choice) (ds rest : List Definition) → AllByRecursion HasName ds → own_directives (map (canonical_type choice) ds ++ rest) ≡ own_directives rest
no_own choice [] rest a = refl
no_own choice (definition.SchemaBlock roots at ∷ ds) rest a = no_own choice ds rest a.1
no_own choice (definition.Scalar head ∷ ds) rest a = no_own choice ds rest a.1
no_own choice (definition.Object head implements fields ∷ ds) rest a = no_own choice ds rest a.1
no_own choice (definition.Interface head implements fields ∷ ds) rest a = no_own choice ds rest a.1
no_own choice (definition.Union head members ∷ ds) rest a = no_own choice ds rest a.1
no_own choice (definition.Enum head values ∷ ds) rest a = no_own choice ds rest a.1
no_own choice (definition.Input head fields ∷ ds) rest a = no_own choice ds rest a.1
no_own choice (definition.Directive directive ∷ ds) rest a = let no = a.0 in absurd cc

all_own : (cs : List DirectiveDef) (roots : List RootLine) → own_directives (directive_definitions cs ++ definition.SchemaBlock roots 0 ∷ []) ≡ cs
all_own [] roots = refl
all_own (c ∷ cs) roots = ap (λ (l : List DirectiveDef). c ∷ l) (all_own cs roots)

canonical_own : (o : Options) (d : Document) → own_directives (canonical o d).definitions ≡ canonical_directives d
canonical_own o d =
    let root : Option Text = root_of Subscription d in
    no_own (document_choice o) (ordered_definitions root d.definitions) (directive_definitions (canonical_directives d) ++ definition.SchemaBlock (canonical_roots d) 0 ∷ [])
    (all_arranged HasName (λ (c : Definition). type_name (type_of root c)) true (filter (is_type root) d.definitions) (named_types root d.definitions))
    ∙ all_own (canonical_directives d) (canonical_roots d)

-- ---- no definition that is needed is missing

abbrev has_name : Text → List DirectiveDef → Bool
has_name name cs = list_any (λ c. bytes_eq name c.name) cs

-- one of this name passes a test of names
passes : (name : Text) (test : Text → Bool) → test name ≡ true → (cs : List DirectiveDef) → has_name name cs ≡ true → has_name name (filter (λ c. test c.name) cs) ≡ true
passes name test p [] e = absurd cc
passes name test p (c ∷ cs) e = by_name (bytes_eq name c.name) refl e (λ f. passes name test p cs f)
  where
    or_right : (a b : Bool) → b ≡ true → (a || b) ≡ true
    or_right true b e = refl
    or_right false b e = e

    kept : (t : Bool) → has_name name (filter (λ c. test c.name) cs) ≡ true → has_name name (cond t (c ∷ filter (λ c. test c.name) cs) (filter (λ c. test c.name) cs)) ≡ true
    kept true h = or_right (bytes_eq name c.name) _ h
    kept false h = h

    by_name : (t : Bool) → bytes_eq name c.name ≡ t → (t || has_name name cs) ≡ true → (has_name name cs ≡ true → has_name name (filter (λ c. test c.name) cs) ≡ true) → has_name name (filter (λ c. test c.name) (c ∷ cs)) ≡ true
    by_name true f g h =
        let same : test c.name ≡ true = subst (λ (n : Text). test n ≡ true) ((bytes_decides name c.name).0 f) p in
        rw (same, f) refl
    by_name false f g h = kept (test c.name) (h g)

any_append : {X : Type 0} (test : X → Bool) (xs ys : List X) → list_any test (xs ++ ys) ≡ (list_any test xs || list_any test ys)
any_append test [] ys = refl
any_append test (x ∷ xs) ys = ap (λ (b : Bool). test x || b) (any_append test xs ys) ∙ or_assoc (test x) (list_any test xs) (list_any test ys)
  where
    or_assoc : (a b c : Bool) → (a || (b || c)) ≡ ((a || b) || c)
    or_assoc true b c = refl
    or_assoc false b c = refl

among_is : (name : Text) (cs : List DirectiveDef) → is_among name (map (λ (c : DirectiveDef). c.name) cs) ≡ has_name name cs
among_is name [] = refl
among_is name (c ∷ cs) = ap (λ (b : Bool). bytes_eq name c.name || b) (among_is name cs)

-- a system's definition that is needed stands among those that a document has or is given
found_among : (n : Needs) (ds : List Definition) (s : DirectiveDef) → has_name s.name system_definitions ≡ true → needed_by n s.name ≡ true → has_name s.name (filter (test_of n) (ordered_directive_definitions ds)) ≡ true
found_among n ds s e p =
    let own : List DirectiveDef = own_directives ds in
    let added : List DirectiveDef = filter (is_missing own) system_definitions in
    ap (has_name s.name) (arranged_filter (λ (c : DirectiveDef). c.name) (test_of n) (own ++ added)) ∙ any_arranged (λ (c : DirectiveDef). c.name) true (λ (c : DirectiveDef). bytes_eq s.name c.name) (filter (test_of n) (own ++ added))
    ∙ passes s.name (needed_by n) p (own ++ added) (any_append (λ (c : DirectiveDef). bytes_eq s.name c.name) own added ∙ by_own (has_name s.name own) refl)
  where
    by_own : (t : Bool) → has_name s.name (own_directives ds) ≡ t → (t || has_name s.name (filter (is_missing (own_directives ds)) system_definitions)) ≡ true
    by_own true f = refl
    by_own false f = passes s.name (λ (m : Text). not (is_among m (map (λ (c : DirectiveDef). c.name) (own_directives ds)))) (ap not (among_is s.name (own_directives ds) ∙ f)) system_definitions e

none_missing : {X : Type 0} (test missing : X → Bool) (xs : List X) → AllByRecursion (λ x. test x ≡ true → missing x ≡ false) xs → filter test (filter missing xs) ≡ []
none_missing test missing [] a = refl
none_missing {X} test missing (x ∷ xs) a = by_test (missing x) (test x) refl refl a.0 (none_missing test missing xs a.1)
  where
    by_test : (m t : Bool) → missing x ≡ m → test x ≡ t → (test x ≡ true → missing x ≡ false) → filter test (filter missing xs) ≡ [] → filter test (cond m (x ∷ filter missing xs) (filter missing xs)) ≡ []
    by_test true true e f g h = let clash : true ≡ false = sym e ∙ g f in absurd cc
    by_test true false e f g h = rw f h
    by_test false t e f g h = h

-- each has its own name among them
system_names : AllByRecursion (λ s. has_name s.name system_definitions ≡ true) system_definitions
unfolding skip include deprecated specified_by one_of
system_names = (refl, (refl, (refl, (refl, (refl, tt)))))

names_of_canonical : (cs : List DirectiveDef) (name : Text) → has_name name (map canonical_directive cs) ≡ has_name name cs
names_of_canonical [] name = refl
names_of_canonical (c ∷ cs) name = ap (λ (b : Bool). bytes_eq name c.name || b) (names_of_canonical cs name)

-- ---- the law

-- the definitions that are needed, in name order
abbrev chosen : Document → List DirectiveDef
chosen d = filter (test_of (needs_of (ordered_metas d))) (ordered_directive_definitions d.definitions)

chosen_again : (d : Document) → arranged (λ (c : DirectiveDef). c.name) true (canonical_directives d) ≡ canonical_directives d
chosen_again d =
    let name : DirectiveDef → Text = λ c. c.name in
    let test : DirectiveDef → Bool = test_of (needs_of (ordered_metas d)) in
    let own : List DirectiveDef = own_directives d.definitions in
    let all : List DirectiveDef = own ++ filter (is_missing own) system_definitions in
    arranged_map canonical_directive name true (chosen d)
    ∙ ap (map canonical_directive) (ap (arranged name true) (arranged_filter name test all) ∙ again name true (filter test all) ∙ sym (arranged_filter name test all))

none_added : (d : Document) → filter (test_of (needs_of (ordered_metas d))) (filter (is_missing (canonical_directives d)) system_definitions) ≡ []
none_added d =
    let n : Needs = needs_of (ordered_metas d) in
    none_missing (test_of n) (is_missing (canonical_directives d)) system_definitions (each system_definitions system_names)
  where
    each : (xs : List DirectiveDef) → AllByRecursion (λ s. has_name s.name system_definitions ≡ true) xs
        → AllByRecursion (λ s. needed_by (needs_of (ordered_metas d)) s.name ≡ true → is_missing (canonical_directives d) s ≡ false) xs
    each [] a = tt
    each (s ∷ xs) a = (
      (λ p. ap not (among_is s.name (canonical_directives d) ∙ names_of_canonical (chosen d) s.name ∙ found_among (needs_of (ordered_metas d)) d.definitions s a.0 p)),
      each xs a.1,
    )

-- the definitions that the canonical form needs are its own
canonical_chosen : (o : Options) (d : Document) → chosen (canonical o d) ≡ canonical_directives d
canonical_chosen o d =
    let name : DirectiveDef → Text = λ c. c.name in
    let test : DirectiveDef → Bool = test_of (needs_of (ordered_metas d)) in
    let cs : List DirectiveDef = canonical_directives d in
    let added : List DirectiveDef = filter (is_missing cs) system_definitions in
    ap₂ (λ (n : Needs) (own : List DirectiveDef). filter (test_of n) (arranged name true (own ++ filter (is_missing own) system_definitions))) (needs_same o d) (canonical_own o d)
    ∙ arranged_filter name test (cs ++ added)
    ∙ ap (arranged name true)
    (filter_append test cs added ∙ ap₂ (λ (a b : List DirectiveDef). a ++ b) (filter_map_is canonical_directive test (chosen d) ∙ ap (map canonical_directive) (chosen_twice test (ordered_directive_definitions d.definitions))) (none_added d) ∙ append-nil cs)
    ∙ chosen_again d

arguments_same : (is : List InputDef) → changed bare_argument (arguments_meta (inputs_parts (map canonical_argument is))) ≡ changed bare_argument (arguments_meta (inputs_parts is))
arguments_same [] = refl
arguments_same (i ∷ is) = ap (λ (l : List (Text × InputValue)). (i.name, bare_argument (input_meta_of i)) ∷ l) (arguments_same is)

directive_same : (c : DirectiveDef) → viewed_directive (directive_meta_of (canonical_directive c)) ≡ viewed_directive (directive_meta_of c)
directive_same c =
    ap (λ (args : List (Text × InputValue)). record {
      name = c.name;
      description = c.description;
      locations = filter_map location_named c.locations;
      args = args;
      is_repeatable = c.repeatable;
      visible = None;
      composable = None;
    }) (arguments_same c.args)

-- what a view has of them
views_are : (d : Document) → map viewed_directive (needed (ordered_metas d) (ordered_directives d)) ≡ map (λ (c : DirectiveDef). viewed_directive (directive_meta_of c)) (chosen d)
views_are d =
    ap (λ (l : List Directive). map viewed_directive (filter (is_needed (ordered_metas d)) l)) (ordered_directives_are d)
    ∙ ap (map viewed_directive) (filter_map_is directive_meta_of (is_needed (ordered_metas d)) (ordered_directive_definitions d.definitions))
    ∙ map-map viewed_directive directive_meta_of (chosen d)

pub directives_same : (o : Options) (d : Document) → map viewed_directive (needed (ordered_metas (canonical o d)) (ordered_directives (canonical o d))) ≡ map viewed_directive (needed (ordered_metas d) (ordered_directives d))
directives_same o d =
    views_are (canonical o d) ∙ ap (map (λ (c : DirectiveDef). viewed_directive (directive_meta_of c))) (canonical_chosen o d) ∙ each (chosen d) ∙ sym (views_are d)
  where
    each : (cs : List DirectiveDef) → map (λ (c : DirectiveDef). viewed_directive (directive_meta_of c)) (map canonical_directive cs) ≡ map (λ (c : DirectiveDef). viewed_directive (directive_meta_of c)) cs
    each [] = refl
    each (c ∷ cs) = ap₂ (λ (x : Directive) (xs : List Directive). x ∷ xs) (directive_same c) (each cs)
