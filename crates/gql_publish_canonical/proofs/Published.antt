-- The text of the view of a document is that of a document again: of its canonical form, apart from places.
use Rattle.std.proofs.Common.{◌≡◌, Bool, true, false, cond, List, [], ◌∷◌, ◌++◌, filter, Option, Some, None, refl, ℕ, zero, suc}
use Rattle.std.specs.Prelude.{if◌then◌else◌, ◌||◌, replicate}
use Rattle.std.specs.List.{AllByRecursion, find, list_any}
use Rattle.std.specs.Option.{is_some, option_map, unwrap_or}
use Rattle.std.specs.Str.{IsUtf8}
use Rattle.gql_text_lexer.specs.Bytes.{space, tab}
use Rattle.gql_text_lexer.specs.Forms.{IsName}
use Rattle.gql_text_syntax.specs.declared.operation.OperationType.{OperationType}
use Rattle.gql_text_syntax.specs.declared.operation.OperationType.TheVariants.{Query, Mutation, Subscription}
use Rattle.gql_text.specs.Roots.{root_of, root_by, root_line as first_line, lines_of, is_schema, same_operation}
use Rattle.gql_text.specs.Verdict.{Spells}
use Rattle.gql_text.specs.declared.document.Definition.{Definition}
use Rattle.gql_text.specs.declared.document.Definition.TheVariants as definition
use Rattle.gql_text.specs.declared.document.DirectiveDef.{DirectiveDef}
use Rattle.gql_text.specs.declared.document.Document.{Document}
use Rattle.gql_text.specs.declared.document.RootLine.{RootLine}
use Rattle.gql_registry_meta.specs.Parts.{Text}
use Rattle.gql_publish_document.specs.Document.{ordered_metas, query_root, document_view}
use Rattle.gql_publish_document.specs.Types.{directive_meta_of}
use Rattle.gql_sdl_readback.proofs.Lists.{AreBlank}
use Rattle.gql_sdl_view.specs.Options.{Options, document_choice, indent_of, layout_of}
use Rattle.gql_sdl_view.specs.Spelling.{spell}
use Rattle.gql_sdl_rows.specs.Faultless.{has_query}
use Rattle.gql_sdl_rows.specs.Shown.{optional_line, directive_definitions}
use Rattle.gql_sdl_rows.proofs.Documents.{AreSound}
use Rattle.gql_sdl_rows.proofs.Parts.{IsSoundDirective, IsSoundDefinition}
use Rattle.gql_sdl_rows.proofs.ReadAgain.{IsReadAs, view_says, document_is}
use Rattle.gql_sdl_view.specs.View.{is_needed}
use Rattle.gql_publish_canonical.proofs.Canonical.{type_of, is_type, ordered_definitions, canonical_types, canonical_directive, ordered_directive_definitions, canonical_directives, canonical_roots, canonical}
use Rattle.gql_publish_canonical.proofs.FaultlessCanonical.{parts_faultless, canonical_faultless}
use Rattle.gql_publish_canonical.proofs.Lists.{all_arranged, all_filter, all_append, all_map}
use Rattle.gql_publish_canonical.proofs.Shown.{document_shows}
use Rattle.gql_publish_canonical.proofs.Sound.{types_sound, directive_sound, ordered_sound, IsNamed, root_named}
use Rattle.gql_dynamic.specs.SchemaTypes.{type_name}

-- ---- the roots have names

line_there : (lines : List RootLine) → list_any (λ (l : RootLine). same_operation Query l.kind) lines ≡ true → is_some (first_line Query lines) ≡ true
line_there [] e = absurd cc
line_there (l ∷ lines) e = by_test (same_operation Query l.kind) e (λ f. line_there lines f)
  where
    by_test : (t : Bool) → (t || list_any (λ (l : RootLine). same_operation Query l.kind) lines) ≡ true → (list_any (λ (l : RootLine). same_operation Query l.kind) lines ≡ true → is_some (first_line Query lines) ≡ true)
        → is_some (option_map (λ (l : RootLine). l.name) (cond t (Some l) (find (λ (l : RootLine). same_operation Query l.kind) lines))) ≡ true
    by_test true f h = refl
    by_test false f h = h f

query_there : (o : Option Definition) (ds : List Definition) → has_query o ≡ true → is_some (root_by o Query ds) ≡ true
query_there None ds e = refl
query_there (Some schema) ds e = line_there (lines_of schema) e

query_named : (o : Option Text) → is_some o ≡ true → IsNamed o → IsName (unwrap_or o [])
query_named None e n = absurd cc
query_named (Some name) e n = n

-- the name of the query root is one
pub query_is : (d : Document) → has_query (find is_schema d.definitions) ≡ true → AreSound d.definitions → IsName (query_root d)
query_is d e a = query_named (root_of Query d) (query_there (find is_schema d.definitions) d.definitions e) (root_named Query d a)

-- the query root is the one that a document names
pub query_some : (d : Document) → has_query (find is_schema d.definitions) ≡ true → root_of Query d ≡ Some (query_root d)
query_some d e = by_option (root_of Query d) (query_there (find is_schema d.definitions) d.definitions e)
  where
    by_option : (o : Option Text) → is_some o ≡ true → o ≡ Some (unwrap_or o [])
    by_option None f = absurd cc
    by_option (Some name) f = refl

optional_named : (kind : OperationType) (o : Option Text) → IsNamed o → AllByRecursion (λ (l : RootLine). IsName l.name) (optional_line kind o)
optional_named kind None n = tt
optional_named kind (Some name) n = (n, tt)

roots_named : (d : Document) → has_query (find is_schema d.definitions) ≡ true → AreSound d.definitions → AllByRecursion (λ (l : RootLine). IsName l.name) (canonical_roots d)
roots_named d e a = (
  query_is d e a,
  all_append (λ (l : RootLine). IsName l.name) (optional_line Mutation (root_of Mutation d)) (optional_line Subscription (root_of Subscription d)) (optional_named Mutation (root_of Mutation d) (root_named Mutation d a))
      (optional_named Subscription (root_of Subscription d) (root_named Subscription d a)),
)

-- ---- the canonical form is sound

pub canonical_sound : (o : Options) (d : Document) → has_query (find is_schema d.definitions) ≡ true → AreSound d.definitions → AreSound (canonical o d).definitions
canonical_sound o d e a =
    let root : Option Text = root_of Subscription d in
    let ordered : List Definition = ordered_definitions root d.definitions in
    let types : List Definition = canonical_types (document_choice o) root d.definitions in
    let directives : List Definition = directive_definitions (canonical_directives d) in
    let block : List Definition = definition.SchemaBlock (canonical_roots d) 0 ∷ [] in
    let test : DirectiveDef → Bool = λ c. is_needed (ordered_metas d) (directive_meta_of c) in
    let needed : List DirectiveDef = filter test (ordered_directive_definitions d.definitions) in
    let sound_types : AreSound types =
    types_sound (document_choice o) ordered (all_arranged IsSoundDefinition (λ (c : Definition). type_name (type_of root c)) true (filter (is_type root) d.definitions) (all_filter IsSoundDefinition (is_type root) d.definitions a)) in
    let sound_needed : AllByRecursion IsSoundDirective needed = all_filter IsSoundDirective test (ordered_directive_definitions d.definitions) (ordered_sound d.definitions a) in
    let sound_directives : AreSound directives =
    all_map IsSoundDirective IsSoundDefinition (λ (c : DirectiveDef). definition.Directive c) (λ c s. s) (canonical_directives d) (all_map IsSoundDirective IsSoundDirective canonical_directive directive_sound needed sound_needed) in
    all_append IsSoundDefinition types (directives ++ block) sound_types (all_append IsSoundDefinition directives block sound_directives (roots_named d e a, tt))

-- ---- an indent is blank

spaces_blank : (n : ℕ) → AreBlank (replicate n space)
spaces_blank zero = tt
spaces_blank (suc n) = (refl, spaces_blank n)

pub indent_blank : (o : Options) → AreBlank (indent_of o)
indent_blank o = by_test o.use_space_ident
  where
    by_test : (t : Bool) → AreBlank (if t then replicate o.indent_width space else tab ∷ [])
    by_test true = spaces_blank o.indent_width
    by_test false = (refl, tt)

-- ---- the law

-- The text of the view of a document is that of a document whose definitions are the canonical ones, apart from places.
pub view_is_read : (o : Options) (d : Document) (text : Text) → Spells d text → IsUtf8 (spell o (document_view o d)) → IsReadAs (canonical o d).definitions (spell o (document_view o d))
view_is_read o d text s u =
    let facts = document_is d text s in
    let parts = parts_faultless d facts.1 in
    view_says (layout_of o) (indent_blank o) (document_view o d) (canonical o d).definitions (document_shows o d parts.each facts.0) (canonical_sound o d parts.query facts.0) (canonical_faultless o d facts.1) u
