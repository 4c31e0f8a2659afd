-- The text of each definition says it, with its description.
use Rattle.std.proofs.Common.{◌≡◌, ℕ, Bool, true, false, List, [], ◌∷◌, ◌++◌, map, codes, refl, sym, ap, ap₂, subst, ◌∙◌, append_assoc, Option, Some, None}
use Rattle.std.proofs.lemmas.Simd.{map-map}
use Rattle.std.specs.List.{join_by}
use Rattle.std.specs.Map.{values_of}
use Rattle.gql_text_syntax.specs.Grammar as g
use Rattle.gql_text_syntax.specs.declared.syntax.Description.{Description}
use Rattle.gql_text_syntax.specs.declared.syntax.Kind.{Kind}
use Rattle.gql_text_syntax.specs.declared.syntax.Kind.TheVariants as kinds
use Rattle.gql_text_syntax.specs.declared.syntax.WrittenDefinition.{WrittenDefinition}
use Rattle.gql_text.specs.DocumentOf.{description_of, kind_of, definition_of}
use Rattle.gql_text.specs.declared.document.Definition.{Definition}
use Rattle.gql_text.specs.declared.document.Definition.TheVariants as definition
use Rattle.gql_text.specs.declared.document.DirectiveDef.{DirectiveDef}
use Rattle.gql_text.specs.declared.document.RootLine.{RootLine}
use Rattle.gql_registry_meta.specs.Parts.{Text, Invocation, Directive, Meta}
use Rattle.gql_registry_meta.specs.Locations.{location_text}
use Rattle.gql_sdl_readback.proofs.Texts.{Says}
use Rattle.gql_sdl_readback.proofs.Says.{blanks_behind, joined, nothing_then, left, right, mapped}
use Rattle.gql_sdl_readback.proofs.Lists.{AreBlank}
use Rattle.gql_sdl_view.specs.Descriptions.{described}
use Rattle.gql_sdl_view.specs.Options.{Layout}
use Rattle.gql_sdl_view.specs.Spelling.{uses_text, url_text, one_of_text, implements_text, members_text, body_text, field_text, value_text, input_text, type_text, type_end, head_text, bare_arguments_text, repeatable_text, directive_text, schema_text}
use Rattle.gql_sdl_view.specs.View.{View}
use Rattle.gql_sdl_rows.specs.Bare.{bare_line, bare_definition}
use Rattle.gql_sdl_rows.specs.Shown.{url_uses, one_of_uses, ShowsType, shows_scalar, shows_object, shows_interface, shows_union, shows_enum, shows_input, ShowsDirective, block_lines}
use Rattle.gql_sdl_rows.proofs.Attributes.{attributes_are, url_are, one_of_are}
use Rattle.gql_sdl_rows.proofs.Descriptions.{no_description, described_says}
use Rattle.gql_sdl_rows.proofs.Directives.{directive_says}
use Rattle.gql_sdl_rows.proofs.TypeKinds.{IsKind, scalar_says, object_says, interface_says, union_says, enum_says, input_says}
use Rattle.gql_sdl_rows.proofs.Parts.{IsSoundDefinition, IsSoundDirective}
use Rattle.gql_sdl_rows.proofs.Roots.{AreNamed, IsBlock, schema_says}

-- a schema block has neither a description nor uses
abbrev pub IsPlain : Option Description → Kind → Type 0
IsPlain d (kinds.Schema at uses roots) = (d ≡ None) × (uses ≡ [])
IsPlain d _ = Unit {0}

-- the definition that was read is this one, apart from places
pub record IsDefinition (c : Definition) (x : WrittenDefinition) : Type 0 where
  pub same : bare_definition (definition_of x) ≡ bare_definition c
  pub plain : IsPlain x.description x.kind

-- ---- the definition of a type or of a directive

abbrev is_block : Definition → Bool
is_block (definition.SchemaBlock roots at) = true
is_block _ = false

block_stays : (c : Definition) → is_block (bare_definition c) ≡ is_block c
block_stays (definition.SchemaBlock roots at) = refl
block_stays (definition.Scalar head) = refl
block_stays (definition.Object head implements fields) = refl
block_stays (definition.Interface head implements fields) = refl
block_stays (definition.Union head members) = refl
block_stays (definition.Enum head values) = refl
block_stays (definition.Input head fields) = refl
block_stays (definition.Directive directive) = refl

plain_kind : (c : Definition) (d : Option Description) (k : Kind) → is_block c ≡ false → bare_definition (kind_of d k) ≡ bare_definition c → IsPlain d k
plain_kind c d (kinds.Schema at uses roots) n e =
    let told : true ≡ false = ap is_block e ∙ block_stays c ∙ n in
    absurd cc
plain_kind c d (kinds.Scalar key uses) n e = tt
plain_kind c d (kinds.Object o) n e = tt
plain_kind c d (kinds.Interface o) n e = tt
plain_kind c d (kinds.Union key uses members) n e = tt
plain_kind c d (kinds.Enum key uses values) n e = tt
plain_kind c d (kinds.Input key uses fields) n e = tt
plain_kind c d (kinds.Directive key arguments repeatable locations) n e = tt

-- Desc? and a kind
described_kind : (layout : Layout) (o : Option Text) (c : Definition) (text rest : Text) → is_block c ≡ false → Says g.kind (IsKind o c) text rest → Says g.definition (IsDefinition c) (described layout.single [] o ++ text) rest
unfolding g.definition g.described_definition
described_kind layout o c text rest n s =
    right g.extension (mapped (joined (described layout.single [] o) text rest (described_says layout.single [] o tt _) s)
    (λ p h. let same = h.1 p.0 h.0 in record { same = same; plain = plain_kind c p.0 p.1 n same }))

head_is : (front keyword name more more2 : Text) → more ≡ more2 → (front ++ (keyword ++ name)) ++ more ≡ front ++ (keyword ++ (name ++ more2))
head_is front keyword name more more2 e =
    append_assoc front (keyword ++ name) more ∙ ap (λ (t : Text). front ++ t) (append_assoc keyword name more ∙ ap (λ (t : Text). keyword ++ (name ++ t)) e)

-- a kind after its head
headed : (layout : Layout) (description : Option Text) (keyword name more : Text) (o : Option Text) (name2 more2 : Text) (c : Definition) (rest : Text) → description ≡ o → name ≡ name2 → more ≡ more2 → is_block c ≡ false
    → Says g.kind (IsKind o c) (keyword ++ (name2 ++ more2)) rest → Says g.definition (IsDefinition c) (head_text layout description keyword name ++ more) rest
headed layout description keyword name more o name2 more2 c rest d n m b s =
    subst (λ (t : Text). Says g.definition (IsDefinition c) t rest)
    (sym (head_is (described layout.single [] description) keyword name more more2 m ∙ ap₂ (λ (e : Option Text) (f : Text). described layout.single [] e ++ (keyword ++ (f ++ more2))) d n))
    (described_kind layout o c (keyword ++ (name2 ++ more2)) rest b s)

scalar_kind : (is : Kind → Type 0) (text rest : Text) → Says g.scalar is text rest → Says g.kind is text rest
unfolding g.kind
scalar_kind is text rest s = right g.schema_block (left _ s)

object_kind : (is : Kind → Type 0) (text rest : Text) → Says g.object is text rest → Says g.kind is text rest
unfolding g.kind
object_kind is text rest s = right g.schema_block (right g.scalar (left _ s))

interface_kind : (is : Kind → Type 0) (text rest : Text) → Says g.«interface» is text rest → Says g.kind is text rest
unfolding g.kind
interface_kind is text rest s = right g.schema_block (right g.scalar (right g.object (left g.type_kind s)))

union_kind : (is : Kind → Type 0) (text rest : Text) → Says g.union_type is text rest → Says g.kind is text rest
unfolding g.kind g.type_kind
union_kind is text rest s = right g.schema_block (right g.scalar (right g.object (right g.«interface» (left _ s))))

enum_kind : (is : Kind → Type 0) (text rest : Text) → Says g.enum_type is text rest → Says g.kind is text rest
unfolding g.kind g.type_kind
enum_kind is text rest s = right g.schema_block (right g.scalar (right g.object (right g.«interface» (right g.union_type (left _ s)))))

input_kind : (is : Kind → Type 0) (text rest : Text) → Says g.input is text rest → Says g.kind is text rest
unfolding g.kind g.type_kind
input_kind is text rest s = right g.schema_block (right g.scalar (right g.object (right g.«interface» (right g.union_type (right g.enum_type (left g.directive s))))))

directive_kind : (is : Kind → Type 0) (text rest : Text) → Says g.directive is text rest → Says g.kind is text rest
unfolding g.kind g.type_kind
directive_kind is text rest s = right g.schema_block (right g.scalar (right g.object (right g.«interface» (right g.union_type (right g.enum_type (right g.input s))))))

-- the text of a type says its definition, whatever follows
pub type_says : (layout : Layout) → AreBlank layout.indent → (names : List Text) (type : Meta) (c : Definition) (rest : Text) → ShowsType names type c → IsSoundDefinition c → Says g.definition (IsDefinition c) (type_text layout names type) rest
type_says layout a names _ _ rest (shows_scalar type head s) i =
    let us : List Invocation = url_uses type.specified_by_url ++ type.directive_invocations in
    headed layout type.description (codes "scalar ") type.name (url_text type.specified_by_url ++ (uses_text type.directive_invocations ++ type_end)) head.description head.name (uses_text us ++ codes "\n\n") (definition.Scalar head) rest
    s.description_is s.name_is (attributes_are (url_text type.specified_by_url) type_end (url_uses type.specified_by_url) type.directive_invocations (url_are type.specified_by_url)) refl
    (scalar_kind _ _ rest (scalar_says head us rest i s.uses))
type_says layout a names _ _ rest (shows_object type head implements fields s n z) i =
    let us : List Invocation = type.directive_invocations in
    let more : Text = uses_text us ++ (body_text (field_text layout) (values_of type.fields) ++ type_end) in
    headed layout type.description (codes "type ") type.name (implements_text names ++ more) head.description head.name (implements_text implements ++ more) (definition.Object head implements fields) rest
    s.description_is s.name_is (ap (λ (ns : List Text). implements_text ns ++ more) n) refl
    (object_kind _ _ rest (object_says layout a head implements us (values_of type.fields) fields rest i.0 i.1 i.2 s.uses z))
type_says layout a names _ _ rest (shows_interface type head implements fields s n z) i =
    let us : List Invocation = type.directive_invocations in
    let more : Text = uses_text us ++ (body_text (field_text layout) (values_of type.fields) ++ type_end) in
    headed layout type.description (codes "interface ") type.name (implements_text names ++ more) head.description head.name (implements_text implements ++ more) (definition.Interface head implements fields) rest
    s.description_is s.name_is (ap (λ (ns : List Text). implements_text ns ++ more) n) refl
    (interface_kind _ _ rest (interface_says layout a head implements us (values_of type.fields) fields rest i.0 i.1 i.2 s.uses z))
type_says layout a names _ _ rest (shows_union type head members s n) i =
    let us : List Invocation = type.directive_invocations in
    headed layout type.description (codes "union ") type.name (uses_text us ++ (members_text type.possible_types ++ type_end)) head.description head.name (uses_text us ++ (members_text members ++ type_end)) (definition.Union head members) rest
    s.description_is s.name_is (ap (λ (ns : List Text). uses_text us ++ (members_text ns ++ type_end)) n) refl
    (union_kind _ _ rest (union_says head members us rest i.0 i.1 s.uses))
type_says layout a names _ _ rest (shows_enum type head values s z) i =
    let us : List Invocation = type.directive_invocations in
    let more : Text = uses_text us ++ (body_text (value_text layout) (values_of type.enum_values) ++ type_end) in
    headed layout type.description (codes "enum ") type.name more head.description head.name more (definition.Enum head values) rest s.description_is s.name_is refl refl
    (enum_kind _ _ rest (enum_says layout a head us (values_of type.enum_values) values rest i.0 i.1 s.uses z))
type_says layout a names _ _ rest (shows_input type head fields s z) i =
    let us : List Invocation = one_of_uses type.oneof ++ type.directive_invocations in
    let body : Text = body_text (input_text layout) (values_of type.input_fields) ++ type_end in
    headed layout type.description (codes "input ") type.name (one_of_text type.oneof ++ (uses_text type.directive_invocations ++ body)) head.description head.name (uses_text us ++ body) (definition.Input head fields) rest
    s.description_is s.name_is (attributes_are (one_of_text type.oneof) body (one_of_uses type.oneof) type.directive_invocations (one_of_are type.oneof)) refl
    (input_kind _ _ rest (input_says layout a head us (values_of type.input_fields) fields rest i.0 i.1 s.uses z))

-- the text of a directive definition, and LF, says it, whatever follows
pub directive_line_says : (layout : Layout) → AreBlank layout.indent → (directive : Directive) (c : DirectiveDef) (rest : Text) → ShowsDirective directive c → IsSoundDirective c
    → Says g.definition (IsDefinition (definition.Directive c)) (directive_text layout directive ++ codes "\n") rest
directive_line_says layout a directive c rest s i =
    let args : Text = bare_arguments_text (values_of directive.args) in
    let places : Text = codes " on " ++ join_by location_text (codes " | ") directive.locations in
    blanks_behind (directive_text layout directive) (codes "\n") rest (refl, tt)
    (headed layout directive.description (codes "directive @") directive.name (args ++ (repeatable_text directive.is_repeatable ++ places)) c.description c.name (args ++ (repeatable_text c.repeatable ++ places)) (definition.Directive c) _
    s.description s.name (ap (λ (mark : Bool). args ++ (repeatable_text mark ++ places)) s.repeatable) refl
    (directive_kind _ _ _ (directive_says (values_of directive.args) directive.locations c _ s.args s.locations i refl)))

-- ---- the schema block

no_text : (d : Option Description) → description_of d ≡ None → d ≡ None
no_text None e = refl
no_text (Some d) e = absurd cc

block_kind : (is : Kind → Type 0) (text rest : Text) → Says g.schema_block is text rest → Says g.kind is text rest
unfolding g.kind
block_kind is text rest s = left _ s

block_is : (roots lines : List RootLine) (at : ℕ) (d : Option Description) (k : Kind) → map bare_line roots ≡ map bare_line lines → d ≡ None → IsBlock lines k → IsDefinition (definition.SchemaBlock roots at) (record { description = d; kind = k })
block_is roots lines at d (kinds.Schema place uses rs) e n h = record { same = ap (λ (l : List RootLine). definition.SchemaBlock l 0) (h.1 ∙ sym e); plain = (n, h.0) }
block_is roots lines at d (kinds.Scalar key uses) e n h = absurd h
block_is roots lines at d (kinds.Object o) e n h = absurd h
block_is roots lines at d (kinds.Interface o) e n h = absurd h
block_is roots lines at d (kinds.Union key uses members) e n h = absurd h
block_is roots lines at d (kinds.Enum key uses values) e n h = absurd h
block_is roots lines at d (kinds.Input key uses fields) e n h = absurd h
block_is roots lines at d (kinds.Directive key arguments repeatable locations) e n h = absurd h

-- the text of the roots says a block with their lines, whatever follows
pub roots_say : (layout : Layout) → AreBlank layout.indent → (view : View) (roots : List RootLine) (at : ℕ) (rest : Text) → map bare_line roots ≡ block_lines view → AreNamed roots
    → Says g.definition (IsDefinition (definition.SchemaBlock roots at)) (schema_text layout view.query view.mutation view.subscription) rest
unfolding g.definition g.described_definition
roots_say layout a view roots at rest e n =
    right g.extension (mapped (nothing_then (no_description _) (block_kind _ _ rest (schema_says layout a view.query view.mutation view.subscription rest (named roots (block_lines view) e n))))
    (λ p h. block_is roots (block_lines view) at p.0 p.1 (e ∙ sym (bare_again (block_lines view) roots e)) (no_text p.0 h.0) h.1))
  where
    each : (roots : List RootLine) → AreNamed roots → AreNamed (map bare_line roots)
    each [] n = tt
    each (r ∷ roots) n = (n.0, each roots n.1)

    named : (roots lines : List RootLine) → map bare_line roots ≡ lines → AreNamed roots → AreNamed lines
    named roots lines e n = subst AreNamed e (each roots n)

    bare_again : (lines roots : List RootLine) → map bare_line roots ≡ lines → map bare_line lines ≡ lines
    bare_again lines roots e = subst (λ (l : List RootLine). map bare_line l ≡ l) e (map-map bare_line bare_line roots)
