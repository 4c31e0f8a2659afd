-- The text of each kind of type says its definition, after the description.
use Rattle.std.proofs.Common.{◌≡◌, List, [], ◌∷◌, ◌++◌, map, codes, refl, ap, Option}
use Rattle.std.specs.List.{AllByRecursion, AllZip}
use Rattle.gql_grammar.specs.Form.{many}
use Rattle.gql_text_lexer.specs.Forms.{IsName}
use Rattle.gql_text_syntax.specs.Grammar as g
use Rattle.gql_text_syntax.specs.Sorts.{only}
use Rattle.gql_text_syntax.specs.declared.sort.Sort.TheVariants.{WordEnum, WordInput, WordInterface, WordScalar, WordType, WordUnion}
use Rattle.gql_text_syntax.specs.declared.syntax.Description.{Description}
use Rattle.gql_text_syntax.specs.declared.syntax.Kind.{Kind}
use Rattle.gql_text_syntax.specs.declared.syntax.ObjectLike.{ObjectLike}
use Rattle.gql_text_syntax.specs.declared.syntax.Use.{Use}
use Rattle.gql_text.specs.DocumentOf.{kind_of, description_of, use_of, implements_of, field_def_of}
use Rattle.gql_text.specs.declared.document.Definition.{Definition}
use Rattle.gql_text.specs.declared.document.Definition.TheVariants as definition
use Rattle.gql_text.specs.declared.document.DirectiveUse.{DirectiveUse}
use Rattle.gql_text.specs.declared.document.EnumValueDef.{EnumValueDef}
use Rattle.gql_text.specs.declared.document.FieldDef.{FieldDef}
use Rattle.gql_text.specs.declared.document.InputDef.{InputDef}
use Rattle.gql_text.specs.declared.document.TypeHead.{TypeHead}
use Rattle.gql_registry_meta.specs.Parts.{Text, Invocation, InputValue, Field, EnumValue}
use Rattle.gql_sdl_readback.proofs.Texts.{Says}
use Rattle.gql_sdl_readback.proofs.Says.{blank, blanks_behind, word_then, joined, mapped, weaken}
use Rattle.gql_sdl_readback.proofs.Lists.{AreBlank}
use Rattle.gql_sdl_view.specs.Options.{Layout}
use Rattle.gql_sdl_view.specs.Spelling.{uses_text, body_text, implements_text, members_text, field_text, value_text, input_text}
use Rattle.gql_sdl_rows.specs.Bare.{bare_use, bare_head, bare_field, bare_definition}
use Rattle.gql_sdl_rows.specs.Shown.{ShowsUses, ShowsInput, ShowsField, ShowsValue}
use Rattle.gql_sdl_rows.proofs.Bodies.{fields_say, values_say, inputs_say}
use Rattle.gql_sdl_rows.proofs.Ends.{EndsName, FollowsName}
use Rattle.gql_sdl_rows.proofs.Joined.{implements_say, members_say}
use Rattle.gql_sdl_rows.proofs.Parts.{AreSoundUses, IsSoundHead, IsSoundField, IsSoundValue, IsSoundInput}
use Rattle.gql_sdl_rows.proofs.Uses.{uses_say, uses_same, shown_sound}
use Rattle.gql_sdl_rows.proofs.Values.{key_says}

-- ---- what may follow a name

after_end : FollowsName (codes "\n\n")
after_end rest = refl

after_uses : (us : List Invocation) (more : Text) → FollowsName more → FollowsName (uses_text us ++ more)
after_uses [] more f rest = f rest
after_uses (u ∷ us) more f rest = refl

after_implements : (names : List Text) (more : Text) → FollowsName more → FollowsName (implements_text names ++ more)
after_implements [] more f rest = f rest
after_implements (n ∷ names) more f rest = refl

after_members : (names : List Text) (more : Text) → FollowsName more → FollowsName (members_text names ++ more)
after_members [] more f rest = f rest
after_members (n ∷ names) more f rest = refl

after_body : {X : Type 0} (text : X → Text) (xs : List X) → FollowsName (body_text text xs ++ codes "\n\n")
after_body text [] rest = refl
after_body text (x ∷ xs) rest = refl

-- ---- uses, and what follows them

-- the uses that were read are those of the document, apart from places
abbrev IsUses : List DirectiveUse → List Use → Type 0
IsUses given xs = map bare_use (map use_of xs) ≡ map bare_use given

shown_uses_say : (us : List Invocation) (given : List DirectiveUse) (rest : Text) → ShowsUses us given → AreSoundUses given → EndsName rest → Says (many g.directive_use) (IsUses given) (uses_text us) rest
shown_uses_say us given rest e s k = weaken _ (uses_say us rest (shown_sound us given e s) k) (λ xs h. uses_same us given xs e h)

same_head : (head : TypeHead) (name : Text) (description : Option Text) (uses : List DirectiveUse) → name ≡ head.name → description ≡ head.description → uses ≡ map bare_use head.uses
    → record { name = name; description = description; uses = uses; at = 0 } ≡ bare_head head
same_head head name description uses e f g = rw (e, f, g) refl

-- ---- each kind, whatever its description

-- a kind that was read, with this description, is this definition, apart from places
abbrev pub IsKind : Option Text → Definition → Kind → Type 0
IsKind o c k = (d : Option Description) → description_of d ≡ o → bare_definition (kind_of d k) ≡ bare_definition c

-- "scalar" Name Uses
pub scalar_says : (head : TypeHead) (us : List Invocation) (rest : Text) → IsSoundHead head → ShowsUses us head.uses → Says g.scalar (IsKind head.description (definition.Scalar head)) (codes "scalar " ++ (head.name ++ (uses_text us ++ codes "\n\n"))) rest
unfolding g.scalar
scalar_says head us rest s e =
    let uses : Text = uses_text us ++ codes "\n\n" in
    mapped (word_then (only WordScalar) (codes "scalar") (codes " " ++ (head.name ++ uses)) (refl, refl) refl refl
    (blank refl (joined head.name uses rest (key_says head.name _ s.name (after_uses us (codes "\n\n") after_end rest))
    (blanks_behind (uses_text us) (codes "\n\n") rest (refl, (refl, tt)) (shown_uses_say us head.uses _ e s.uses refl)))))
    (λ p h d o. ap (λ (head : TypeHead). definition.Scalar head) (same_head head p.1.0.name (description_of d) _ h.1.0 o h.1.1))

-- what an object or an interface has after its word
abbrev like_text : Layout → TypeHead → List Text → List Invocation → List Field → Text
like_text layout head names us fields = head.name ++ (implements_text names ++ (uses_text us ++ (body_text (field_text layout) fields ++ codes "\n\n")))

-- what was read of an object or of an interface
record IsLike (head : TypeHead) (implements : List Text) (fields : List FieldDef) (o : ObjectLike) : Type 0 where
  name : o.key.name ≡ head.name
  implements_are : implements_of o.implements ≡ implements
  uses : IsUses head.uses o.uses
  fields_are : map bare_field (map field_def_of o.fields) ≡ map bare_field fields

-- Name Implements? Uses Fields?
like_says : (layout : Layout) → AreBlank layout.indent → (head : TypeHead) (implements : List Text) (us : List Invocation) (fields : List Field) (cs : List FieldDef) (rest : Text) → IsSoundHead head → AllByRecursion IsName implements
    → AllByRecursion IsSoundField cs → ShowsUses us head.uses → AllZip ShowsField fields cs → Says g.object_like (IsLike head implements cs) (like_text layout head implements us fields) rest
unfolding g.object_like
like_says layout a head implements us fields cs rest s n i e z =
    let body : Text = body_text (field_text layout) fields ++ codes "\n\n" in
    let uses : Text = uses_text us ++ body in
    let follows = after_body (field_text layout) fields in
    mapped (joined head.name (implements_text implements ++ uses) rest (key_says head.name _ s.name (after_implements implements uses (after_uses us body follows) rest))
    (joined (implements_text implements) uses rest (implements_say implements _ n (after_uses us body follows rest))
    (joined (uses_text us) body rest (shown_uses_say us head.uses _ e s.uses (follows rest)) (fields_say layout a fields cs rest z i))))
    (λ p h. record { name = h.0; implements_are = h.1.0; uses = h.1.1.0; fields_are = h.1.1.1 })

object_is : (head head2 : TypeHead) (implements implements2 : List Text) (fields fields2 : List FieldDef) → head ≡ head2 → implements ≡ implements2 → fields ≡ fields2
    → definition.Object head implements fields ≡ definition.Object head2 implements2 fields2
object_is head head2 implements implements2 fields fields2 e f g = rw (e, f, g) refl

interface_is : (head head2 : TypeHead) (implements implements2 : List Text) (fields fields2 : List FieldDef) → head ≡ head2 → implements ≡ implements2 → fields ≡ fields2
    → definition.Interface head implements fields ≡ definition.Interface head2 implements2 fields2
interface_is head head2 implements implements2 fields fields2 e f g = rw (e, f, g) refl

-- "type" Name Implements? Uses Fields?
pub object_says : (layout : Layout) → AreBlank layout.indent → (head : TypeHead) (implements : List Text) (us : List Invocation) (fields : List Field) (cs : List FieldDef) (rest : Text) → IsSoundHead head
    → AllByRecursion IsName implements → AllByRecursion IsSoundField cs → ShowsUses us head.uses → AllZip ShowsField fields cs
    → Says g.object (IsKind head.description (definition.Object head implements cs)) (codes "type " ++ like_text layout head implements us fields) rest
unfolding g.object
object_says layout a head implements us fields cs rest s n i e z =
    mapped (word_then (only WordType) (codes "type") (codes " " ++ like_text layout head implements us fields) (refl, refl) refl refl (blank refl (like_says layout a head implements us fields cs rest s n i e z)))
    (λ p h d o. object_is _ _ _ _ _ _ (same_head head p.1.key.name (description_of d) _ h.1.name o h.1.uses) h.1.implements_are h.1.fields_are)

-- "interface" Name Implements? Uses Fields?
pub interface_says : (layout : Layout) → AreBlank layout.indent → (head : TypeHead) (implements : List Text) (us : List Invocation) (fields : List Field) (cs : List FieldDef) (rest : Text) → IsSoundHead head
    → AllByRecursion IsName implements → AllByRecursion IsSoundField cs → ShowsUses us head.uses → AllZip ShowsField fields cs
    → Says g.«interface» (IsKind head.description (definition.Interface head implements cs)) (codes "interface " ++ like_text layout head implements us fields) rest
unfolding g.«interface»
interface_says layout a head implements us fields cs rest s n i e z =
    mapped (word_then (only WordInterface) (codes "interface") (codes " " ++ like_text layout head implements us fields) (refl, refl) refl refl (blank refl (like_says layout a head implements us fields cs rest s n i e z)))
    (λ p h d o. interface_is _ _ _ _ _ _ (same_head head p.1.key.name (description_of d) _ h.1.name o h.1.uses) h.1.implements_are h.1.fields_are)

union_is : (head head2 : TypeHead) (members members2 : List Text) → head ≡ head2 → members ≡ members2 → definition.Union head members ≡ definition.Union head2 members2
union_is head head2 members members2 e f = rw (e, f) refl

-- "union" Name Uses ("=" Name ("|" Name)*)?
pub union_says : (head : TypeHead) (members : List Text) (us : List Invocation) (rest : Text) → IsSoundHead head → AllByRecursion IsName members → ShowsUses us head.uses
    → Says g.union_type (IsKind head.description (definition.Union head members)) (codes "union " ++ (head.name ++ (uses_text us ++ (members_text members ++ codes "\n\n")))) rest
unfolding g.union_type
union_says head members us rest s n e =
    let more : Text = members_text members ++ codes "\n\n" in
    let follows = after_members members (codes "\n\n") after_end in
    mapped (word_then (only WordUnion) (codes "union") (codes " " ++ (head.name ++ (uses_text us ++ more))) (refl, refl) refl refl
    (blank refl (joined head.name (uses_text us ++ more) rest (key_says head.name _ s.name (after_uses us more follows rest))
    (joined (uses_text us) more rest (shown_uses_say us head.uses _ e s.uses (follows rest)) (blanks_behind (members_text members) (codes "\n\n") rest (refl, (refl, tt)) (members_say members _ n refl))))))
    (λ p h d o. union_is _ _ _ _ (same_head head p.1.0.name (description_of d) _ h.1.0 o h.1.1.0) h.1.1.1)

enum_is : (head head2 : TypeHead) (values values2 : List EnumValueDef) → head ≡ head2 → values ≡ values2 → definition.Enum head values ≡ definition.Enum head2 values2
enum_is head head2 values values2 e f = rw (e, f) refl

-- "enum" Name Uses ("{" (Desc EnumName Uses)* "}")?
pub enum_says : (layout : Layout) → AreBlank layout.indent → (head : TypeHead) (us : List Invocation) (values : List EnumValue) (cs : List EnumValueDef) (rest : Text) → IsSoundHead head → AllByRecursion IsSoundValue cs
    → ShowsUses us head.uses → AllZip ShowsValue values cs
    → Says g.enum_type (IsKind head.description (definition.Enum head cs)) (codes "enum " ++ (head.name ++ (uses_text us ++ (body_text (value_text layout) values ++ codes "\n\n")))) rest
unfolding g.enum_type
enum_says layout a head us values cs rest s i e z =
    let body : Text = body_text (value_text layout) values ++ codes "\n\n" in
    let follows = after_body (value_text layout) values in
    mapped (word_then (only WordEnum) (codes "enum") (codes " " ++ (head.name ++ (uses_text us ++ body))) (refl, refl) refl refl
    (blank refl (joined head.name (uses_text us ++ body) rest (key_says head.name _ s.name (after_uses us body follows rest))
    (joined (uses_text us) body rest (shown_uses_say us head.uses _ e s.uses (follows rest)) (values_say layout a values cs rest z i)))))
    (λ p h d o. enum_is _ _ _ _ (same_head head p.1.0.name (description_of d) _ h.1.0 o h.1.1.0) h.1.1.1)

input_is : (head head2 : TypeHead) (fields fields2 : List InputDef) → head ≡ head2 → fields ≡ fields2 → definition.Input head fields ≡ definition.Input head2 fields2
input_is head head2 fields fields2 e f = rw (e, f) refl

-- "input" Name Uses ("{" InputValue* "}")?
pub input_says : (layout : Layout) → AreBlank layout.indent → (head : TypeHead) (us : List Invocation) (values : List InputValue) (cs : List InputDef) (rest : Text) → IsSoundHead head → AllByRecursion IsSoundInput cs
    → ShowsUses us head.uses → AllZip ShowsInput values cs
    → Says g.input (IsKind head.description (definition.Input head cs)) (codes "input " ++ (head.name ++ (uses_text us ++ (body_text (input_text layout) values ++ codes "\n\n")))) rest
unfolding g.input
input_says layout a head us values cs rest s i e z =
    let body : Text = body_text (input_text layout) values ++ codes "\n\n" in
    let follows = after_body (input_text layout) values in
    mapped (word_then (only WordInput) (codes "input") (codes " " ++ (head.name ++ (uses_text us ++ body))) (refl, refl) refl refl
    (blank refl (joined head.name (uses_text us ++ body) rest (key_says head.name _ s.name (after_uses us body follows rest))
    (joined (uses_text us) body rest (shown_uses_say us head.uses _ e s.uses (follows rest)) (inputs_say layout a values cs rest z i)))))
    (λ p h d o. input_is _ _ _ _ (same_head head p.1.0.name (description_of d) _ h.1.0 o h.1.1.0) h.1.1.1)
