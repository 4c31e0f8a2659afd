-- Members in braces: fields, values of an enum, and fields of an input object.
use Rattle.std.proofs.Common.{◌≡◌, List, [], ◌∷◌, ◌++◌, map, flat_map, codes, refl, subst, ◌∙◌, append_assoc, Option, Some, None}
use Rattle.std.specs.List.{AllByRecursion, AllZip}
use Rattle.std.proofs.lemmas.Simd.{map-map}
use Rattle.gql_grammar.specs.Form.{Form}
use Rattle.gql_text_syntax.specs.Grammar as g
use Rattle.gql_text_syntax.specs.Reads.{or_none}
use Rattle.gql_text_syntax.specs.Sorts as sorts
use Rattle.gql_text_syntax.specs.Sorts.{code}
use Rattle.gql_text_syntax.specs.declared.sort.Sort.TheVariants.{CloseBrace}
use Rattle.gql_text_syntax.specs.declared.syntax.EnumValue.{EnumValue as Written}
use Rattle.gql_text.specs.DocumentOf.{input_of, enum_value_of, field_def_of}
use Rattle.gql_text.specs.declared.document.DirectiveUse.{DirectiveUse}
use Rattle.gql_text.specs.declared.document.EnumValueDef.{EnumValueDef}
use Rattle.gql_text.specs.declared.document.FieldDef.{FieldDef}
use Rattle.gql_text.specs.declared.document.InputDef.{InputDef}
use Rattle.gql_registry_meta.specs.Parts.{Text, Invocation, InputValue, Field, EnumValue}
use Rattle.gql_sdl_readback.proofs.Sound.{IsEnumName}
use Rattle.gql_sdl_readback.proofs.Texts.{Says}
use Rattle.gql_sdl_readback.proofs.Says.{blank, blanks_behind, word_says, sign_says, sign_then, joined, absent, present, IsThere, mapped, weaken}
use Rattle.gql_sdl_readback.proofs.Lists.{AreBlank}
use Rattle.gql_sdl_view.specs.Descriptions.{described}
use Rattle.gql_sdl_view.specs.Options.{Layout}
use Rattle.gql_sdl_view.specs.Spelling.{uses_text, deprecated_text, body_text, field_text, value_text, input_text, input_value_text}
use Rattle.gql_sdl_rows.specs.Bare.{bare_input, bare_field, bare_value}
use Rattle.gql_sdl_rows.specs.Shown.{invocation_of, deprecated_uses, ShowsInput, ShowsField, ShowsValue}
use Rattle.gql_sdl_rows.proofs.Attributes.{deprecated_are, attributes_are}
use Rattle.gql_sdl_rows.proofs.Descriptions.{SaysDescription, described_says, then_blanks}
use Rattle.gql_sdl_rows.proofs.Each.{each_says}
use Rattle.gql_sdl_rows.proofs.Ends.{EndsName}
use Rattle.gql_sdl_rows.proofs.Fields.{field_says}
use Rattle.gql_sdl_rows.proofs.Inputs.{IsInput, input_says}
use Rattle.gql_sdl_rows.proofs.Parts.{AreSoundInvocations, IsSoundInput, IsSoundField, IsSoundValue}
use Rattle.gql_sdl_rows.proofs.Uses.{uses_line, uses_same, shown_sound}

-- ---- values of an enum

-- the value that was read is this one, apart from places
abbrev pub IsValue : EnumValueDef → Written → Type 0
IsValue c x = bare_value (enum_value_of x) ≡ bare_value c

enum_name_says : (name rest : Text) → IsEnumName name → EndsName rest → Says g.enum_name (λ k. k.name ≡ name) name rest
enum_name_says name rest i k = mapped (word_says sorts.enum_names name rest i.0 i.1 k) (λ t h. h.0)

same_value : (c : EnumValueDef) (name : Text) (description : Option Text) (uses : List DirectiveUse) → name ≡ c.name → description ≡ c.description → uses ≡ (bare_value c).uses
    → record { name = name; description = description; uses = uses; at = 0 } ≡ bare_value c
same_value c name description uses e f g = rw (e, f, g) refl

ends_uses : (us : List Invocation) (rest : Text) → EndsName ((uses_text us ++ codes "\n") ++ rest)
ends_uses [] rest = refl
ends_uses (u ∷ us) rest = refl

-- Desc EnumName Uses
value_line_says : (front : Text) (c : EnumValueDef) (us : List Invocation) (rest : Text) → SaysDescription front c.description → IsSoundValue c → AreSoundInvocations us → map invocation_of c.uses ≡ us
    → Says g.enum_value (IsValue c) (front ++ (c.name ++ (uses_text us ++ codes "\n"))) rest
unfolding g.enum_value
value_line_says front c us rest d s a e =
    let uses : Text = uses_text us ++ codes "\n" in
    mapped (joined front (c.name ++ uses) rest (d _) (joined c.name uses rest (enum_name_says c.name _ s.name (ends_uses us rest)) (uses_line us rest a)))
    (λ p h. same_value c _ _ _ h.1.0 h.0 (uses_same us c.uses p.1.1 e h.1.1))

-- a value, whatever follows
pub value_says : (layout : Layout) → AreBlank layout.indent → (value : EnumValue) (c : EnumValueDef) (rest : Text) → ShowsValue value c → IsSoundValue c → Says g.enum_value (IsValue c) (value_text layout value) rest
value_says layout a value c rest s i =
    let text : Text = described layout.single layout.indent value.description in
    let front : Text = text ++ layout.indent in
    let us : List Invocation = deprecated_uses value.deprecation ++ value.directive_invocations in
    let d : SaysDescription front value.description = then_blanks text layout.indent value.description a (described_says layout.single layout.indent value.description a) in
    let uses = attributes_are (deprecated_text value.deprecation) (codes "\n") (deprecated_uses value.deprecation) value.directive_invocations (deprecated_are value.deprecation) in
    let whole : front ++ (c.name ++ (uses_text us ++ codes "\n")) ≡ value_text layout value =
    rw (← s.name, ← uses) (append_assoc text layout.indent (value.name ++ (deprecated_text value.deprecation ++ (uses_text value.directive_invocations ++ codes "\n")))) in
    subst (λ (t : Text). Says g.enum_value (IsValue c) t rest) whole (value_line_says front c us rest (subst (SaysDescription front) s.description d) i (shown_sound us c.uses s.uses i.uses) s.uses)

-- ---- fields of an input object

pub input_line_says : (layout : Layout) → AreBlank layout.indent → (value : InputValue) (c : InputDef) (rest : Text) → ShowsInput value c → IsSoundInput c → Says g.input_value (IsInput c) (input_text layout value) rest
input_line_says layout a value c rest s i =
    let text : Text = described layout.single layout.indent value.description in
    let front : Text = text ++ layout.indent in
    let d : SaysDescription front value.description = then_blanks text layout.indent value.description a (described_says layout.single layout.indent value.description a) in
    let whole : (front ++ input_value_text value) ++ codes "\n" ≡ input_text layout value =
    append_assoc front (input_value_text value) (codes "\n") ∙ append_assoc text layout.indent (input_value_text value ++ codes "\n") in
    subst (λ (t : Text). Says g.input_value (IsInput c) t rest) whole
    (blanks_behind (front ++ input_value_text value) (codes "\n") rest (refl, tt) (input_says front value c _ (subst (SaysDescription front) s.description d) s i refl))

-- ---- braces

-- any rest
abbrev Any : Text → Type 0
Any rest = Unit {0}

module _ {A M C B : Type 0} (item : Form A) (of : A → B) (to : C → B) (text : M → Text) (Shows : M → C → Type 0) (IsSound : C → Type 0)
    (law : (m : M) (c : C) (rest : Text) → Shows m c → IsSound c → Says item (λ x. of x ≡ to c) (text m) rest) where
  braced_says : (ms : List M) (cs : List C) (rest : Text) → AllZip Shows ms cs → AllByRecursion IsSound cs → Says (g.braced item) (λ xs. map of xs ≡ map to cs) (codes "{\n" ++ (flat_map text ms ++ codes "}")) rest
  unfolding g.braced
  braced_says ms cs rest z s =
      mapped (sign_then refl refl refl (blank refl (joined (flat_map text ms) (codes "}") rest
      (each_says item of to text Shows IsSound Any (λ m c r h i k. law m c r h i) (λ m r. tt) ms cs (codes "}" ++ rest) z s tt) (sign_says 125 (code CloseBrace) rest refl refl refl))))
      (λ p h. h.0)

  -- members that each may stand before anything
  pub body_says : (ms : List M) (cs : List C) (rest : Text) → AllZip Shows ms cs → AllByRecursion IsSound cs → Says (g.body item) (λ xs. map of xs ≡ map to cs) (body_text text ms) rest
  unfolding g.body
  body_says [] [] rest z s = mapped (absent (g.braced item) rest) (λ o h. rw h refl)
  body_says [] (c ∷ cs) rest z s = absurd z
  body_says (m ∷ ms) [] rest z s = absurd z
  body_says (m ∷ ms) (c ∷ cs) rest z s = blank refl (mapped (present (braced_says (m ∷ ms) (c ∷ cs) rest z s)) (λ o h. by_option o h))
    where
      by_option : (o : Option (List A)) → IsThere (λ xs. map of xs ≡ map to (c ∷ cs)) o → map of (or_none o) ≡ map to (c ∷ cs)
      by_option None h = absurd h
      by_option (Some xs) h = h

-- the two line feeds after the body
pub fields_say : (layout : Layout) → AreBlank layout.indent → (fields : List Field) (cs : List FieldDef) (rest : Text) → AllZip ShowsField fields cs → AllByRecursion IsSoundField cs
    → Says (g.body g.field) (λ xs. map bare_field (map field_def_of xs) ≡ map bare_field cs) (body_text (field_text layout) fields ++ codes "\n\n") rest
fields_say layout a fields cs rest z s =
    blanks_behind (body_text (field_text layout) fields) (codes "\n\n") rest (refl, (refl, tt)) (weaken _ (body_says g.field (λ x. bare_field (field_def_of x)) bare_field (field_text layout) ShowsField IsSoundField (field_says layout a) fields cs _ z s)
    (λ xs h. map-map bare_field field_def_of xs ∙ h))

pub values_say : (layout : Layout) → AreBlank layout.indent → (values : List EnumValue) (cs : List EnumValueDef) (rest : Text) → AllZip ShowsValue values cs → AllByRecursion IsSoundValue cs
    → Says (g.body g.enum_value) (λ xs. map bare_value (map enum_value_of xs) ≡ map bare_value cs) (body_text (value_text layout) values ++ codes "\n\n") rest
values_say layout a values cs rest z s =
    blanks_behind (body_text (value_text layout) values) (codes "\n\n") rest (refl, (refl, tt)) (weaken _ (body_says g.enum_value (λ x. bare_value (enum_value_of x)) bare_value (value_text layout) ShowsValue IsSoundValue (value_says layout a) values cs _ z s)
    (λ xs h. map-map bare_value enum_value_of xs ∙ h))

pub inputs_say : (layout : Layout) → AreBlank layout.indent → (values : List InputValue) (cs : List InputDef) (rest : Text) → AllZip ShowsInput values cs → AllByRecursion IsSoundInput cs
    → Says (g.body g.input_value) (λ xs. map bare_input (map input_of xs) ≡ map bare_input cs) (body_text (input_text layout) values ++ codes "\n\n") rest
inputs_say layout a values cs rest z s =
    blanks_behind (body_text (input_text layout) values) (codes "\n\n") rest (refl, (refl, tt)) (weaken _ (body_says g.input_value (λ x. bare_input (input_of x)) bare_input (input_text layout) ShowsInput IsSoundInput (input_line_says layout a) values cs _ z s)
    (λ xs h. map-map bare_input input_of xs ∙ h))
