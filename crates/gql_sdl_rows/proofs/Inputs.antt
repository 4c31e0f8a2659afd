-- The text of an argument, or of a field of an input object, says it.
use Rattle.std.proofs.Common.{◌≡◌, List, [], ◌∷◌, ◌++◌, map, codes, refl, sym, ap, subst, ◌∙◌, append_assoc, Option, Some, None}
use Rattle.std.proofs.lemmas.List.{append-nil}
use Rattle.std.specs.List.{concat}
use Rattle.gql_text_syntax.specs.Grammar as g
use Rattle.gql_text_syntax.specs.declared.syntax.InputValue.{InputValue as Written}
use Rattle.gql_text_syntax.specs.declared.syntax.Use.{Use}
use Rattle.gql_text_values.specs.TypeRefs.{type_text}
use Rattle.gql_text_values.specs.declared.const_value.ConstValue.{ConstValue}
use Rattle.gql_text_values.specs.declared.type_ref.TypeRef.{TypeRef}
use Rattle.gql_text.specs.DocumentOf.{use_of, input_of}
use Rattle.gql_text.specs.declared.document.DirectiveUse.{DirectiveUse}
use Rattle.gql_text.specs.declared.document.InputDef.{InputDef}
use Rattle.gql_registry_meta.specs.Parts.{Text, Invocation, InputValue}
use Rattle.gql_sdl_readback.proofs.Texts.{Says}
use Rattle.gql_sdl_readback.proofs.Says.{blank, sign_then, joined, mapped}
use Rattle.gql_sdl_view.specs.Spelling.{uses_text, deprecated_text, default_text, bare_value_text, input_value_text}
use Rattle.gql_sdl_rows.specs.Bare.{bare_use, bare_input}
use Rattle.gql_sdl_rows.specs.Shown.{invocation_of, deprecated_uses, ShowsUses, ShowsInput, ShowsArgument}
use Rattle.gql_sdl_rows.proofs.Attributes.{deprecated_are, uses_text-append}
use Rattle.gql_sdl_rows.proofs.Descriptions.{SaysDescription, no_description}
use Rattle.gql_sdl_rows.proofs.Ends.{EndsName}
use Rattle.gql_sdl_rows.proofs.Parts.{AreSoundInvocations, IsSoundInput}
use Rattle.gql_sdl_rows.proofs.Types.{type_says, default_of, default_says}
use Rattle.gql_sdl_rows.proofs.Uses.{AreUses, uses_say, uses_same, shown_sound}
use Rattle.gql_sdl_rows.proofs.Values.{EndsValue, ends_name, key_says}

-- the argument that was read is this one, apart from places
abbrev pub IsInput : InputDef → Written → Type 0
IsInput c x = bare_input (input_of x) ≡ bare_input c

-- `name: Type = value @use`
abbrev written : Text → TypeRef → Option ConstValue → List Invocation → Text
written name ty default uses = name ++ (codes ": " ++ (type_text ty ++ (default_of default ++ uses_text uses)))

-- ---- what may follow its parts

ends_type : (d : Option ConstValue) (us : List Invocation) (rest : Text) → EndsName rest → EndsName ((default_of d ++ uses_text us) ++ rest)
ends_type None [] rest k = k
ends_type None (u ∷ us) rest k = refl
ends_type (Some v) us rest k = refl

ends_default : (us : List Invocation) (rest : Text) → EndsValue rest → EndsValue (uses_text us ++ rest)
ends_default [] rest k = k
ends_default (u ∷ us) rest k = refl

-- ---- the text

same_input : (c : InputDef) (name : Text) (description : Option Text) (ty : TypeRef) (default : Option ConstValue) (uses : List DirectiveUse) → name ≡ c.name → description ≡ c.description → ty ≡ c.ty → default ≡ c.default
    → uses ≡ (bare_input c).uses → record { name = name; description = description; ty = ty; default = default; uses = uses; at = 0 } ≡ bare_input c
same_input c name description ty default uses e f g h i = rw (e, f, g, h, i) refl

-- Desc Name ":" Type ("=" Value)? Uses
written_says : (front : Text) (c : InputDef) (us : List Invocation) (rest : Text) → SaysDescription front c.description → IsSoundInput c → AreSoundInvocations us
    → ((xs : List Use) → AreUses us xs → map bare_use (map use_of xs) ≡ map bare_use c.uses) → EndsValue rest → Says g.input_value (IsInput c) (front ++ written c.name c.ty c.default us) rest
unfolding g.input_value
written_says front c us rest d s a u k =
    let ty : Text = type_text c.ty in
    let uses : Text = uses_text us in
    mapped (joined front (written c.name c.ty c.default us) rest (d _)
    (joined c.name (codes ": " ++ (ty ++ (default_of c.default ++ uses))) rest (key_says c.name _ s.name refl)
    (sign_then refl refl refl (blank refl (joined ty (default_of c.default ++ uses) rest (type_says c.ty _ s.ty (ends_type c.default us rest (ends_name rest k)))
    (joined (default_of c.default) uses rest (default_says c.default _ s.default (ends_default us rest k)) (uses_say us rest a (ends_name rest k))))))))
    (λ p h. same_input c _ _ _ _ _ h.1.0 h.0 h.1.1.0 h.1.1.1.0 (u p.1.1.1.1.1 h.1.1.1.1))

value_shape : (name ty default uses : Text) → concat (name ∷ codes ": " ∷ ty ∷ default ∷ []) ++ uses ≡ name ++ (codes ": " ++ (ty ++ (default ++ uses)))
value_shape name ty default uses =
    append_assoc name (codes ": " ++ (ty ++ (default ++ []))) uses
    ∙ ap (λ (t : Text). name ++ (codes ": " ++ t)) (append_assoc ty (default ++ []) uses ∙ ap (λ (t : Text). ty ++ (t ++ uses)) (append-nil default))

-- the uses that an argument shows, its deprecation first
abbrev shown_uses : InputValue → List Invocation
shown_uses value = deprecated_uses value.deprecation ++ value.directive_invocations

input_text_is : (value : InputValue) (c : InputDef) → ShowsInput value c → input_value_text value ≡ written c.name c.ty c.default (shown_uses value)
input_text_is value c s =
    let uses : Text = deprecated_text value.deprecation ++ uses_text value.directive_invocations in
    let uses_are : uses ≡ uses_text (shown_uses value) =
    ap (λ (t : Text). t ++ uses_text value.directive_invocations) (deprecated_are value.deprecation) ∙ sym (uses_text-append (deprecated_uses value.deprecation) value.directive_invocations) in
    value_shape value.name value.ty (default_text value.default_value) uses ∙ rw (s.name, s.ty, s.default, uses_are) refl

-- an argument after the text of its description, where no byte follows that goes on a value
pub input_says : (front : Text) (value : InputValue) (c : InputDef) (rest : Text) → SaysDescription front c.description → ShowsInput value c → IsSoundInput c → EndsValue rest
    → Says g.input_value (IsInput c) (front ++ input_value_text value) rest
input_says front value c rest d s i k =
    let us : List Invocation = shown_uses value in
    subst (λ (t : Text). Says g.input_value (IsInput c) (front ++ t) rest) (sym (input_text_is value c s))
    (written_says front c us rest d i (shown_sound us c.uses s.uses i.uses) (λ xs h. uses_same us c.uses xs s.uses h) k)

-- an argument of a directive
pub argument_says : (value : InputValue) (c : InputDef) (rest : Text) → ShowsArgument value c → IsSoundInput c → EndsValue rest → Says g.input_value (IsInput c) (bare_value_text value) rest
argument_says value c rest s i k =
    let us : ShowsUses [] c.uses = ap (map invocation_of) s.uses in
    let none : SaysDescription [] c.description = rw s.description no_description in
    subst (λ (t : Text). Says g.input_value (IsInput c) t rest) (sym (argument_text_is value c s))
    (written_says [] c [] rest none i tt (λ xs h. uses_same [] c.uses xs us h) k)
  where
    argument_text_is : (value : InputValue) (c : InputDef) → ShowsArgument value c → bare_value_text value ≡ written c.name c.ty c.default []
    argument_text_is value c s = sym (append-nil (bare_value_text value)) ∙ value_shape value.name value.ty (default_text value.default_value) [] ∙ rw (s.name, s.ty, s.default) refl
