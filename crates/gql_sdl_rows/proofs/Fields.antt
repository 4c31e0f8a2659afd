-- The text of a field says it, with its arguments on one line or on lines of their own.
use Rattle.std.proofs.Common.{◌≡◌, Bool, true, false, List, [], ◌∷◌, ◌++◌, map, codes, refl, sym, subst, ◌∙◌, append_assoc, Option, Some, None}
use Rattle.std.specs.Prelude.{◌||◌}
use Rattle.std.specs.Option.{is_some}
use Rattle.std.specs.List.{AllByRecursion, AllZip, join_by, list_any}
use Rattle.std.specs.Map.{values_of}
use Rattle.std.proofs.lemmas.Simd.{map-map}
use Rattle.gql_grammar.specs.Form.{many}
use Rattle.gql_text_syntax.specs.Grammar as g
use Rattle.gql_text_syntax.specs.Reads.{or_none}
use Rattle.gql_text_syntax.specs.Sorts.{code}
use Rattle.gql_text_syntax.specs.declared.sort.Sort.TheVariants.{CloseParen}
use Rattle.gql_text_syntax.specs.declared.syntax.Field.{Field as Written}
use Rattle.gql_text_syntax.specs.declared.syntax.InputValue.{InputValue as WrittenInput}
use Rattle.gql_text_values.specs.TypeRefs.{type_text}
use Rattle.gql_text_values.specs.declared.type_ref.TypeRef.{TypeRef}
use Rattle.gql_text.specs.DocumentOf.{input_of, field_def_of}
use Rattle.gql_text.specs.declared.document.DirectiveUse.{DirectiveUse}
use Rattle.gql_text.specs.declared.document.FieldDef.{FieldDef}
use Rattle.gql_text.specs.declared.document.InputDef.{InputDef}
use Rattle.gql_registry_meta.specs.Parts.{Text, Invocation, InputValue, Field}
use Rattle.gql_sdl_readback.proofs.Texts.{Says}
use Rattle.gql_sdl_readback.proofs.Says.{blank, sign_says, sign_then, joined, absent, present, IsThere, mapped, some_says}
use Rattle.gql_sdl_readback.proofs.Lists.{AreBlank, blanks}
use Rattle.gql_sdl_view.specs.Descriptions.{described}
use Rattle.gql_sdl_view.specs.Options.{Layout}
use Rattle.gql_sdl_view.specs.Spelling.{uses_text, deprecated_text, bare_value_text, input_value_text, is_described, second_indent, argument_description, described_argument_text, argument_list, arguments_text, bare_arguments_text, field_text}
use Rattle.gql_sdl_rows.specs.Bare.{bare_input, bare_field}
use Rattle.gql_sdl_rows.specs.Shown.{invocation_of, deprecated_uses, ShowsInput, ShowsArgument, ShowsField}
use Rattle.gql_sdl_rows.proofs.Attributes.{deprecated_are, attributes_are}
use Rattle.gql_sdl_rows.proofs.Descriptions.{SaysDescription, no_description, described_says, then_blanks}
use Rattle.gql_sdl_rows.proofs.Each.{separated_each}
use Rattle.gql_sdl_rows.proofs.Ends.{EndsName}
use Rattle.gql_sdl_rows.proofs.Inputs.{IsInput, input_says, argument_says}
use Rattle.gql_sdl_rows.proofs.Parts.{AreSoundInvocations, IsSoundInput, IsSoundField}
use Rattle.gql_sdl_rows.proofs.Types.{type_says}
use Rattle.gql_sdl_rows.proofs.Uses.{uses_line, uses_same, shown_sound}
use Rattle.gql_sdl_rows.proofs.Values.{EndsValue, key_says}

-- ---- arguments in parentheses

-- the arguments that were read are these, apart from places
abbrev pub AreInputs : List InputDef → List WrittenInput → Type 0
AreInputs cs xs = map (λ x. bare_input (input_of x)) xs ≡ map bare_input cs

-- the same, of one or more
no_inputs : (c : InputDef) (cs : List InputDef) → AreInputs (c ∷ cs) [] → ⊥
no_inputs c cs e = cc

-- "(" Input+ ")", where the last argument and the parenthesis have blanks between them
parenthesized_says : (c : InputDef) (cs : List InputDef) (text last rest : Text) → AreBlank last → Says (many g.input_value) (AreInputs (c ∷ cs)) text (last ++ (codes ")" ++ rest))
    → Says (g.parenthesized g.input_value) (AreInputs (c ∷ cs)) (codes "(" ++ (text ++ (last ++ codes ")"))) rest
unfolding g.parenthesized
parenthesized_says c cs text last rest a s =
    mapped (sign_then refl refl refl (joined text (last ++ codes ")") rest
    (some_says g.input_value (no_inputs c cs) (subst (λ (t : Text). Says (many g.input_value) (AreInputs (c ∷ cs)) text t) (sym (append_assoc last (codes ")") rest)) s))
    (blanks last a (sign_says 41 (code CloseParen) rest refl refl refl))))
    (λ p h. h.0)

given_says : (c : InputDef) (cs : List InputDef) (text rest : Text) → Says (g.parenthesized g.input_value) (AreInputs (c ∷ cs)) text rest → Says (g.arguments g.input_value) (AreInputs (c ∷ cs)) text rest
unfolding g.arguments
given_says c cs text rest s = mapped (present s) (λ o h. by_option o h)
  where
    by_option : (o : Option (List WrittenInput)) → IsThere (AreInputs (c ∷ cs)) o → AreInputs (c ∷ cs) (or_none o)
    by_option None h = absurd h
    by_option (Some xs) h = h

none_given : (rest : Text) → Says (g.arguments g.input_value) (AreInputs []) [] rest
unfolding g.arguments
none_given rest = mapped (absent (g.parenthesized g.input_value) rest) (λ o h. rw h refl)

-- ---- arguments of a field

-- an argument without a description
one_line : (value : InputValue) (c : InputDef) (rest : Text) → (ShowsInput value c × (c.description ≡ None)) → IsSoundInput c → EndsValue rest → Says g.input_value (IsInput c) (input_value_text value) rest
one_line value c rest s i k = input_says [] value c rest (rw s.1 no_description) s.0 i k

either : (a b : Bool) → (a || b) ≡ false → (a ≡ false) × (b ≡ false)
either true b e = absurd cc
either false b e = (refl, e)

none_described : (values : List InputValue) (cs : List InputDef) → list_any is_described values ≡ false → AllZip ShowsInput values cs → AllZip (λ value c. ShowsInput value c × (c.description ≡ None)) values cs
none_described [] [] e z = tt
none_described [] (c ∷ cs) e z = absurd z
none_described (v ∷ vs) [] e z = absurd z
none_described (v ∷ vs) (c ∷ cs) e z =
    let tests = either (is_described v) (list_any is_described vs) e in
    ((z.0, sym z.0.description ∙ by_option v.description tests.0), none_described vs cs tests.1 z.1)
  where
    by_option : (o : Option Text) → is_some o ≡ false → o ≡ None
    by_option None e = refl
    by_option (Some text) e = absurd cc

module _ (layout : Layout) (a : AreBlank layout.indent) where
  two_blank : (bytes more : Text) → AreBlank bytes → AreBlank more → AreBlank (bytes ++ more)
  two_blank [] more p q = q
  two_blank (b ∷ bytes) more p q = (p.0, two_blank bytes more p.1 q)

  second_blank : AreBlank (second_indent layout)
  second_blank = two_blank layout.indent layout.indent a a

  front_says : (o : Option Text) → SaysDescription (argument_description layout o ++ second_indent layout) o
  front_says None rest = then_blanks [] (second_indent layout) None second_blank no_description rest
  front_says (Some text) rest =
      let indent : Text = second_indent layout in
      blank refl (then_blanks (described layout.single indent (Some text)) indent (Some text) second_blank (described_says layout.single indent (Some text) second_blank) rest)

  -- an argument on lines of its own
  own_lines : (value : InputValue) (c : InputDef) (rest : Text) → ShowsInput value c → IsSoundInput c → EndsValue rest → Says g.input_value (IsInput c) (described_argument_text layout value) rest
  own_lines value c rest s i k =
      let front : Text = argument_description layout value.description in
      subst (λ (t : Text). Says g.input_value (IsInput c) t rest) (append_assoc front (second_indent layout) (input_value_text value))
      (input_says (front ++ second_indent layout) value c rest (subst (SaysDescription (front ++ second_indent layout)) s.description (front_says value.description)) s i k)

  list_says : (some_described : Bool) (values : List InputValue) (c : InputDef) (cs : List InputDef) (rest : Text) → list_any is_described values ≡ some_described → AllZip ShowsInput values (c ∷ cs)
      → AllByRecursion IsSoundInput (c ∷ cs) → Says (g.parenthesized g.input_value) (AreInputs (c ∷ cs)) (argument_list layout some_described values) rest
  list_says false values c cs rest e z s =
      parenthesized_says c cs (join_by input_value_text (codes ", ") values) [] rest tt
      (separated_each g.input_value (λ x. bare_input (input_of x)) bare_input input_value_text (λ value c. ShowsInput value c × (c.description ≡ None)) IsSoundInput EndsValue one_line (codes ", ") (refl, (refl, tt)) (λ r. refl)
      values (c ∷ cs) (codes ")" ++ rest) (none_described values (c ∷ cs) e z) s refl)
  list_says true values c cs rest e z s =
      parenthesized_says c cs (join_by (described_argument_text layout) (codes ",") values) (codes "\n" ++ layout.indent) rest (refl, a)
      (separated_each g.input_value (λ x. bare_input (input_of x)) bare_input (described_argument_text layout) ShowsInput IsSoundInput EndsValue own_lines (codes ",") (refl, tt) (λ r. refl) values (c ∷ cs) _ z s refl)

  -- ("(" Input+ ")")?
  pub arguments_say : (values : List InputValue) (cs : List InputDef) (rest : Text) → AllZip ShowsInput values cs → AllByRecursion IsSoundInput cs → Says (g.arguments g.input_value) (AreInputs cs) (arguments_text layout values) rest
  arguments_say [] [] rest z s = none_given rest
  arguments_say [] (c ∷ cs) rest z s = absurd z
  arguments_say (v ∷ vs) [] rest z s = absurd z
  arguments_say (v ∷ vs) (c ∷ cs) rest z s = given_says c cs _ rest (list_says (list_any is_described (v ∷ vs)) (v ∷ vs) c cs rest refl z s)

-- ---- arguments of a directive

pub bare_arguments_say : (values : List InputValue) (cs : List InputDef) (rest : Text) → AllZip ShowsArgument values cs → AllByRecursion IsSoundInput cs → Says (g.arguments g.input_value) (AreInputs cs) (bare_arguments_text values) rest
bare_arguments_say [] [] rest z s = none_given rest
bare_arguments_say [] (c ∷ cs) rest z s = absurd z
bare_arguments_say (v ∷ vs) [] rest z s = absurd z
bare_arguments_say (v ∷ vs) (c ∷ cs) rest z s =
    given_says c cs _ rest (parenthesized_says c cs (join_by bare_value_text (codes ", ") (v ∷ vs)) [] rest tt
    (separated_each g.input_value (λ x. bare_input (input_of x)) bare_input bare_value_text ShowsArgument IsSoundInput EndsValue argument_says (codes ", ") (refl, (refl, tt)) (λ r. refl) (v ∷ vs) (c ∷ cs) (codes ")" ++ rest) z s refl))

-- ---- fields

-- the field that was read is this one, apart from places
abbrev pub IsField : FieldDef → Written → Type 0
IsField c x = bare_field (field_def_of x) ≡ bare_field c

same_field : (c : FieldDef) (name : Text) (description : Option Text) (args : List InputDef) (ty : TypeRef) (uses : List DirectiveUse) → name ≡ c.name → description ≡ c.description → args ≡ (bare_field c).args → ty ≡ c.ty
    → uses ≡ (bare_field c).uses → record { name = name; description = description; args = args; ty = ty; uses = uses; at = 0 } ≡ bare_field c
same_field c name description args ty uses e f g h i = rw (e, f, g, h, i) refl

-- the uses that a field shows, its deprecation first
abbrev shown_uses : Field → List Invocation
shown_uses field = deprecated_uses field.deprecation ++ field.directive_invocations

-- `name(arguments): Type @use` and LF
abbrev line : Text → Text → TypeRef → List Invocation → Text
line name args ty us = name ++ (args ++ (codes ": " ++ (type_text ty ++ (uses_text us ++ codes "\n"))))

ends_uses : (us : List Invocation) (rest : Text) → EndsName ((uses_text us ++ codes "\n") ++ rest)
ends_uses [] rest = refl
ends_uses (u ∷ us) rest = refl

ends_key : (layout : Layout) (values : List InputValue) (more rest : Text) → EndsName ((arguments_text layout values ++ (codes ": " ++ more)) ++ rest)
ends_key layout [] more rest = refl
ends_key layout (v ∷ vs) more rest = by_test (list_any is_described (v ∷ vs))
  where
    by_test : (t : Bool) → EndsName ((argument_list layout t (v ∷ vs) ++ (codes ": " ++ more)) ++ rest)
    by_test true = refl
    by_test false = refl

-- Desc Name Args? ":" Type Uses
line_says : (layout : Layout) → AreBlank layout.indent → (front : Text) (values : List InputValue) (c : FieldDef) (us : List Invocation) (rest : Text) → SaysDescription front c.description → AllZip ShowsInput values c.args → IsSoundField c
    → AreSoundInvocations us → map invocation_of c.uses ≡ us → Says g.field (IsField c) (front ++ line c.name (arguments_text layout values) c.ty us) rest
unfolding g.field
line_says layout a front values c us rest d z s b e =
    let args : Text = arguments_text layout values in
    let uses : Text = uses_text us ++ codes "\n" in
    mapped (joined front (line c.name args c.ty us) rest (d _)
    (joined c.name (args ++ (codes ": " ++ (type_text c.ty ++ uses))) rest (key_says c.name _ s.name (ends_key layout values (type_text c.ty ++ uses) rest))
    (joined args (codes ": " ++ (type_text c.ty ++ uses)) rest (arguments_say layout a values c.args _ z s.args)
    (sign_then refl refl refl (blank refl (joined (type_text c.ty) uses rest (type_says c.ty _ s.ty (ends_uses us rest)) (uses_line us rest b)))))))
    (λ p h. same_field c _ _ _ _ _ h.1.0 h.0 (map-map bare_input input_of p.1.1.0 ∙ h.1.1.0) h.1.1.1.0 (uses_same us c.uses p.1.1.1.1.1 e h.1.1.1.1))

field_text_is : (layout : Layout) (field : Field) (c : FieldDef) → ShowsField field c
    → field_text layout field ≡ (described layout.single layout.indent field.description ++ layout.indent) ++ line c.name (arguments_text layout (values_of field.args)) c.ty (shown_uses field)
field_text_is layout field c s =
    let front : Text = described layout.single layout.indent field.description in
    let args : Text = arguments_text layout (values_of field.args) in
    let uses = attributes_are (deprecated_text field.deprecation) (codes "\n") (deprecated_uses field.deprecation) field.directive_invocations (deprecated_are field.deprecation) in
    sym (append_assoc front layout.indent (field.name ++ (args ++ (codes ": " ++ (field.ty ++ (deprecated_text field.deprecation ++ (uses_text field.directive_invocations ++ codes "\n")))))))
    ∙ rw (uses, s.name, s.ty) refl

-- a field, whatever follows
pub field_says : (layout : Layout) → AreBlank layout.indent → (field : Field) (c : FieldDef) (rest : Text) → ShowsField field c → IsSoundField c → Says g.field (IsField c) (field_text layout field) rest
field_says layout a field c rest s i =
    let front : Text = described layout.single layout.indent field.description ++ layout.indent in
    let us : List Invocation = shown_uses field in
    let d : SaysDescription front field.description = then_blanks (described layout.single layout.indent field.description) layout.indent field.description a (described_says layout.single layout.indent field.description a) in
    subst (λ (t : Text). Says g.field (IsField c) t rest) (sym (field_text_is layout field c s))
    (line_says layout a front (values_of field.args) c us rest (subst (SaysDescription front) s.description d) s.args i (shown_sound us c.uses s.uses i.uses) s.uses)
