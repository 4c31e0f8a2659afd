-- The text of each line says its definition.
use Rattle.std.proofs.Common.{◌≡◌, ℕ, List, [], ◌∷◌, ◌++◌, map, codes, refl, sym, ap, ap₂, ◌∙◌, append_assoc, rules, arith, ◌-◌, Option, Some, None, negsuc}
use Rattle.std.proofs.lemmas.List.{append-nil}
use Rattle.std.proofs.lemmas.Simd.{map-map}
use Rattle.std.specs.Fmt.{signed_decimal}
use Rattle.std.specs.Option.{option_map}
use Rattle.std.proofs.lemmas.Fmt.{decimal_digit}
use Rattle.gql_grammar.specs.Form.{Form, many, opt}
use Rattle.gql_text_lexer.specs.Forms.{IsName}
use Rattle.gql_text_syntax.specs.Grammar as g
use Rattle.gql_text_syntax.specs.Reads.{or_none}
use Rattle.gql_text_syntax.specs.Sorts as s
use Rattle.gql_text_syntax.specs.Sorts.{code, only, token}
use Rattle.gql_text_syntax.specs.Types.{bracketed, named, plain_with, type_with, marked, type_of}
use Rattle.gql_text_syntax.specs.declared.sort.Sort.TheVariants.{Bang, CloseBrace, WordEnum, WordInput, WordInterface, WordType}
use Rattle.gql_text_syntax.specs.declared.syntax.Description.{Description}
use Rattle.gql_text_syntax.specs.declared.syntax.EnumValue.{EnumValue}
use Rattle.gql_text_syntax.specs.declared.syntax.Field.{Field}
use Rattle.gql_text_syntax.specs.declared.syntax.InputValue.{InputValue}
use Rattle.gql_text_syntax.specs.declared.syntax.Kind.{Kind}
use Rattle.gql_text_syntax.specs.declared.syntax.ObjectLike.{ObjectLike}
use Rattle.gql_text_syntax.specs.declared.syntax.TypeTree.{TypeTree}
use Rattle.gql_text_syntax.specs.declared.syntax.TypeTree.TheVariants as trees
use Rattle.gql_text_syntax.specs.declared.syntax.TypeTree.TheFolds.{the_lemmas as the_lemmas_of_trees}
use Rattle.gql_text_syntax.specs.declared.syntax.Use.{Use}
use Rattle.gql_text_values.specs.ConstValues.{value_text}
use Rattle.gql_text_values.specs.declared.const_value.ConstValue.{ConstValue}
use Rattle.gql_text_values.specs.declared.const_value.ConstValue.TheFolds.{the_lemmas}
use Rattle.gql_text_values.specs.declared.type_ref.TypeRef.{TypeRef}
use Rattle.gql_text_values.specs.declared.type_ref.TypeRef.TheVariants as refs
use Rattle.gql_text.specs.DocumentOf.{const_value_of, description_of, implements_of, enum_value_of, field_def_of, use_of}
use Rattle.gql_text.specs.DocumentOf as document
use Rattle.gql_text.specs.declared.document.Definition.{Definition}
use Rattle.gql_text.specs.declared.document.Definition.TheVariants as definition
use Rattle.gql_text.specs.declared.document.EnumValueDef.{EnumValueDef}
use Rattle.gql_text.specs.declared.document.FieldDef.{FieldDef}
use Rattle.gql_text.specs.declared.document.InputDef.{InputDef}
use Rattle.gql_text.specs.declared.document.TypeHead.{TypeHead}
use Rattle.gql_registry_meta.specs.Parts.{Text}
use Rattle.gql_sdl_readback.proofs.Sound.{IsEnumName, IsSound, leaf, number}
use Rattle.gql_sdl_readback.proofs.Texts.{Says}
use Rattle.gql_sdl_readback.proofs.Says.{blank, blanks_behind, name_says, word_says, sign_says, sign_then, word_then, joined, nothing_then, then_nothing, absent, present, IsThere, left, right, mapped, weaken, none, cons_says, IsCons, declared_says, limited_says}
use Rattle.gql_sdl_rows.specs.Bare.{bare_field, bare_input, bare_value, bare_use}
use Rattle.gql_sdl_rows.proofs.Definitions.{IsDefinition}
use Rattle.gql_sdl_rows.proofs.Descriptions.{no_description}
use Rattle.gql_sdl_rows.proofs.Ends.{EndsName}
use Rattle.gql_sdl_rows.proofs.Values.{StandsFor, EndsValue, key_says, value_says}
use Rattle.gql_publish_sample.specs.Sample.{name_at, line_of}
use Rattle.gql_publish_sample.specs.Sample as specs
use Rattle.gql_publish_sample.proofs.Definitions.{head_of, field_of, input_of, value_of, int, query, required, minus_one, definition_of, root}

-- ---- types of fields

named_is : (name : Text) → type_of (trees.Named name) ≡ refs.Named name
named_is name = search (rules, the_lemmas_of_trees)

required_is : (name : Text) → type_of (trees.NonNull (trees.Named name)) ≡ refs.NonNull (refs.Named name)
required_is name = search (rules, the_lemmas_of_trees)

bare_name : (name rest : Text) → IsName name → EndsName rest → Says named (λ x. x ≡ trees.Named name) name rest
unfolding named
bare_name name rest i k = mapped (name_says name rest i k) (λ t h. ap (λ (n : Text). trees.Named n) h)

-- `Name`
named_says : (name rest : Text) → IsName name → EndsName rest → Says g.type_ref (λ x. type_of x ≡ refs.Named name) name rest
unfolding type_with plain_with
named_says name rest i k =
    limited_says _ (declared_says _ _ _ (mapped (then_nothing (left (bracketed 64) (bare_name name rest i k)) (absent (token Bang) rest))
    (λ p h. rw (h.0, h.1) (named_is name))))

-- `Name!`
required_says : (name rest : Text) → IsName name → Says g.type_ref (λ x. type_of x ≡ refs.NonNull (refs.Named name)) (name ++ codes "!") rest
unfolding type_with plain_with
required_says name rest i =
    limited_says _ (declared_says _ _ _ (mapped (joined name (codes "!") rest (left (bracketed 64) (bare_name name (codes "!" ++ rest) i refl)) (present (sign_says 33 (code Bang) rest refl refl refl)))
    (λ p h. by_mark p.1 p.0 h.0 h.1)))
  where
    by_mark : (o : Option _) (x : TypeTree) → x ≡ trees.Named name → IsThere (λ t. Unit {0}) o → type_of (marked x o) ≡ refs.NonNull (refs.Named name)
    by_mark None x e h = absurd h
    by_mark (Some mark) x e h = rw e (required_is name)

-- ---- members

-- no uses of directives
no_uses : (rest : Text) → Says (many g.directive_use) (λ xs. map use_of xs ≡ []) [] rest
no_uses rest = weaken _ (none g.directive_use rest) (λ xs h. rw h refl)

no_arguments : (rest : Text) → Says (g.arguments g.input_value) (λ xs. xs ≡ []) [] rest
unfolding g.arguments
no_arguments rest = mapped (absent (g.parenthesized g.input_value) rest) (λ o h. rw h refl)

-- the field that was read is this one, apart from places
abbrev IsField : FieldDef → Field → Type 0
IsField c x = bare_field (field_def_of x) ≡ c

-- `name:Type`
field_says : (name type rest : Text) (ty : TypeRef) → IsName name → Says g.type_ref (λ x. type_of x ≡ ty) type rest → Says g.field (IsField (field_of name ty)) (name ++ (codes ":" ++ type)) rest
unfolding g.field
field_says name type rest ty i t =
    mapped (nothing_then (no_description _) (joined name (codes ":" ++ type) rest (key_says name _ i refl)
    (nothing_then (no_arguments _) (sign_then refl refl refl (then_nothing t (no_uses rest))))))
    (λ p h. same p.1.0.name (description_of p.0) p.1.1.0 _ p.1.1.1.1.1 h.1.0 h.0 h.1.1.0 h.1.1.1.0 h.1.1.1.1)
  where
    same : (n : Text) (d : Option Text) (args : List InputValue) (t : TypeRef) (us : List Use) → n ≡ name → d ≡ None → args ≡ [] → t ≡ ty → map use_of us ≡ []
        → record { name = n; description = d; args = map bare_input (map document.input_of args); ty = t; uses = map bare_use (map use_of us); at = 0 } ≡ field_of name ty
    same n d args t us e f a u v = rw (e, f, a, u, v) refl

-- the value that was read is this one, apart from places
abbrev IsValue : EnumValueDef → EnumValue → Type 0
IsValue c x = bare_value (enum_value_of x) ≡ c

-- `NAME`
value_line : (name rest : Text) → IsEnumName name → EndsName rest → Says g.enum_value (IsValue (value_of name)) name rest
unfolding g.enum_value
value_line name rest i k =
    mapped (nothing_then (no_description _) (then_nothing {Is = λ k. k.name ≡ name} (mapped (word_says s.enum_names name rest i.0 i.1 k) (λ t h. h.0)) (no_uses rest)))
    (λ p h. same p.1.0.name (description_of p.0) p.1.1 h.1.0 h.0 h.1.1)
  where
    same : (n : Text) (d : Option Text) (us : List Use) → n ≡ name → d ≡ None → map use_of us ≡ [] → record { name = n; description = d; uses = map bare_use (map use_of us); at = 0 } ≡ value_of name
    same n d us e f v = rw (e, f, v) refl

-- the field of an input object that was read is this one, apart from places
abbrev IsInput : InputDef → InputValue → Type 0
IsInput c x = bare_input (document.input_of x) ≡ c

-- `name:Type` and a default
input_says : (name type default rest : Text) (ty : TypeRef) (v : Option ConstValue) → IsName name → Says g.type_ref (λ x. type_of x ≡ ty) type (default ++ rest) → Says (opt g.default_value) (λ o. option_map const_value_of o ≡ v) default rest
    → Says g.input_value (IsInput (input_of name ty v)) (name ++ (codes ":" ++ (type ++ default))) rest
unfolding g.input_value
input_says name type default rest ty v i t d =
    mapped (nothing_then (no_description _) (joined name (codes ":" ++ (type ++ default)) rest (key_says name _ i refl)
    (sign_then refl refl refl (joined type default rest t (then_nothing d (no_uses rest))))))
    (λ p h. same p.1.0.name (description_of p.0) _ _ p.1.1.1.1.1 h.1.0 h.0 h.1.1.0 h.1.1.1.0 h.1.1.1.1)
  where
    same : (n : Text) (d : Option Text) (t : TypeRef) (o : Option ConstValue) (us : List Use) → n ≡ name → d ≡ None → t ≡ ty → o ≡ v → map use_of us ≡ []
        → record { name = n; description = d; ty = t; default = o; uses = map bare_use (map use_of us); at = 0 } ≡ input_of name ty v
    same n d t o us e f u w x = rw (e, f, u, w, x) refl

no_default : (rest : Text) → Says (opt g.default_value) (λ o. option_map const_value_of o ≡ None) [] rest
no_default rest = weaken _ (absent g.default_value rest) (λ o h. rw h refl)

minus_one_text : value_text minus_one ≡ codes "-1"
minus_one_text = text_number ∙ ap (λ (t : Text). 45 ∷ t) (decimal_digit 1 (omega arith))
  where
    text_number : value_text minus_one ≡ signed_decimal (negsuc 0)
    text_number = search (rules, the_lemmas)

minus_one_sound : IsSound 64 minus_one
unfolding IsSound
minus_one_sound = leaf (number (negsuc 0) (search rules))

-- `=-1`
default_says : (rest : Text) → EndsValue rest → Says (opt g.default_value) (λ o. option_map const_value_of o ≡ Some minus_one) (codes "=-1") rest
unfolding g.default_value
default_says rest k = weaken _ (present (mapped (sign_then refl refl refl value) (λ p h. h))) (λ o h. by_option o h)
  where
    value : Says g.value (StandsFor minus_one) (codes "-1") rest
    value = rw (← minus_one_text) (value_says minus_one rest minus_one_sound k)

    by_option : (o : Option _) → IsThere (StandsFor minus_one) o → option_map const_value_of o ≡ Some minus_one
    by_option None h = absurd h
    by_option (Some x) h = ap (λ (w : ConstValue). Some w) h

-- ---- braces

-- members in braces, and LF
braced_says : {A : Type 0} (item : Form A) (Is : List A → Type 0) (text rest : Text) → Says (many item) Is text (codes "}\n" ++ rest) → Says (g.body item) Is (codes "{" ++ (text ++ codes "}\n")) rest
unfolding g.body g.braced
braced_says {A} item Is text rest s =
    mapped (present (mapped (sign_then refl refl refl (joined text (codes "}\n") rest s (blanks_behind (codes "}") (codes "\n") rest (refl, tt) (sign_says 125 (code CloseBrace) (codes "\n" ++ rest) refl refl refl)))) (λ p h. h.0)))
    (λ o h. by_option o h)
  where
    by_option : (o : Option (List A)) → IsThere Is o → Is (or_none o)
    by_option None h = absurd h
    by_option (Some xs) h = h

module _ {A B : Type 0} (item : Form A) (of : A → B) where
  -- the members that were read are these
  abbrev Are : List B → List A → Type 0
  Are bs xs = map of xs ≡ bs

  no_more : (rest : Text) → Says (many item) (Are []) [] rest
  no_more rest = weaken _ (none item rest) (λ xs h. rw h refl)

  one_more : (b : B) (bs : List B) (text more rest : Text) → Says item (λ x. of x ≡ b) text (more ++ rest) → Says (many item) (Are bs) more rest → Says (many item) (Are (b ∷ bs)) (text ++ more) rest
  one_more b bs text more rest s r = weaken _ (cons_says text more rest s r) (λ xs h. by_list xs h)
    where
      by_list : (xs : List A) → IsCons (λ x. of x ≡ b) (Are bs) xs → Are (b ∷ bs) xs
      by_list [] h = absurd h
      by_list (x ∷ xs) h = ap₂ (λ (y : B) (ys : List B). y ∷ ys) h.0 h.1

  last : (b : B) (text rest : Text) → Says item (λ x. of x ≡ b) text rest → Says (many item) (Are (b ∷ [])) (text ++ []) rest
  last b text rest s = one_more b [] text [] rest s (no_more rest)

-- ---- kinds

-- what was read is this definition, apart from places, where nothing describes it
abbrev IsKind : Definition → Kind → Type 0
IsKind c k = (d : Option Description) → description_of d ≡ None → IsDefinition c (record { description = d; kind = k })

-- a definition without a description
plain_says : (c : Definition) (text rest : Text) → Says g.kind (IsKind c) text rest → Says g.definition (IsDefinition c) text rest
unfolding g.definition g.described_definition
plain_says c text rest s = right g.extension (mapped (nothing_then (no_description _) s) (λ p h. h.1 p.0 h.0))

same_head : (name n : Text) (d : Option Text) (us : List Use) → n ≡ name → d ≡ None → map use_of us ≡ [] → record { name = n; description = d; uses = map bare_use (map use_of us); at = 0 } ≡ head_of name
same_head name n d us e f v = rw (e, f, v) refl

-- what was read of an object or of an interface
record IsLike (name : Text) (fields : List FieldDef) (o : ObjectLike) : Type 0 where
  name_is : o.key.name ≡ name
  implements_none : implements_of o.implements ≡ []
  uses_none : map use_of o.uses ≡ []
  fields_are : map (λ x. bare_field (field_def_of x)) o.fields ≡ fields

-- Name Fields
like_says : (name text rest : Text) (fields : List FieldDef) → IsName name → Says (many g.field) (λ xs. map (λ x. bare_field (field_def_of x)) xs ≡ fields) text (codes "}\n" ++ rest)
    → Says g.object_like (IsLike name fields) (name ++ (codes "{" ++ (text ++ codes "}\n"))) rest
unfolding g.object_like
like_says name text rest fields i f =
    mapped (joined name (codes "{" ++ (text ++ codes "}\n")) rest (key_says name _ i refl)
    (nothing_then (weaken (λ o. implements_of o ≡ []) (absent g.implements _) (λ o h. rw h refl)) (nothing_then (no_uses _) (braced_says g.field _ text rest f))))
    (λ p h. record { name_is = h.0; implements_none = h.1.0; uses_none = h.1.1.0; fields_are = h.1.1.1 })

fields_same : (fields : List FieldDef) (xs : List Field) → map (λ x. bare_field (field_def_of x)) xs ≡ fields → map bare_field fields ≡ fields → map bare_field (map field_def_of xs) ≡ map bare_field fields
fields_same fields xs e f = map-map bare_field field_def_of xs ∙ e ∙ sym f

-- "type" Name Fields
object_says : (name text rest : Text) (fields : List FieldDef) → IsName name → map bare_field fields ≡ fields → Says (many g.field) (λ xs. map (λ x. bare_field (field_def_of x)) xs ≡ fields) text (codes "}\n" ++ rest)
    → Says g.definition (IsDefinition (definition.Object (head_of name) [] fields)) (codes "type " ++ (name ++ (codes "{" ++ (text ++ codes "}\n")))) rest
unfolding g.kind g.object
object_says name text rest fields i b f =
    plain_says _ _ rest (right g.schema_block (right g.scalar (left _
    (mapped (word_then (only WordType) (codes "type") (codes " " ++ (name ++ (codes "{" ++ (text ++ codes "}\n")))) (refl, refl) refl refl (blank refl (like_says name text rest fields i f)))
    (λ p h d e. record { same = same (same_head name p.1.key.name (description_of d) p.1.uses h.1.name_is e h.1.uses_none) h.1.implements_none (fields_same fields p.1.fields h.1.fields_are b); plain = tt })))))
  where
    same : {head : TypeHead} {implements : List Text} {fs : List FieldDef} → head ≡ head_of name → implements ≡ [] → fs ≡ map bare_field fields
        → definition.Object head implements fs ≡ definition.Object (head_of name) [] (map bare_field fields)
    same e f g = rw (e, f, g) refl

-- "interface" Name Fields
interface_says : (name text rest : Text) (fields : List FieldDef) → IsName name → map bare_field fields ≡ fields → Says (many g.field) (λ xs. map (λ x. bare_field (field_def_of x)) xs ≡ fields) text (codes "}\n" ++ rest)
    → Says g.definition (IsDefinition (definition.Interface (head_of name) [] fields)) (codes "interface " ++ (name ++ (codes "{" ++ (text ++ codes "}\n")))) rest
unfolding g.kind g.«interface»
interface_says name text rest fields i b f =
    plain_says _ _ rest (right g.schema_block (right g.scalar (right g.object (left _
    (mapped (word_then (only WordInterface) (codes "interface") (codes " " ++ (name ++ (codes "{" ++ (text ++ codes "}\n")))) (refl, refl) refl refl (blank refl (like_says name text rest fields i f)))
    (λ p h d e. record { same = same (same_head name p.1.key.name (description_of d) p.1.uses h.1.name_is e h.1.uses_none) h.1.implements_none (fields_same fields p.1.fields h.1.fields_are b); plain = tt }))))))
  where
    same : {head : TypeHead} {implements : List Text} {fs : List FieldDef} → head ≡ head_of name → implements ≡ [] → fs ≡ map bare_field fields
        → definition.Interface head implements fs ≡ definition.Interface (head_of name) [] (map bare_field fields)
    same e f g = rw (e, f, g) refl

-- "enum" Name Values
enum_says : (name text rest : Text) (values : List EnumValueDef) → IsName name → map bare_value values ≡ values → Says (many g.enum_value) (λ xs. map (λ x. bare_value (enum_value_of x)) xs ≡ values) text (codes "}\n" ++ rest)
    → Says g.definition (IsDefinition (definition.Enum (head_of name) values)) (codes "enum " ++ (name ++ (codes "{" ++ (text ++ codes "}\n")))) rest
unfolding g.kind g.type_kind g.enum_type
enum_says name text rest values i b f =
    let more : Text = codes "{" ++ (text ++ codes "}\n") in
    plain_says _ _ rest (right g.schema_block (right g.scalar (right g.object (right g.«interface» (right g.union_type (left _
    (mapped (word_then (only WordEnum) (codes "enum") (codes " " ++ (name ++ more)) (refl, refl) refl refl
    (blank refl (joined name more rest (key_says name _ i refl) (nothing_then (no_uses _) (braced_says g.enum_value _ text rest f)))))
    (λ p h d e. record { same = same (same_head name p.1.0.name (description_of d) p.1.1.0 h.1.0 e h.1.1.0) (map-map bare_value enum_value_of p.1.1.1 ∙ h.1.1.1 ∙ sym b); plain = tt }))))))))
  where
    same : {head : TypeHead} {vs : List EnumValueDef} → head ≡ head_of name → vs ≡ map bare_value values → definition.Enum head vs ≡ definition.Enum (head_of name) (map bare_value values)
    same e f = rw (e, f) refl

-- "input" Name Fields
input_object_says : (name text rest : Text) (fields : List InputDef) → IsName name → map bare_input fields ≡ fields → Says (many g.input_value) (λ xs. map (λ x. bare_input (document.input_of x)) xs ≡ fields) text (codes "}\n" ++ rest)
    → Says g.definition (IsDefinition (definition.Input (head_of name) fields)) (codes "input " ++ (name ++ (codes "{" ++ (text ++ codes "}\n")))) rest
unfolding g.kind g.type_kind g.input
input_object_says name text rest fields i b f =
    let more : Text = codes "{" ++ (text ++ codes "}\n") in
    plain_says _ _ rest (right g.schema_block (right g.scalar (right g.object (right g.«interface» (right g.union_type (right g.enum_type (left _
    (mapped (word_then (only WordInput) (codes "input") (codes " " ++ (name ++ more)) (refl, refl) refl refl
    (blank refl (joined name more rest (key_says name _ i refl) (nothing_then (no_uses _) (braced_says g.input_value _ text rest f)))))
    (λ p h d e. record { same = same (same_head name p.1.0.name (description_of d) p.1.1.0 h.1.0 e h.1.1.0) (map-map bare_input document.input_of p.1.1.1 ∙ h.1.1.1 ∙ sym b); plain = tt })))))))))
  where
    same : {head : TypeHead} {is : List InputDef} → head ≡ head_of name → is ≡ map bare_input fields → definition.Input head is ≡ definition.Input (head_of name) (map bare_input fields)
    same e f = rw (e, f) refl

-- ---- lines

int_says : (rest : Text) → EndsName rest → Says g.type_ref (λ x. type_of x ≡ int) (codes "Int") rest
int_says rest k = named_says (codes "Int") rest (refl, refl) k

query_says : (rest : Text) → EndsName rest → Says g.type_ref (λ x. type_of x ≡ query) (codes "Query") rest
query_says rest k = named_says (codes "Query") rest (refl, refl) k

-- `a:Query`
a_says : (rest : Text) → Says (many g.field) (λ xs. map (λ x. bare_field (field_def_of x)) xs ≡ field_of (codes "a") query ∷ []) (codes "a:Query") (codes "}\n" ++ rest)
a_says rest =
    last g.field (λ x. bare_field (field_def_of x)) (field_of (codes "a") query) (codes "a:Query") (codes "}\n" ++ rest)
    (field_says (codes "a") (codes "Query") (codes "}\n" ++ rest) query (refl, refl) (query_says _ refl))

-- `b:Int a:Query`
fields_say : (rest : Text)
    → Says (many g.field) (λ xs. map (λ x. bare_field (field_def_of x)) xs ≡ field_of (codes "b") int ∷ field_of (codes "a") query ∷ []) (codes "b:Int a:Query") (codes "}\n" ++ rest)
fields_say rest =
    one_more g.field (λ x. bare_field (field_def_of x)) (field_of (codes "b") int) (field_of (codes "a") query ∷ []) (codes "b:Int ") (codes "a:Query") (codes "}\n" ++ rest)
    (blanks_behind (codes "b:Int") (codes " ") (codes "a:Query}\n" ++ rest) (refl, tt) (field_says (codes "b") (codes "Int") (codes " a:Query}\n" ++ rest) int (refl, refl) (int_says _ refl)))
    (a_says rest)

-- `v:Int`
v_says : (rest : Text) → Says (many g.field) (λ xs. map (λ x. bare_field (field_def_of x)) xs ≡ field_of (codes "v") int ∷ []) (codes "v:Int") (codes "}\n" ++ rest)
v_says rest =
    last g.field (λ x. bare_field (field_def_of x)) (field_of (codes "v") int) (codes "v:Int") (codes "}\n" ++ rest)
    (field_says (codes "v") (codes "Int") (codes "}\n" ++ rest) int (refl, refl) (int_says _ refl))

-- `B A`
values_say : (rest : Text) → Says (many g.enum_value) (λ xs. map (λ x. bare_value (enum_value_of x)) xs ≡ value_of (codes "B") ∷ value_of (codes "A") ∷ []) (codes "B A") (codes "}\n" ++ rest)
values_say rest =
    one_more g.enum_value (λ x. bare_value (enum_value_of x)) (value_of (codes "B")) (value_of (codes "A") ∷ []) (codes "B ") (codes "A") (codes "}\n" ++ rest)
    (blanks_behind (codes "B") (codes " ") (codes "A}\n" ++ rest) (refl, tt) (value_line (codes "B") (codes " A}\n" ++ rest) ((refl, refl), refl) refl))
    (last g.enum_value (λ x. bare_value (enum_value_of x)) (value_of (codes "A")) (codes "A") (codes "}\n" ++ rest) (value_line (codes "A") (codes "}\n" ++ rest) ((refl, refl), refl) refl))

-- `b:Name! a:Int=-1`
inputs_say : (name rest : Text) → IsName name
    → Says (many g.input_value) (λ xs. map (λ x. bare_input (document.input_of x)) xs ≡ input_of (codes "b") (required name) None ∷ input_of (codes "a") int (Some minus_one) ∷ [])
    ((codes "b:" ++ (name ++ codes "! ")) ++ codes "a:Int=-1") (codes "}\n" ++ rest)
inputs_say name rest i =
    one_more g.input_value (λ x. bare_input (document.input_of x)) (input_of (codes "b") (required name) None) (input_of (codes "a") int (Some minus_one) ∷ []) (codes "b:" ++ (name ++ codes "! ")) (codes "a:Int=-1") (codes "}\n" ++ rest)
    (rw front_is (blanks_behind (codes "b:" ++ ((name ++ codes "!") ++ [])) (codes " ") (codes "a:Int=-1}\n" ++ rest) (refl, tt)
    (input_says (codes "b") (name ++ codes "!") [] (codes " a:Int=-1}\n" ++ rest) (required name) None (refl, refl) (required_says name _ i) (no_default _))))
    (last g.input_value (λ x. bare_input (document.input_of x)) (input_of (codes "a") int (Some minus_one)) (codes "a:Int=-1") (codes "}\n" ++ rest)
    (input_says (codes "a") (codes "Int") (codes "=-1") (codes "}\n" ++ rest) int (Some minus_one) (refl, refl) (int_says _ refl) (default_says _ refl)))
  where
    front_is : codes "b:" ++ (name ++ codes "! ") ≡ (codes "b:" ++ ((name ++ codes "!") ++ [])) ++ codes " "
    front_is = ap (λ (t : Text). codes "b:" ++ t) (sym (append_assoc name (codes "!") (codes " ")) ∙ ap (λ (t : Text). t ++ codes " ") (sym (append-nil (name ++ codes "!"))))

-- the line of the query root
pub root_line : (rest : Text) → Says g.definition (IsDefinition root) (codes "type Query{v:Int}\n") rest
root_line rest = object_says (codes "Query") (codes "v:Int") rest (field_of (codes "v") int ∷ []) (refl, refl) refl (v_says rest)

-- the line of a type
pub type_line : (k : specs.Kind) (i : ℕ) (rest : Text) → IsName (name_at i) → IsName (name_at (i - 1)) → Says g.definition (IsDefinition (definition_of k (name_at i) (name_at (i - 1)))) (line_of k i) rest
type_line specs.object i rest n m = object_says (name_at i) (codes "b:Int a:Query") rest _ n refl (fields_say rest)
type_line specs.interface i rest n m = interface_says (name_at i) (codes "a:Query") rest _ n refl (a_says rest)
type_line specs.enum i rest n m = enum_says (name_at i) (codes "B A") rest _ n refl (values_say rest)
type_line specs.input i rest n m =
    rw (input_line_is (name_at i) (name_at (i - 1))) (input_object_says (name_at i) ((codes "b:" ++ (name_at (i - 1) ++ codes "! ")) ++ codes "a:Int=-1") rest _ n refl (inputs_say (name_at (i - 1)) rest m))
  where
    input_line_is : (name other : Text) → codes "input " ++ (name ++ (codes "{b:" ++ (other ++ codes "! a:Int=-1}\n"))) ≡ codes "input " ++ (name ++ (codes "{" ++ (((codes "b:" ++ (other ++ codes "! ")) ++ codes "a:Int=-1") ++ codes "}\n")))
    input_line_is name other =
        ap (λ (t : Text). codes "input " ++ (name ++ (codes "{b:" ++ t)))
        (sym (append_assoc other (codes "! ") (codes "a:Int=-1}\n")) ∙ sym (append_assoc (other ++ codes "! ") (codes "a:Int=-1") (codes "}\n")))
