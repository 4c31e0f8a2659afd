-- The text of a part looks at what a view keeps of it, and at nothing else.
use Rattle.std.proofs.Common.{◌≡◌, Bool, true, false, ◌||◌, List, [], ◌∷◌, ◌++◌, Option, map, filter, refl, ap, ap₂, ◌∙◌, codes}
use Rattle.std.specs.List.{flat_map, join_by, list_any}
use Rattle.std.specs.Map.{values_of}
use Rattle.std.proofs.lemmas.List.Folds.{flat_map-map}
use Rattle.gql_registry_meta.specs.Parts.{Text, InputValue, Field, Directive, Meta, scalar, object, interface, union, enum, input_object}
use Rattle.gql_sdl_view.specs.Options.{Layout, whole}
use Rattle.gql_sdl_view.specs.Ordered.{changed}
use Rattle.gql_sdl_view.specs.Descriptions.{described}
use Rattle.gql_sdl_view.specs.View.{viewed_input_value, viewed_field, viewed_fields, viewed_value, bare_argument, viewed_type, viewed_directive}
use Rattle.gql_sdl_view.specs.Spelling.{bare_value_text, input_value_text, body_text, is_described, described_argument_text, argument_list, arguments_text}
use Rattle.gql_sdl_view.specs.Spelling.{field_text, value_text, input_text, deprecated_text, uses_text, head_text, implements_text, one_of_text, type_end, type_text, bare_arguments_text, repeatable_text, directive_text}
use Rattle.gql_registry_meta.specs.Locations.{location_text}

-- ---- lists

values_of-changed : {X Y : Type 0} (change : X → Y) (es : List (Text × X)) → values_of (changed change es) ≡ map change (values_of es)
values_of-changed change [] = refl
values_of-changed change (e ∷ es) = ap (λ l. change e.1 ∷ l) (values_of-changed change es)

join_by-map : {X Y : Type 0} (text : Y → Text) (change : X → Y) (separator : Text) (xs : List X) → join_by text separator (map change xs) ≡ join_by (λ x. text (change x)) separator xs
join_by-map text change separator [] = refl
join_by-map text change separator (x ∷ xs) = ap (λ (t : Text). text (change x) ++ t) (flat_map-map (λ y. separator ++ text y) change xs)

list_any-map : {X Y : Type 0} (test : Y → Bool) (change : X → Y) (xs : List X) → list_any test (map change xs) ≡ list_any (λ x. test (change x)) xs
list_any-map test change [] = refl
list_any-map test change (x ∷ xs) = ap (λ b. test (change x) || b) (list_any-map test change xs)

all_kept : {X : Type 0} (xs : List X) → filter (λ _. true) xs ≡ xs
all_kept [] = refl
all_kept (x ∷ xs) = ap (λ l. x ∷ l) (all_kept xs)

module _ {X Y : Type 0} (text : Y → Text) (whole_text : X → Text) (change : X → Y) (same : (x : X) → text (change x) ≡ whole_text x) where
  flat_map-changed : (xs : List X) → flat_map text (map change xs) ≡ flat_map whole_text xs
  flat_map-changed [] = refl
  flat_map-changed (x ∷ xs) = ap₂ (λ (a b : Text). a ++ b) (same x) (flat_map-changed xs)

  -- a body of items that are changed
  pub body_text-map : (xs : List X) → body_text text (map change xs) ≡ body_text whole_text xs
  body_text-map [] = refl
  body_text-map (x ∷ xs) = ap (λ (t : Text). codes " {\n" ++ (t ++ codes "}")) (flat_map-changed (x ∷ xs))

  -- a body of members
  body_text-changed : (es : List (Text × X)) → body_text text (values_of (changed change es)) ≡ body_text whole_text (values_of es)
  body_text-changed es = ap (body_text text) (values_of-changed change es) ∙ body_text-map (values_of es)

-- ---- arguments

argument_list-viewed : (layout : Layout) (b : Bool) (values : List InputValue) → argument_list layout b (map viewed_input_value values) ≡ argument_list layout b values
argument_list-viewed layout false values = ap (λ (t : Text). codes "(" ++ (t ++ codes ")")) (join_by-map input_value_text viewed_input_value (codes ", ") values)
argument_list-viewed layout true values = ap (λ (t : Text). codes "(" ++ (t ++ (codes "\n" ++ (layout.indent ++ (codes ")" ++ []))))) (join_by-map (described_argument_text layout) viewed_input_value (codes ",") values)

arguments-map : (layout : Layout) (values : List InputValue) → arguments_text layout (map viewed_input_value values) ≡ arguments_text layout values
arguments-map layout [] = refl
arguments-map layout (value ∷ values) =
    ap (λ b. argument_list layout b (map viewed_input_value (value ∷ values))) (list_any-map is_described viewed_input_value (value ∷ values))
    ∙ argument_list-viewed layout (list_any is_described (value ∷ values)) (value ∷ values)

-- ---- members

field_text-viewed : (layout : Layout) (field : Field) → field_text layout (viewed_field whole field) ≡ field_text layout field
field_text-viewed layout field =
    ap (λ (t : Text). described layout.single layout.indent field.description ++ (layout.indent ++ (field.name ++ (t
    ++ (codes ": " ++ (field.ty ++ (deprecated_text field.deprecation ++ (uses_text field.directive_invocations ++ codes "\n"))))))))
    (ap (arguments_text layout) (values_of-changed viewed_input_value field.args) ∙ arguments-map layout (values_of field.args))

fields_text-viewed : (layout : Layout) (fields : List (Text × Field)) → body_text (field_text layout) (values_of (viewed_fields whole fields)) ≡ body_text (field_text layout) (values_of fields)
fields_text-viewed layout fields =
    ap (λ fs. body_text (field_text layout) (values_of (changed (viewed_field whole) fs))) (all_kept fields)
    ∙ body_text-changed (field_text layout) (field_text layout) (viewed_field whole) (field_text-viewed layout) fields

-- ---- types

-- the text of a type that is viewed whole
pub whole_type_text : (layout : Layout) (names : List Text) (subscription : Option Text) (type : Meta) → type_text layout names (viewed_type whole subscription type) ≡ type_text layout names type
whole_type_text layout names subscription (scalar type) = refl
whole_type_text layout names subscription (object type) =
    ap (λ (t : Text). head_text layout type.description (codes "type ") type.name ++ (implements_text names ++ (uses_text type.directive_invocations ++ (t ++ type_end)))) (fields_text-viewed layout type.fields)
whole_type_text layout names subscription (interface type) =
    ap (λ (t : Text). head_text layout type.description (codes "interface ") type.name ++ (implements_text names ++ (uses_text type.directive_invocations ++ (t ++ type_end)))) (fields_text-viewed layout type.fields)
whole_type_text layout names subscription (union type) = refl
whole_type_text layout names subscription (enum type) =
    ap (λ (t : Text). head_text layout type.description (codes "enum ") type.name ++ (uses_text type.directive_invocations ++ (t ++ type_end)))
    (body_text-changed (value_text layout) (value_text layout) viewed_value (λ value. refl) type.enum_values)
whole_type_text layout names subscription (input_object type) =
    ap (λ (t : Text). head_text layout type.description (codes "input ") type.name ++ (one_of_text type.oneof ++ (uses_text type.directive_invocations ++ (t ++ type_end))))
    (body_text-changed (input_text layout) (input_text layout) viewed_input_value (λ value. refl) type.input_fields)

-- ---- directive definitions

bare-map : (values : List InputValue) → bare_arguments_text (map bare_argument values) ≡ bare_arguments_text values
bare-map [] = refl
bare-map (value ∷ values) = ap (λ (t : Text). codes "(" ++ (t ++ codes ")")) (join_by-map bare_value_text bare_argument (codes ", ") (value ∷ values))

-- the text of a directive definition, whose arguments are bare in a view
pub viewed_directive_text : (layout : Layout) (directive : Directive) → directive_text layout (viewed_directive directive) ≡ directive_text layout directive
viewed_directive_text layout directive =
    ap (λ (t : Text). head_text layout directive.description (codes "directive @") directive.name
    ++ (t ++ (repeatable_text directive.is_repeatable ++ (codes " on " ++ join_by location_text (codes " | ") directive.locations))))
    (ap bare_arguments_text (values_of-changed bare_argument directive.args) ∙ bare-map (values_of directive.args))
