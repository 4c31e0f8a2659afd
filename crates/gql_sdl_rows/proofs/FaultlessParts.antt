-- The parts of a tree have no owner fault exactly where the parts of the document that they stand for have none.
use Rattle.std.proofs.Common.{◌≡◌, ℤ, Bool, true, false, cond, List, [], ◌∷◌, ◌++◌, map, flat_map, Option, Some, None, codes, refl, sym, ap, ap₂, subst, ◌∙◌, rules}
use Rattle.std.specs.Prelude.{not, ◌&&◌, ◌||◌}
use Rattle.std.specs.List.{filter_map}
use Rattle.std.specs.Option.{option_map, is_none}
use Rattle.std.specs.Str.{bytes_eq}
use Rattle.std.proofs.lemmas.Simd.{map-map}
use Rattle.gql_text_lexer.specs.Forms.{is_reserved}
use Rattle.gql_text_syntax.specs.declared.syntax.Argument.{Argument}
use Rattle.gql_text_syntax.specs.declared.syntax.Description.{Description}
use Rattle.gql_text_syntax.specs.declared.syntax.EnumValue.{EnumValue}
use Rattle.gql_text_syntax.specs.declared.syntax.Field.{Field}
use Rattle.gql_text_syntax.specs.declared.syntax.Implements.{Implements}
use Rattle.gql_text_syntax.specs.declared.syntax.InputValue.{InputValue}
use Rattle.gql_text_syntax.specs.declared.syntax.Kind.{Kind}
use Rattle.gql_text_syntax.specs.declared.syntax.Kind.TheVariants as kinds
use Rattle.gql_text_syntax.specs.declared.syntax.ObjectLike.{ObjectLike}
use Rattle.gql_text_syntax.specs.declared.syntax.Root.{Root}
use Rattle.gql_text_syntax.specs.declared.syntax.Literal.{Literal}
use Rattle.gql_text_syntax.specs.declared.syntax.Literal.TheFolds.{ind-Literal, map-Literal, the_lemmas as literal_lemmas}
use Rattle.gql_text_syntax.specs.declared.syntax.Literal.TheOpen.{Literal-F}
use Rattle.gql_text_syntax.specs.declared.syntax.Literal.TheViews.{roll-Literal}
use Rattle.gql_text_syntax.specs.declared.syntax.Literal.TheVariants as lit
use Rattle.gql_text_values.specs.declared.const_value.ConstValue.TheFolds.{the_lemmas}
use Rattle.gql_text_values.specs.declared.const_value.ConstValue.TheVariants as cv
use Rattle.gql_text_syntax.specs.declared.syntax.PlacedName.{PlacedName}
use Rattle.gql_text_syntax.specs.declared.syntax.Use.{Use}
use Rattle.gql_text_values.specs.declared.const_value.ConstValue.{ConstValue}
use Rattle.gql_text.specs.DocumentOf.{const_value_of, argument_of, use_of, input_of, field_def_of, enum_value_of, bare_names_of, implements_of, head_of, root_line_of, kind_of}
use Rattle.gql_text.specs.Owners as o
use Rattle.gql_text.specs.Owners.{Names, no_names, with_seen_name, duplicates, deprecated, specified_by, one_of, is_attribute}
use Rattle.gql_text.specs.Roots.{operation_word}
use Rattle.gql_text.specs.WrittenRoots.{root_key, is_root}
use Rattle.gql_text.specs.declared.document.EnumValueDef.{EnumValueDef}
use Rattle.gql_text.specs.declared.document.FieldDef.{FieldDef}
use Rattle.gql_text.specs.declared.document.InputDef.{InputDef}
use Rattle.gql_text.specs.declared.document.RootLine.{RootLine}
use Rattle.gql_registry_meta.specs.Parts.{Text, is_empty}
use Rattle.gql_sdl_rows.proofs.Parts.{HasItem}
use Rattle.gql_sdl_rows.specs.Faultless.{are_distinct, has_distinct_keys, are_faultless_arguments, is_string, is_one_string, Owner, on_member, on_scalar, on_input, on_other, is_misused, is_faultless_use, attribute_name, are_faultless_uses, is_faultless_default, is_faultless_input, are_faultless_inputs, is_faultless_field, are_faultless_fields, are_faultless_values, is_faultless_like, are_attributes, is_faultless_root, is_faultless_object, is_faultless}
use Rattle.gql_sdl_rows.proofs.Empty.{both_tests, one_where, all_empty, none_repeat, keys_differ}
use Rattle.gql_sdl_rows.proofs.FaultlessValues.{value_told}
use Rattle.gql_sdl_rows.proofs.Values.{value_null, value_number, value_string, value_boolean, value_enum, value_list, entries_of, value_object}

-- ---- strings

abbrev StaysString : Literal → Type 0
StaysString v = o.is_string v ≡ is_string (const_value_of v)

string_by : (v : Literal) (w : ConstValue) (t : Bool) → o.is_string v ≡ t → const_value_of v ≡ w → is_string w ≡ t → StaysString v
string_by v w t e f g = e ∙ sym (ap is_string f ∙ g)

of_null : StaysString lit.Null
of_null = string_by lit.Null cv.Null false (search (rules, literal_lemmas)) value_null (search (rules, the_lemmas))

of_number : (n : ℤ) → StaysString (lit.Number n)
of_number n = string_by (lit.Number n) (cv.Number n) false (search (rules, literal_lemmas)) (value_number n) (search (rules, the_lemmas))

of_string : (text : Text) → StaysString (lit.String text)
of_string text = string_by (lit.String text) (cv.String text) true (search (rules, literal_lemmas)) (value_string text) (search (rules, the_lemmas))

of_boolean : (b : Bool) → StaysString (lit.Boolean b)
of_boolean b = string_by (lit.Boolean b) (cv.Boolean b) false (search (rules, literal_lemmas)) (value_boolean b) (search (rules, the_lemmas))

of_enum : (name : Text) → StaysString (lit.Enum name)
of_enum name = string_by (lit.Enum name) (cv.Enum name) false (search (rules, literal_lemmas)) (value_enum name) (search (rules, the_lemmas))

of_list : (items : List Literal) → StaysString (lit.List items)
of_list items = string_by (lit.List items) (cv.List (map const_value_of items)) false (search (rules, literal_lemmas)) (value_list items) (search (rules, the_lemmas))

of_object : (entries : List (PlacedName × Literal)) → StaysString (lit.Object entries)
of_object entries = string_by (lit.Object entries) (cv.Object (entries_of entries)) false (search (rules, literal_lemmas)) (value_object entries) (search (rules, the_lemmas))

string_layer : (y : Literal-F ((v : Literal) × StaysString v)) → StaysString (roll-Literal (map-Literal ((v : Literal) × StaysString v) Literal (λ e. e.0) y))
string_layer Literal-F.Null = subst StaysString (sym lit.rolls-Null) of_null
string_layer (Literal-F.Number n) = subst StaysString (sym (lit.rolls-Number n)) (of_number n)
string_layer (Literal-F.String text) = subst StaysString (sym (lit.rolls-String text)) (of_string text)
string_layer (Literal-F.Boolean b) = subst StaysString (sym (lit.rolls-Boolean b)) (of_boolean b)
string_layer (Literal-F.Enum name) = subst StaysString (sym (lit.rolls-Enum name)) (of_enum name)
string_layer (Literal-F.List vs) = subst StaysString (sym (lit.rolls-List (map (λ e. e.0) vs))) (of_list (map (λ e. e.0) vs))
string_layer (Literal-F.Object es) = subst StaysString (sym (lit.rolls-Object (map (λ e. (e.0, e.1.0)) es))) (of_object (map (λ e. (e.0, e.1.0)) es))

string_stays : (v : Literal) → StaysString v
string_stays = ind-Literal StaysString (λ x y is. subst (λ z. StaysString (roll-Literal z)) is (string_layer y))

-- ---- arguments of uses

no_arguments : (xs : List Argument) → o.has_no_arguments xs ≡ is_empty (map argument_of xs)
no_arguments [] = refl
no_arguments (x ∷ xs) = refl

one_string : (name : Text) (xs : List Argument) → o.is_one_string name xs ≡ is_one_string name (map argument_of xs)
one_string name [] = refl
one_string name (x ∷ []) = ap (λ (b : Bool). bytes_eq x.key.name name && b) (string_stays x.value)
one_string name (x ∷ y ∷ xs) = refl

arguments_told : (xs : List Argument) → is_empty (o.argument_faults xs) ≡ are_faultless_arguments (map argument_of xs)
arguments_told xs =
    let names : map (λ (a : Argument). a.key.name) xs ≡ map (λ (a : Text × ConstValue). a.0) (map argument_of xs) = sym (map-map (λ (a : Text × ConstValue). a.0) argument_of xs) in
    both_tests _ _ _ _ (keys_differ (λ (a : Argument). a.key) (λ (a : Argument). a.key.name) (λ a. refl) xs ∙ ap are_distinct names)
    (all_empty (λ (a : Argument). o.value_faults a.value) argument_of (λ a. has_distinct_keys a.1) (λ a. value_told a.value) xs)

-- ---- attributes

attribute_names : (xs : List Use) → map (λ k. k.name) (filter_map o.attribute_key xs) ≡ filter_map attribute_name (map use_of xs)
attribute_names [] = refl
attribute_names (x ∷ xs) = by_test (is_attribute x.name) refl (attribute_names xs)
  where
    by_test : (t : Bool) → is_attribute x.name ≡ t → map (λ k. k.name) (filter_map o.attribute_key xs) ≡ filter_map attribute_name (map use_of xs)
        → map (λ k. k.name) (filter_map o.attribute_key (x ∷ xs)) ≡ filter_map attribute_name (map use_of (x ∷ xs))
    by_test true e f = rw e (ap (λ (l : List Text). x.name ∷ l) f)
    by_test false e f = rw e f

attributes_told : (xs : List Use) → is_empty (o.attribute_faults xs) ≡ are_distinct (filter_map attribute_name (map use_of xs))
attributes_told xs = none_repeat no_names (filter_map o.attribute_key xs) ∙ ap are_distinct (attribute_names xs)

-- ---- uses

-- an attribute is misused where its own test fails
abbrev misused : Text → Bool → Bool → Bool → Bool
misused name deprecates specifies marks = (bytes_eq name deprecated && not deprecates) || ((bytes_eq name specified_by && not specifies) || (bytes_eq name one_of && not marks))

on_member_stays : (x : Use) → misused x.name (o.has_no_arguments x.arguments || o.is_one_string (codes "reason") x.arguments) false false ≡ is_misused on_member (use_of x)
on_member_stays x = ap₂ (λ (a b : Bool). misused x.name (a || b) false false) (no_arguments x.arguments) (one_string (codes "reason") x.arguments)

on_scalar_stays : (x : Use) → misused x.name false (o.is_one_string (codes "url") x.arguments) false ≡ is_misused on_scalar (use_of x)
on_scalar_stays x = ap (λ (a : Bool). misused x.name false a false) (one_string (codes "url") x.arguments)

on_input_stays : (x : Use) → misused x.name false false (o.has_no_arguments x.arguments) ≡ is_misused on_input (use_of x)
on_input_stays x = ap (λ (a : Bool). misused x.name false false a) (no_arguments x.arguments)

-- the uses on an owner, by the faults of a misused one
uses_by : {F : Type 0} (attributes : List F) (misuse : Use → List F) (given : List Argument → List F) (owner : Owner) (xs : List Use) → is_empty attributes ≡ are_distinct (filter_map attribute_name (map use_of xs))
    → ((x : Use) → is_empty (misuse x) ≡ not (is_misused owner (use_of x))) → ((a : List Argument) → is_empty (given a) ≡ are_faultless_arguments (map argument_of a))
    → is_empty (attributes ++ flat_map (λ (u : Use). misuse u ++ given u.arguments) xs) ≡ are_faultless_uses owner (map use_of xs)
uses_by attributes misuse given owner xs a m g =
    both_tests attributes _ _ _ a (all_empty (λ (u : Use). misuse u ++ given u.arguments) use_of (is_faultless_use owner) (λ u. both_tests (misuse u) (given u.arguments) (not (is_misused owner (use_of u))) (are_faultless_arguments (map argument_of u.arguments)) (m u) (g u.arguments)) xs)

enum_value_told : (v : EnumValue) → is_empty (o.enum_value_faults v) ≡ are_faultless_uses on_member (map use_of v.uses)
enum_value_told v = uses_by _ _ o.argument_faults on_member v.uses (attributes_told v.uses) (λ x. one_where _ _ ∙ ap not (on_member_stays x)) arguments_told

-- ---- members

default_told : (d : Option Literal) → is_empty (o.default_faults d) ≡ is_faultless_default (option_map const_value_of d)
default_told None = refl
default_told (Some v) = value_told v

input_told : (i : InputValue) → is_empty (o.input_faults i) ≡ is_faultless_input (input_of i)
input_told i =
    both_tests (o.default_faults i.default) _ _ (are_faultless_uses on_member (map use_of i.uses)) (default_told i.default)
    (uses_by _ _ o.argument_faults on_member i.uses (attributes_told i.uses) (λ x. one_where _ _ ∙ ap not (on_member_stays x)) arguments_told)

pub inputs_told : (is : List InputValue) → is_empty (o.inputs_faults is) ≡ are_faultless_inputs (map input_of is)
inputs_told is =
    both_tests _ _ _ _ (keys_differ (λ (i : InputValue). i.key) (λ (i : InputValue). i.key.name) (λ i. refl) is ∙ ap are_distinct (sym (map-map (λ (i : InputDef). i.name) input_of is)))
    (all_empty o.input_faults input_of is_faultless_input input_told is)

field_told : (f : Field) → is_empty (o.field_faults f) ≡ is_faultless_field (field_def_of f)
field_told f =
    both_tests (o.inputs_faults f.arguments) _ _ (are_faultless_uses on_member (map use_of f.uses)) (inputs_told f.arguments)
    (uses_by _ _ o.argument_faults on_member f.uses (attributes_told f.uses) (λ x. one_where _ _ ∙ ap not (on_member_stays x)) arguments_told)

fields_told : (fs : List Field) → is_empty (o.fields_faults fs) ≡ are_faultless_fields (map field_def_of fs)
fields_told fs =
    both_tests _ _ _ _ (keys_differ (λ (f : Field). f.key) (λ (f : Field). f.key.name) (λ f. refl) fs ∙ ap are_distinct (sym (map-map (λ (f : FieldDef). f.name) field_def_of fs)))
    (all_empty o.field_faults field_def_of is_faultless_field field_told fs)

values_told : (vs : List EnumValue) → is_empty (o.enum_values_faults vs) ≡ are_faultless_values (map enum_value_of vs)
values_told vs =
    both_tests _ _ _ _ (keys_differ (λ (v : EnumValue). v.key) (λ (v : EnumValue). v.key.name) (λ v. refl) vs ∙ ap are_distinct (sym (map-map (λ (v : EnumValueDef). v.name) enum_value_of vs)))
    (all_empty o.enum_value_faults enum_value_of (λ v. are_faultless_uses on_member v.uses) enum_value_told vs)

-- ---- objects and interfaces

-- the names that a type implements are written where there is one
abbrev pub AreWritten : Option Implements → Type 0
AreWritten None = Unit {0}
AreWritten (Some i) = HasItem i.names

names_told : (names : List PlacedName) → is_empty (duplicates no_names names) ≡ are_distinct (bare_names_of names)
names_told names = none_repeat no_names names

implements_told : (i : Option Implements) → is_empty (o.implements_faults i) ≡ are_distinct (implements_of i)
implements_told None = refl
implements_told (Some i) = names_told i.names

like_told : (d : Option Description) (x : ObjectLike) → is_empty (o.object_like_faults x) ≡ is_faultless_like (head_of d x.key x.uses) (implements_of x.implements) (map field_def_of x.fields)
like_told d x =
    both_tests (o.reserved x.key) _ (not (is_reserved x.key.name)) _ (one_where (is_reserved x.key.name) _)
    (both_tests (o.implements_faults x.implements) _ (are_distinct (implements_of x.implements)) _ (implements_told x.implements)
    (both_tests _ (o.fields_faults x.fields) (are_faultless_uses on_other (map use_of x.uses)) (are_faultless_fields (map field_def_of x.fields))
    (uses_by _ _ o.argument_faults on_other x.uses (attributes_told x.uses) (λ u. one_where _ _) arguments_told) (fields_told x.fields)))

-- the subscription root
decoration_told : (i : Option Implements) → AreWritten i → is_empty (o.implements_decoration i) ≡ is_empty (implements_of i)
decoration_told None w = refl
decoration_told (Some i) w = some_names i.names w
  where
    some_names : (names : List PlacedName) → HasItem names → false ≡ is_empty (bare_names_of names)
    some_names [] w = absurd w
    some_names (n ∷ names) w = refl

custom_told : (xs : List Use) → is_empty (flat_map o.custom_use_faults xs) ≡ are_attributes (map use_of xs)
custom_told xs = all_empty o.custom_use_faults use_of (λ u. is_attribute u.name) (λ x. one_where (not (is_attribute x.name)) _ ∙ not_not (is_attribute x.name)) xs
  where
    not_not : (b : Bool) → not (not b) ≡ b
    not_not true = refl
    not_not false = refl

root_field_told : (f : Field) → is_empty (o.subscription_field_faults f) ≡ (not (is_reserved f.key.name) && are_attributes (map use_of f.uses))
root_field_told f = both_tests (o.reserved f.key) (flat_map o.custom_use_faults f.uses) _ _ (one_where (is_reserved f.key.name) _) (custom_told f.uses)

root_told : (d : Option Description) (x : ObjectLike) → AreWritten x.implements → is_empty (o.subscription_faults x) ≡ is_faultless_root (head_of d x.key x.uses) (implements_of x.implements) (map field_def_of x.fields)
root_told d x w =
    both_tests (o.implements_decoration x.implements) _ (is_empty (implements_of x.implements)) _ (decoration_told x.implements w)
    (both_tests (flat_map o.custom_use_faults x.uses) (flat_map o.subscription_field_faults x.fields) (are_attributes (map use_of x.uses)) _ (custom_told x.uses)
    (all_empty o.subscription_field_faults field_def_of (λ f. not (is_reserved f.name) && are_attributes f.uses) root_field_told x.fields))

object_told : (root : Option Text) (d : Option Description) (x : ObjectLike) → AreWritten x.implements → is_empty (o.object_faults root x) ≡ is_faultless_object root (head_of d x.key x.uses) (implements_of x.implements) (map field_def_of x.fields)
object_told root d x w = both_tests (o.object_like_faults x) _ _ _ (like_told d x) (by_test (is_root root x.key.name) _ _ (root_told d x w))
  where
    by_test : {F : Type 0} (t : Bool) (faults : List F) (test : Bool) → is_empty faults ≡ test → is_empty (cond t faults []) ≡ cond t test true
    by_test true faults test e = e
    by_test false faults test e = refl

-- ---- kinds

-- a schema block has neither a description nor uses
abbrev pub is_plain : Option Description → Kind → Bool
is_plain d (kinds.Schema at uses roots) = is_none d && is_empty uses
is_plain d _ = true

-- implemented names are written where there is one
abbrev pub HasWritten : Kind → Type 0
HasWritten (kinds.Object x) = AreWritten x.implements
HasWritten (kinds.Interface x) = AreWritten x.implements
HasWritten _ = Unit {0}

and_true : (a : Bool) → a ≡ (a && true)
and_true true = refl
and_true false = refl

and_false : (a : Bool) → false ≡ (a && false)
and_false true = refl
and_false false = refl

roots_told : (roots : List Root) → is_empty (duplicates no_names (map root_key roots)) ≡ are_distinct (map (λ (r : RootLine). operation_word r.kind) (map root_line_of roots))
roots_told roots = keys_differ root_key (λ (r : Root). operation_word r.kind) (λ r. refl) roots ∙ ap are_distinct (sym (map-map (λ (r : RootLine). operation_word r.kind) root_line_of roots))

block_told : (d : Option Description) (uses : List Use) (roots : List Root) → is_empty (o.schema_faults d uses roots) ≡ (are_distinct (map (λ (r : RootLine). operation_word r.kind) (map root_line_of roots)) && (is_none d && is_empty uses))
block_told None [] roots = roots_told roots ∙ and_true _
block_told None (u ∷ uses) roots = and_false _
block_told (Some d) uses roots = and_false _

pub kind_told : (root : Option Text) (d : Option Description) (k : Kind) → HasWritten k → is_empty (o.kind_faults root d k) ≡ (is_faultless root (kind_of d k) && is_plain d k)
kind_told root d (kinds.Schema at uses roots) w = block_told d uses roots
kind_told root d (kinds.Scalar key uses) w =
    both_tests (o.reserved key) _ (not (is_reserved key.name)) (are_faultless_uses on_scalar (map use_of uses)) (one_where (is_reserved key.name) _)
    (uses_by _ _ o.argument_faults on_scalar uses (attributes_told uses) (λ x. one_where _ _ ∙ ap not (on_scalar_stays x)) arguments_told)
    ∙ and_true _
kind_told root d (kinds.Object x) w = object_told root d x w ∙ and_true _
kind_told root d (kinds.Interface x) w = like_told d x ∙ and_true _
kind_told root d (kinds.Union key uses members) w =
    both_tests (o.reserved key ++ _) (duplicates no_names members) (not (is_reserved key.name) && are_faultless_uses on_other (map use_of uses)) (are_distinct (bare_names_of members))
    (both_tests (o.reserved key) _ (not (is_reserved key.name)) (are_faultless_uses on_other (map use_of uses)) (one_where (is_reserved key.name) _)
    (uses_by _ _ o.argument_faults on_other uses (attributes_told uses) (λ u. one_where _ _) arguments_told)) (names_told members)
    ∙ and_true _
kind_told root d (kinds.Enum key uses values) w =
    both_tests (o.reserved key ++ _) (o.enum_values_faults values) (not (is_reserved key.name) && are_faultless_uses on_other (map use_of uses)) (are_faultless_values (map enum_value_of values))
    (both_tests (o.reserved key) _ (not (is_reserved key.name)) (are_faultless_uses on_other (map use_of uses)) (one_where (is_reserved key.name) _)
    (uses_by _ _ o.argument_faults on_other uses (attributes_told uses) (λ u. one_where _ _) arguments_told)) (values_told values)
    ∙ and_true _
kind_told root d (kinds.Input key uses fields) w =
    both_tests (o.reserved key ++ _) (o.inputs_faults fields) (not (is_reserved key.name) && are_faultless_uses on_input (map use_of uses)) (are_faultless_inputs (map input_of fields))
    (both_tests (o.reserved key) _ (not (is_reserved key.name)) (are_faultless_uses on_input (map use_of uses)) (one_where (is_reserved key.name) _)
    (uses_by _ _ o.argument_faults on_input uses (attributes_told uses) (λ x. one_where _ _ ∙ ap not (on_input_stays x)) arguments_told)) (inputs_told fields)
    ∙ and_true _
kind_told root d (kinds.Directive key arguments repeatable locations) w = inputs_told arguments ∙ and_true _
