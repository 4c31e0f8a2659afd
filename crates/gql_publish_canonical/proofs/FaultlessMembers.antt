-- The parts of a canonical form have no owner fault where those of the document have none.
use Rattle.std.proofs.Common.{◌≡◌, Bool, true, false, cond, List, [], ◌∷◌, ◌++◌, filter, map, Option, Some, None, refl, sym, ap, ap₂, subst, ◌∙◌, rules}
use Rattle.std.proofs.lemmas.List.{append-nil, map-append}
use Rattle.std.proofs.lemmas.List.Elements.{filter_map-append}
use Rattle.std.specs.Prelude.{◌&&◌, not}
use Rattle.std.specs.List.{AllByRecursion, filter_map, list_all}
use Rattle.gql_text_lexer.specs.Forms.{is_reserved}
use Rattle.gql_text_values.specs.declared.const_value.ConstValue.TheFolds.{the_lemmas}
use Rattle.gql_text_values.specs.declared.const_value.ConstValue.TheVariants as values
use Rattle.gql_text.specs.Owners.{is_attribute}
use Rattle.gql_text.specs.declared.document.DirectiveUse.{DirectiveUse}
use Rattle.gql_text.specs.declared.document.EnumValueDef.{EnumValueDef}
use Rattle.gql_text.specs.declared.document.FieldDef.{FieldDef}
use Rattle.gql_text.specs.declared.document.InputDef.{InputDef}
use Rattle.gql_registry_meta.specs.Parts.{Text, Deprecated, not_deprecated, deprecated_for, Invocation}
use Rattle.gql_publish_document.specs.Uses.{deprecation_in, is_custom, invocation, invocations_in}
use Rattle.gql_sdl_view.specs.Options.{Choice}
use Rattle.gql_sdl_view.specs.Ordered.{arranged}
use Rattle.gql_sdl_rows.specs.Faultless.{are_distinct, has_distinct_keys, is_string, Owner, on_member, on_scalar, on_input, is_faultless_use, attribute_name, are_faultless_uses, is_faultless_default, is_faultless_input, are_faultless_inputs, is_faultless_field, are_faultless_fields, are_faultless_values, are_attributes}
use Rattle.gql_sdl_rows.specs.Shown.{deprecated_uses, url_uses, one_of_uses}
use Rattle.gql_publish_canonical.proofs.Canonical.{at_zero, member_uses, canonical_input, canonical_argument, canonical_field, canonical_fields, canonical_value}
use Rattle.gql_publish_canonical.proofs.Lists.{all_arranged, all_map}
use Rattle.gql_publish_canonical.proofs.Names.{arranged_distinct}
use Rattle.gql_publish_canonical.proofs.Types.{no_custom}

-- ---- tests of all items

pub both : (a b : Bool) → (a && b) ≡ true → (a ≡ true) × (b ≡ true)
both true b e = (refl, e)
both false b e = absurd cc

pub join : (a b : Bool) → a ≡ true → b ≡ true → (a && b) ≡ true
join a b e f = rw (e, f) refl

pub all_pass : {X : Type 0} (test : X → Bool) (xs : List X) → list_all test xs ≡ true → AllByRecursion (λ x. test x ≡ true) xs
all_pass test [] e = tt
all_pass test (x ∷ xs) e = let tests = both (test x) (list_all test xs) e in (tests.0, all_pass test xs tests.1)

pub pass_all : {X : Type 0} (test : X → Bool) (xs : List X) → AllByRecursion (λ x. test x ≡ true) xs → list_all test xs ≡ true
pass_all test [] a = refl
pass_all test (x ∷ xs) a = join (test x) (list_all test xs) a.0 (pass_all test xs a.1)

pub list_all-append : {X : Type 0} (test : X → Bool) (xs ys : List X) → list_all test xs ≡ true → list_all test ys ≡ true → list_all test (xs ++ ys) ≡ true
list_all-append test [] ys e f = f
list_all-append test (x ∷ xs) ys e f =
    let tests = both (test x) (list_all test xs) e in
    join (test x) (list_all test (xs ++ ys)) tests.0 (list_all-append test xs ys tests.1 f)

-- items that are changed and arranged
pub all_changed : {X : Type 0} (test : X → Bool) (change : X → X) (name : X → Text) (t : Bool) → ((x : X) → test x ≡ true → test (change x) ≡ true) → (xs : List X) → list_all test xs ≡ true
    → list_all test (map change (arranged name t xs)) ≡ true
all_changed {X} test change name t each xs e =
    let P : X → Type 0 = λ x. test x ≡ true in
    pass_all test (map change (arranged name t xs)) (all_map P P change each (arranged name t xs) (all_arranged P name t xs (all_pass test xs e)))

-- their names
pub names_changed : {X : Type 0} (change : X → X) (name : X → Text) (t : Bool) → ((x : X) → name (change x) ≡ name x) → (xs : List X) → are_distinct (map name xs) ≡ true → are_distinct (map name (map change (arranged name t xs))) ≡ true
names_changed {X} change name t same xs e = ap are_distinct (names (arranged name t xs)) ∙ arranged_distinct name name t xs ∙ e
  where
    names : (ys : List X) → map name (map change ys) ≡ map name ys
    names [] = refl
    names (y ∷ ys) = ap₂ (λ (n : Text) (ns : List Text). n ∷ ns) (same y) (names ys)

-- ---- uses

no_attribute : (us : List DirectiveUse) → filter_map attribute_name (map at_zero (invocations_in us)) ≡ []
no_attribute [] = refl
no_attribute (u ∷ us) = by_test (is_attribute u.name) refl (no_attribute us)
  where
    by_test : (t : Bool) → is_attribute u.name ≡ t → filter_map attribute_name (map at_zero (invocations_in us)) ≡ [] → filter_map attribute_name (map at_zero (invocations_in (u ∷ us))) ≡ []
    by_test true e f = rw e f
    by_test false e f = rw (e, e) f

custom_pass : (owner : Owner) (us : List DirectiveUse) → list_all (is_faultless_use owner) us ≡ true → list_all (is_faultless_use owner) (map at_zero (invocations_in us)) ≡ true
custom_pass owner [] e = refl
custom_pass owner (u ∷ us) e =
    let tests = both (is_faultless_use owner u) (list_all (is_faultless_use owner) us) e in
    by_test (is_custom u) tests.0 (custom_pass owner us tests.1)
  where
    by_test : (t : Bool) → is_faultless_use owner u ≡ true → list_all (is_faultless_use owner) (map at_zero (invocations_in us)) ≡ true
        → list_all (is_faultless_use owner) (map at_zero (map invocation (cond t (u ∷ filter is_custom us) (filter is_custom us)))) ≡ true
    by_test true p q = join (is_faultless_use owner u) _ p q
    by_test false p q = q

-- attributes, and then the other uses
pub uses_pass : (owner : Owner) (attributes : List Invocation) (us : List DirectiveUse) → are_faultless_uses owner (map at_zero attributes) ≡ true → are_faultless_uses owner us ≡ true
    → are_faultless_uses owner (map at_zero (attributes ++ invocations_in us)) ≡ true
uses_pass owner attributes us e f =
    let given = both (are_distinct (filter_map attribute_name (map at_zero attributes))) _ e in
    let other = both (are_distinct (filter_map attribute_name us)) _ f in
    let names : filter_map attribute_name (map at_zero attributes ++ map at_zero (invocations_in us)) ≡ filter_map attribute_name (map at_zero attributes) =
    filter_map-append attribute_name (map at_zero attributes) (map at_zero (invocations_in us)) ∙ ap (λ (l : List Text). filter_map attribute_name (map at_zero attributes) ++ l) (no_attribute us) ∙ append-nil _ in
    subst (λ (l : List DirectiveUse). are_faultless_uses owner l ≡ true) (sym (map-append at_zero attributes (invocations_in us)))
    (join _ _ (ap are_distinct names ∙ given.0) (list_all-append (is_faultless_use owner) (map at_zero attributes) (map at_zero (invocations_in us)) given.1 (custom_pass owner us other.1)))

text_is_string : (text : Text) → is_string (values.String text) ≡ true
text_is_string text = search (rules, the_lemmas)

text_has_no_keys : (text : Text) → has_distinct_keys (values.String text) ≡ true
text_has_no_keys text = search (rules, the_lemmas)

deprecated_pass : (d : Deprecated) → are_faultless_uses on_member (map at_zero (deprecated_uses d)) ≡ true
deprecated_pass not_deprecated = refl
deprecated_pass (deprecated_for None) = refl
deprecated_pass (deprecated_for (Some reason)) = rw (text_is_string reason, text_has_no_keys reason) refl

pub url_pass : (url : Option Text) → are_faultless_uses on_scalar (map at_zero (url_uses url)) ≡ true
url_pass None = refl
url_pass (Some url) = rw (text_is_string url, text_has_no_keys url) refl

pub one_of_pass : (mark : Bool) → are_faultless_uses on_input (map at_zero (one_of_uses mark)) ≡ true
one_of_pass true = refl
one_of_pass false = refl

-- ---- members

member_pass : (us : List DirectiveUse) → are_faultless_uses on_member us ≡ true → are_faultless_uses on_member (map at_zero (member_uses us)) ≡ true
member_pass us e = uses_pass on_member (deprecated_uses (deprecation_in us)) us (deprecated_pass (deprecation_in us)) e

input_pass : (i : InputDef) → is_faultless_input i ≡ true → is_faultless_input (canonical_input i) ≡ true
input_pass i e = let tests = both (is_faultless_default i.default) (are_faultless_uses on_member i.uses) e in join _ _ tests.0 (member_pass i.uses tests.1)

pub inputs_pass : (t : Bool) (is : List InputDef) → are_faultless_inputs is ≡ true → are_faultless_inputs (map canonical_input (arranged (λ (i : InputDef). i.name) t is)) ≡ true
inputs_pass t is e =
    let tests = both (are_distinct (map (λ (i : InputDef). i.name) is)) (list_all is_faultless_input is) e in
    join _ _ (names_changed canonical_input (λ (i : InputDef). i.name) t (λ i. refl) is tests.0) (all_changed is_faultless_input canonical_input (λ (i : InputDef). i.name) t input_pass is tests.1)

argument_pass : (i : InputDef) → is_faultless_input i ≡ true → is_faultless_input (canonical_argument i) ≡ true
argument_pass i e = let tests = both (is_faultless_default i.default) (are_faultless_uses on_member i.uses) e in join (is_faultless_default i.default) true tests.0 refl

pub arguments_pass : (is : List InputDef) → are_faultless_inputs is ≡ true → are_faultless_inputs (map canonical_argument is) ≡ true
arguments_pass is e =
    let tests = both (are_distinct (map (λ (i : InputDef). i.name) is)) (list_all is_faultless_input is) e in
    join _ _ (names_changed canonical_argument (λ (i : InputDef). i.name) false (λ i. refl) is tests.0) (all_changed is_faultless_input canonical_argument (λ (i : InputDef). i.name) false argument_pass is tests.1)

field_pass : (choice : Choice) (f : FieldDef) → is_faultless_field f ≡ true → is_faultless_field (canonical_field choice f) ≡ true
field_pass choice f e =
    let tests = both (are_faultless_inputs f.args) (are_faultless_uses on_member f.uses) e in
    join _ _ (inputs_pass choice.sorted_arguments f.args tests.0) (member_pass f.uses tests.1)

pub fields_pass : (choice : Choice) (fs : List FieldDef) → are_faultless_fields fs ≡ true → are_faultless_fields (canonical_fields choice fs) ≡ true
fields_pass choice fs e =
    let tests = both (are_distinct (map (λ (f : FieldDef). f.name) fs)) (list_all is_faultless_field fs) e in
    join _ _ (names_changed (canonical_field choice) (λ (f : FieldDef). f.name) choice.sorted_fields (λ f. refl) fs tests.0)
    (all_changed is_faultless_field (canonical_field choice) (λ (f : FieldDef). f.name) choice.sorted_fields (field_pass choice) fs tests.1)

value_pass : (v : EnumValueDef) → are_faultless_uses on_member v.uses ≡ true → are_faultless_uses on_member (canonical_value v).uses ≡ true
value_pass v e = member_pass v.uses e

pub values_pass : (t : Bool) (vs : List EnumValueDef) → are_faultless_values vs ≡ true → are_faultless_values (map canonical_value (arranged (λ (v : EnumValueDef). v.name) t vs)) ≡ true
values_pass t vs e =
    let tests = both (are_distinct (map (λ (v : EnumValueDef). v.name) vs)) (list_all (λ (v : EnumValueDef). are_faultless_uses on_member v.uses) vs) e in
    join _ _ (names_changed canonical_value (λ (v : EnumValueDef). v.name) t (λ v. refl) vs tests.0)
    (all_changed (λ (v : EnumValueDef). are_faultless_uses on_member v.uses) canonical_value (λ (v : EnumValueDef). v.name) t value_pass vs tests.1)

-- ---- the subscription root

deprecated_are_attributes : (d : Deprecated) → are_attributes (map at_zero (deprecated_uses d)) ≡ true
deprecated_are_attributes not_deprecated = refl
deprecated_are_attributes (deprecated_for None) = refl
deprecated_are_attributes (deprecated_for (Some reason)) = refl

custom_attributes : (us : List DirectiveUse) → are_attributes us ≡ true → are_attributes (map at_zero (invocations_in us)) ≡ true
custom_attributes us e = rw (no_custom us e) refl

-- uses that were attributes
pub attributes_stay : (us : List DirectiveUse) → are_attributes us ≡ true → are_attributes (map at_zero (member_uses us)) ≡ true
attributes_stay us e =
    subst (λ (l : List DirectiveUse). are_attributes l ≡ true) (sym (map-append at_zero (deprecated_uses (deprecation_in us)) (invocations_in us)))
    (list_all-append (λ (u : DirectiveUse). is_attribute u.name) (map at_zero (deprecated_uses (deprecation_in us))) (map at_zero (invocations_in us)) (deprecated_are_attributes (deprecation_in us)) (custom_attributes us e))

pub head_attributes : (us : List DirectiveUse) → are_attributes us ≡ true → are_attributes (map at_zero (invocations_in us)) ≡ true
head_attributes us e = custom_attributes us e

root_field_pass : (choice : Choice) (f : FieldDef) → (not (is_reserved f.name) && are_attributes f.uses) ≡ true → (not (is_reserved f.name) && are_attributes (canonical_field choice f).uses) ≡ true
root_field_pass choice f e = let tests = both (not (is_reserved f.name)) (are_attributes f.uses) e in join _ _ tests.0 (attributes_stay f.uses tests.1)

pub root_fields_pass : (choice : Choice) (fs : List FieldDef) → list_all (λ (f : FieldDef). not (is_reserved f.name) && are_attributes f.uses) fs ≡ true
    → list_all (λ (f : FieldDef). not (is_reserved f.name) && are_attributes f.uses) (canonical_fields choice fs) ≡ true
root_fields_pass choice fs e = all_changed (λ (f : FieldDef). not (is_reserved f.name) && are_attributes f.uses) (canonical_field choice) (λ (f : FieldDef). f.name) choice.sorted_fields (root_field_pass choice) fs e
