-- The laws of the rules.
use Rattle.std.proofs.Common.{◌≡◌, IsTrue, Bool, true, false, ◌&&◌, List, [], ◌∷◌, Option, Some, None, refl, sym}
use Rattle.std.specs.List.{flat_map}
use Rattle.gql_registry_meta.specs.Parts.{Text, at_text, is_among}
use Rattle.gql_check_rules.specs.Schema.{Field, Definition, Schema, input_object, is_input_object, passes}
use Rattle.gql_check_rules.specs.Tests.{fault_if, first_in}
use Rattle.gql_check_rules.specs.InputCycles.{needed_by, input_fields_of, reaches, reaches_itself, Reaches, directly, through, HasFiniteValues}
use Rattle.gql_check_rules.specs.Rules.{first_fault, first_cycle, name_fault, existence_fault, roots_fault, object_fault, input_fault, input_field_fault}
use Rattle.gql_check_rules.specs.Order.{Equal, AreBoth, SameByName, SameField, SameFields, SameDefinition, SameSchema, scalars, objects, interfaces, unions, enums, input_objects, subscriptions, uploads}
use Rattle.gql_check_rules.specs.Order.{sorted_schema}
use Rattle.gql_check_rules.specs.Laws.{IsOrderIndependent, IsSortingIndependent, IsKeptWhereFinite, MakesFinite}
use Rattle.gql_check_rules.proofs.Reaching.{reaches-decides}
use Rattle.gql_check_rules.proofs.Finiteness.{no_cycle, value_of}
use Rattle.gql_check_rules.proofs.Soundness.{or_else-left, or_else-right, first_in-found}
use Rattle.gql_check_rules.proofs.AnyOrder.{rules-sound}
use Rattle.gql_check_rules.proofs.Sorting.{schema-same}

-- ---- the other way round

both_back : {X : Type 0} (R Q : X → X → Type 0) → ((x y : X) → R x y → Q y x) → (a b : Option X) → AreBoth R a b → AreBoth Q b a
both_back R Q k None None r = tt
both_back R Q k (Some x) (Some y) r = k x y r
both_back R Q k None (Some y) r = absurd r
both_back R Q k (Some x) None r = absurd r

same_back : {X : Type 0} (R Q : X → X → Type 0) → ((x y : X) → R x y → Q y x) → (xs ys : List (Text × X)) → SameByName R xs ys → SameByName Q ys xs
same_back R Q k xs ys same = record {
  at = λ name. both_back R Q k (at_text name xs) (at_text name ys) (same.at name);
  one = same.other;
  other = same.one;
}

equal_back : {X : Type 0} (x y : X) → Equal x y → Equal y x
equal_back x y e = sym e

field_back : (f g : Field) → SameField f g → SameField g f
field_back f g same = record { ty = sym same.ty; arguments = same_back Equal Equal equal_back f.arguments g.arguments same.arguments }

fields_back : (f g : List (Text × Field)) → SameFields f g → SameFields g f
fields_back f g same = same_back SameField SameField field_back f g same

definition_back : (d e : Definition) → SameDefinition d e → SameDefinition e d
definition_back _ _ scalars = scalars
definition_back _ _ (objects f g i k same) = objects g f i k (fields_back f g same)
definition_back _ _ (interfaces f g i same) = interfaces g f i (fields_back f g same)
definition_back _ _ (unions m) = unions m
definition_back _ _ enums = enums
definition_back _ _ (input_objects f g o same) = input_objects g f o (same_back Equal Equal equal_back f g same)
definition_back _ _ (subscriptions f g same) = subscriptions g f (fields_back f g same)
definition_back _ _ uploads = uploads

schema_back : (s t : Schema) → SameSchema s t → SameSchema t s
schema_back s t same = record {
  types = same_back SameDefinition SameDefinition definition_back s.types t.types same.types;
  query = sym same.query;
  mutation = sym same.mutation;
  subscription = sym same.subscription;
}

pub order_independent : IsOrderIndependent first_fault
order_independent s t same = (rules-sound s t same, rules-sound t s (schema_back s t same))

pub sorting_independent : IsSortingIndependent first_fault
sorting_independent earlier s u = order_independent s (sorted_schema earlier s) (schema-same earlier s u)

-- ---- cycles

-- what needs something is an input object
needing : (s : Schema) (c : Text) (o : Option Definition) → is_among c (flat_map (λ field. needed_by s field.1.ty) (input_fields_of o)) ≡ true → passes is_input_object o ≡ true
needing s c None m = cc m
needing s c (Some (input_object fields one_of)) m = refl
needing s c (Some _) m = cc m

way_needing : (s : Schema) (goal name : Text) → Reaches s goal name → passes is_input_object (at_text name s.types) ≡ true
way_needing s goal name (directly _ m) = needing s goal (at_text name s.types) m
way_needing s goal name (through _ next m more) = needing s next (at_text name s.types) m

different : (b : Bool) → b ≡ true → b ≡ false → ⊥
different true t f = cc f
different false t f = cc t

finite : (s : Schema) → ((name : Text) → passes is_input_object (at_text name s.types) ≡ true → reaches_itself s name ≡ false) → HasFiniteValues s
finite s none name is_input = value_of s (λ a way. different (reaches s a a) ((reaches-decides s a a).1 way) (none a (way_needing s a a way))) name

no_way : (s : Schema) → HasFiniteValues s → (name : Text) → Reaches s name name → ⊥
no_way s values name way = no_cycle s name (values name (way_needing s name name way)) way

not_reached : (b : Bool) {P : Type 0} → (IsTrue b → P) → (P → ⊥) → b ≡ false
not_reached true f n = absurd (n (f refl))
not_reached false f n = refl

test_false : {F : Type 0} (b c : Bool) (x : F) → b ≡ true → fault_if (b && c) x ≡ None → c ≡ false
test_false true true x e h = cc h
test_false true false x e h = refl
test_false false c x e h = cc e

test_none : {F : Type 0} (b c : Bool) (x : F) → c ≡ false → fault_if (b && c) x ≡ None
test_none true true x e = cc e
test_none true false x e = refl
test_none false c x e = refl

all_none : {X F : Type 0} (f : X → Option F) → ((x : X) → f x ≡ None) → (xs : List X) → first_in f xs ≡ None
all_none f k [] = refl
all_none f k (x ∷ xs) = cc (k x, all_none f k xs)

no_cycle_at : (s : Schema) → first_cycle s s.types ≡ None → (name : Text) (o : Option Definition) → at_text name s.types ≡ o → passes is_input_object o ≡ true → reaches_itself s name ≡ false
no_cycle_at s h name None e p = cc p
no_cycle_at s h name (Some d) e p = test_false (is_input_object d) (reaches_itself s name) name p
    (first_in-found (λ type. fault_if (is_input_object type.1 && reaches_itself s type.0) type.0) s.types name d h e)

pub kept_where_finite : IsKeptWhereFinite first_cycle
kept_where_finite s = (
  λ h. finite s (λ name p. no_cycle_at s h name (at_text name s.types) refl p),
  λ values. all_none (λ type. fault_if (is_input_object type.1 && reaches_itself s type.0) type.0)
      (λ type. test_none (is_input_object type.1) (reaches_itself s type.0) type.0
      (not_reached (reaches s type.0 type.0) (reaches-decides s type.0 type.0).0 (no_way s values type.0)))
      s.types,
)

fault_none : {F : Type 0} (b : Bool) (x : F) → fault_if b x ≡ None → b ≡ false
fault_none true x e = cc e
fault_none false x e = refl

-- the rules of input objects are kept where all rules are
inputs_none : (s : Schema) → first_fault s ≡ None → first_in (input_fault s) s.types ≡ None
inputs_none s h =
    let a = or_else-right (first_in name_fault s.types) _ h in
    let b = or_else-right (existence_fault s) _ a in
    let c = or_else-right (roots_fault s) _ b in
    let d = or_else-right (first_in (object_fault s) s.types) _ c in
    or_else-left (first_in (input_fault s) s.types) _ d

no_cycle_in : (s : Schema) (name : Text) (d : Definition) → input_fault s (name, d) ≡ None → is_input_object d ≡ true → reaches_itself s name ≡ false
no_cycle_in s name (input_object fields one_of) h p =
    let tail = or_else-right (first_in (input_field_fault s name one_of) fields) _ h in
    fault_none (reaches_itself s name) _ (or_else-left _ _ tail)
no_cycle_in s name _ h p = cc p

no_cycle_sound : (s : Schema) → first_in (input_fault s) s.types ≡ None → (name : Text) (o : Option Definition) → at_text name s.types ≡ o → passes is_input_object o ≡ true → reaches_itself s name ≡ false
no_cycle_sound s h name None e p = cc p
no_cycle_sound s h name (Some d) e p = no_cycle_in s name d (first_in-found (input_fault s) s.types name d h e) p

pub makes_finite : MakesFinite first_fault
makes_finite s h = finite s (λ name p. no_cycle_sound s (inputs_none s h) name (at_text name s.types) refl p)
