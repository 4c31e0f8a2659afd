-- Each group of rules is kept in any order.
use Rattle.std.proofs.Common.{◌≡◌, Bool, true, false, not, List, [], ◌∷◌, Option, Some, None, ◌||◌, ◌&&◌, cond, option_and_then, refl, sym, ap, ap₂, ◌∙◌, subst}
use Rattle.std.specs.Str.{bytes_eq}
use Rattle.std.specs.List.{list_any, flat_map}
use Rattle.std.proofs.lemmas.List.Folds.{list_any-append}
use Rattle.gql_text_values.specs.TypeRefs.{Reference, named, non_null, list_of, innermost, is_subtype, is_nullable}
use Rattle.gql_registry_meta.specs.Parts.{Text, at_text, is_among, is_empty}
use Rattle.gql_registry_meta.specs.declared.type_id.MetaTypeId.{MetaTypeId}
use Rattle.gql_registry_meta.specs.declared.type_id.MetaTypeId.TheVariants as kind
use Rattle.gql_check_rules.specs.Schema.{Input, Field, Definition, Schema, exists, is_system_scalar, passes, is_object, is_interface, is_input_object, is_subscription, is_input, is_output, is_entity, declares, has_member, names_input, names_output, interface_fields}
use Rattle.gql_check_rules.specs.Tests.{fault_if, or_else, first_in}
use Rattle.gql_check_rules.specs.Faults.{Fault, input_cycle, query_root, mutation_root, subscription_root, arg_input, field_output, empty_object, arg_type, missing_argument, field_type, missing_field, not_interface, member_not_object, field_input, not_found}
use Rattle.gql_check_rules.specs.InputCycles.{needs, needed_by, input_fields_of, reaches, Reaches, directly, through}
use Rattle.gql_check_rules.specs.Rules.{first_fault, schema_tests, name_fault, name_missing, input_missing, field_missing, type_missing, root_missing, existence_fault, field_missing_tests, object_missing_tests, existence_tests, root_fault, optional_root_fault, root_tests, roots_fault}
use Rattle.gql_check_rules.specs.Rules.{argument_tests, argument_fault, field_tests, field_fault, name_fits, fits, Implementation, argument_implemented, own_field_tests, own_field_implemented, field_implemented, implements_fault, has_entity, may_be_empty, object_tests, object_fault}
use Rattle.gql_check_rules.specs.Rules.{input_field_tests, input_field_fault, input_tests, input_fault, interface_implements_fault, declared_tests, declared_fault, interface_fields_fault, interface_fault, member_fault, union_fault}
use Rattle.gql_check_rules.specs.Order.{Equal, SameByName, AreBoth, SameDefinition, SameField, SameSchema, scalars, objects, interfaces, unions, enums, input_objects, subscriptions, uploads}
use Rattle.gql_check_rules.proofs.Reaching.{reaches-decides}
use Rattle.gql_check_rules.proofs.Soundness.{StaysSound, first_of-sound, test-sound, first_in-sound, each_name-sound, found_or-sound, is_some-same, passes-same, list_any-same, is_empty-same, bool-same, none_apart, none_together}

same_exists : (s t : Schema) → SameSchema s t → (name : Text) → exists s name ≡ exists t name
same_exists s t a name = ap (λ b. is_system_scalar name || b) (is_some-same SameDefinition (at_text name s.types) (at_text name t.types) (a.types.at name))

missing-sound : (s t : Schema) → SameSchema s t → (name : Text) → StaysSound (name_missing s name) (name_missing t name)
missing-sound s t a name = subst (λ b. StaysSound (name_missing s name) (fault_if (not b) (not_found name))) (same_exists s t a name) (λ e. e)

input_missing-sound : (s t : Schema) → SameSchema s t → (n : Text) (x y : Input) → x ≡ y → StaysSound (input_missing s (n, x)) (input_missing t (n, y))
input_missing-sound s t a n x y e = subst (λ z. StaysSound (input_missing s (n, x)) (input_missing t (n, z))) e (missing-sound s t a (innermost x.ty))

field_missing-sound : (s t : Schema) → SameSchema s t → (n : Text) (f g : Field) → SameField f g → StaysSound (field_missing s (n, f)) (field_missing t (n, g))
field_missing-sound s t a n f g same =
    first_of-sound (field_missing_tests s f) (field_missing_tests t g) (
      subst (λ r. StaysSound (name_missing s (innermost f.ty)) (name_missing t (innermost r))) same.ty (missing-sound s t a (innermost f.ty)),
      (first_in-sound Equal (input_missing s) (input_missing t) f.arguments g.arguments same.arguments (input_missing-sound s t a), tt),
    )

type_missing-sound : (s t : Schema) → SameSchema s t → (n : Text) (d e : Definition) → SameDefinition d e → StaysSound (type_missing s (n, d)) (type_missing t (n, e))
type_missing-sound s t a n _ _ scalars = λ h. h
type_missing-sound s t a n _ _ (objects f g i e same) =
    first_of-sound (object_missing_tests s f i) (object_missing_tests t g i) (
      first_in-sound SameField (field_missing s) (field_missing t) f g same (field_missing-sound s t a),
      (each_name-sound (name_missing s) (name_missing t) i (missing-sound s t a), tt),
    )
type_missing-sound s t a n _ _ (interfaces f g i same) = first_in-sound SameField (field_missing s) (field_missing t) f g same (field_missing-sound s t a)
type_missing-sound s t a n _ _ (unions m) = each_name-sound (name_missing s) (name_missing t) m (missing-sound s t a)
type_missing-sound s t a n _ _ enums = λ h. h
type_missing-sound s t a n _ _ (input_objects f g o same) = first_in-sound Equal (input_missing s) (input_missing t) f g same (input_missing-sound s t a)
type_missing-sound s t a n _ _ (subscriptions f g same) = first_in-sound SameField (field_missing s) (field_missing t) f g same (field_missing-sound s t a)
type_missing-sound s t a n _ _ uploads = λ h. h

root_missing-sound : (s t : Schema) → SameSchema s t → (root : Option Text) → StaysSound (root_missing s root) (root_missing t root)
root_missing-sound s t a None = λ h. h
root_missing-sound s t a (Some name) = missing-sound s t a name

pub existence-sound : (s t : Schema) → SameSchema s t → StaysSound (existence_fault s) (existence_fault t)
existence-sound s t a =
    first_of-sound (existence_tests s) (existence_tests t) (
      subst (λ q. StaysSound (name_missing s s.query) (name_missing t q)) a.query (missing-sound s t a s.query),
      (
        subst (λ q. StaysSound (root_missing s s.mutation) (root_missing t q)) a.mutation (root_missing-sound s t a s.mutation),
        (first_in-sound SameDefinition (type_missing s) (type_missing t) s.types t.types a.types (type_missing-sound s t a), tt),
      ),
    )

-- ---- Tests of alike definitions

alike_object : (d e : Definition) → SameDefinition d e → is_object d ≡ is_object e
alike_object _ _ scalars = refl
alike_object _ _ _ = refl

alike_interface : (d e : Definition) → SameDefinition d e → is_interface d ≡ is_interface e
alike_interface _ _ scalars = refl
alike_interface _ _ _ = refl

alike_subscription : (d e : Definition) → SameDefinition d e → is_subscription d ≡ is_subscription e
alike_subscription _ _ scalars = refl
alike_subscription _ _ _ = refl

alike_input : (d e : Definition) → SameDefinition d e → is_input d ≡ is_input e
alike_input _ _ scalars = refl
alike_input _ _ _ = refl

alike_output : (d e : Definition) → SameDefinition d e → is_output d ≡ is_output e
alike_output _ _ scalars = refl
alike_output _ _ _ = refl

alike_entity : (d e : Definition) → SameDefinition d e → is_entity d ≡ is_entity e
alike_entity _ _ scalars = refl
alike_entity _ _ _ = refl

alike_declares : (n : Text) (d e : Definition) → SameDefinition d e → declares n d ≡ declares n e
alike_declares n _ _ scalars = refl
alike_declares n _ _ _ = refl

alike_member : (n : Text) (d e : Definition) → SameDefinition d e → has_member n d ≡ has_member n e
alike_member n _ _ scalars = refl
alike_member n _ _ _ = refl

alike_input_object : (d e : Definition) → SameDefinition d e → is_input_object d ≡ is_input_object e
alike_input_object _ _ scalars = refl
alike_input_object _ _ _ = refl

nothing : {X : Type 0} {R : X → X → Type 0} → SameByName R [] []
nothing = record { at = λ name. tt; one = tt; other = tt }

-- what a list of fields needs, field by field
among_fields : (s : Schema) (c : Text) (fields : List (Text × Input)) → is_among c (flat_map (λ f. needed_by s f.1.ty) fields) ≡ list_any (λ f. is_among c (needed_by s f.1.ty)) fields
among_fields s c [] = refl
among_fields s c (f ∷ fields) = list_any-append (bytes_eq c) (needed_by s f.1.ty) (flat_map (λ f. needed_by s f.1.ty) fields) ∙ ap (λ b. is_among c (needed_by s f.1.ty) || b) (among_fields s c fields)

input_fields : (d e : Option Definition) → AreBoth SameDefinition d e → SameByName Equal (input_fields_of d) (input_fields_of e)
input_fields None None r = nothing
input_fields None (Some e) r = absurd r
input_fields (Some d) None r = absurd r
input_fields (Some d) (Some e) r = of_alike d e r
  where
    of_alike : (d e : Definition) → SameDefinition d e → SameByName Equal (input_fields_of (Some d)) (input_fields_of (Some e))
    of_alike _ _ (input_objects f g o same) = same
    of_alike _ _ scalars = nothing
    of_alike _ _ (objects f g i e same) = nothing
    of_alike _ _ (interfaces f g i same) = nothing
    of_alike _ _ (unions m) = nothing
    of_alike _ _ enums = nothing
    of_alike _ _ (subscriptions f g same) = nothing
    of_alike _ _ uploads = nothing

-- ways over the same needs
same_ways : (s t : Schema) → ((c a : Text) → is_among c (needs s a) ≡ is_among c (needs t a)) → (b a : Text) → Reaches s b a → Reaches t b a
same_ways s t k b a (directly _ m) = directly a (sym (k b a) ∙ m)
same_ways s t k b a (through _ c m more) = through a c (sym (k c a) ∙ m) (same_ways s t k b c more)

-- ---- Everything that the rules ask of a schema by a name

module _ (s t : Schema) (a : SameSchema s t) where
  same_test : (test : Definition → Bool) → ((d e : Definition) → SameDefinition d e → test d ≡ test e) → (name : Text) → passes test (at_text name s.types) ≡ passes test (at_text name t.types)
  same_test test k name = passes-same SameDefinition test (at_text name s.types) (at_text name t.types) k (a.types.at name)

  same_input_name : (name : Text) → names_input s name ≡ names_input t name
  same_input_name name = ap (λ b. is_system_scalar name || b) (same_test is_input alike_input name)

  same_output_name : (name : Text) → names_output s name ≡ names_output t name
  same_output_name name = ap (λ b. is_system_scalar name || b) (same_test is_output alike_output name)

  same_name_fits : (f g : Text) → name_fits s f g ≡ name_fits t f g
  same_name_fits f g = ap₂ (λ b c. bytes_eq f g || b || c)
      (ap₂ (λ b c. b && c) (same_test is_object alike_object f) (same_test (has_member f) (alike_member f) g))
      (ap₂ (λ b c. b && c) (same_test (declares g) (alike_declares g) f) (same_test is_interface alike_interface g))

  same_fits : (f g : Reference) → fits s f g ≡ fits t f g
  same_fits (non_null f) (non_null g) = same_fits f g
  same_fits (non_null f) (named g) = same_fits f (named g)
  same_fits (non_null f) (list_of g) = same_fits f (list_of g)
  same_fits (list_of f) (list_of g) = same_fits f g
  same_fits (named f) (named g) = same_name_fits f g
  same_fits (list_of f) (named g) = refl
  same_fits (list_of f) (non_null g) = refl
  same_fits (named f) (list_of g) = refl
  same_fits (named f) (non_null g) = refl

  -- ---- Roots

  root-sound : (test : Definition → Bool) → ((d e : Definition) → SameDefinition d e → test d ≡ test e) → (fault : Fault) (name : Text) → StaysSound (root_fault s test fault name) (root_fault t test fault name)
  root-sound test k fault name = test-sound (exists s name && not (passes test (at_text name s.types))) (exists t name && not (passes test (at_text name t.types))) fault
      (ap₂ (λ b c. b && not c) (same_exists s t a name) (same_test test k name))

  optional_root-sound : (test : Definition → Bool) → ((d e : Definition) → SameDefinition d e → test d ≡ test e) → (fault : Fault) (root : Option Text) → StaysSound (optional_root_fault s test fault root) (optional_root_fault t test fault root)
  optional_root-sound test k fault None = λ h. h
  optional_root-sound test k fault (Some name) = root-sound test k fault name

  pub roots-sound : StaysSound (roots_fault s) (roots_fault t)
  roots-sound =
      first_of-sound (root_tests s) (root_tests t) (
        subst (λ q. StaysSound (root_fault s is_object query_root s.query) (root_fault t is_object query_root q)) a.query (root-sound is_object alike_object query_root s.query),
        (
          subst (λ q. StaysSound (optional_root_fault s is_object mutation_root s.mutation) (optional_root_fault t is_object mutation_root q)) a.mutation (optional_root-sound is_object alike_object mutation_root s.mutation),
          (subst (λ q. StaysSound (optional_root_fault s is_subscription subscription_root s.subscription) (optional_root_fault t is_subscription subscription_root q)) a.subscription (optional_root-sound is_subscription alike_subscription subscription_root s.subscription), tt),
        ),
      )

  -- ---- Fields

  argument-sound : (ty field n : Text) (x y : Input) → x ≡ y → StaysSound (argument_fault s ty field (n, x)) (argument_fault t ty field (n, y))
  argument-sound ty field n x y e = subst (λ z. StaysSound (argument_fault s ty field (n, x)) (argument_fault t ty field (n, z))) e
      (first_of-sound (argument_tests s ty field (n, x)) (argument_tests t ty field (n, x)) (
        λ h. h,
        (test-sound (not (names_input s (innermost x.ty))) (not (names_input t (innermost x.ty))) (arg_input ty field n) (ap not (same_input_name (innermost x.ty))), tt),
      ))

  field-sound : (ty n : Text) (f g : Field) → SameField f g → StaysSound (field_fault s ty (n, f)) (field_fault t ty (n, g))
  field-sound ty n f g same =
      first_of-sound (field_tests s ty (n, f)) (field_tests t ty (n, g)) (
        λ h. h,
        (
          test-sound (not (names_output s (innermost f.ty))) (not (names_output t (innermost g.ty))) (field_output ty n)
              (ap not (same_output_name (innermost f.ty) ∙ ap (λ r. names_output t (innermost r)) same.ty)),
          (first_in-sound Equal (argument_fault s ty n) (argument_fault t ty n) f.arguments g.arguments same.arguments (argument-sound ty n), tt),
        ),
      )

  -- ---- Implementation

  argument_implemented-sound : (p : Implementation) (field : Text) (f g : Field) → SameField f g → (n : Text) (x y : Input) → x ≡ y → StaysSound (argument_implemented p field f (n, x)) (argument_implemented p field g (n, y))
  argument_implemented-sound p field f g same n x y e = subst (λ z. StaysSound (argument_implemented p field f (n, x)) (argument_implemented p field g (n, z))) e
      (found_or-sound Equal (at_text n f.arguments) (at_text n g.arguments)
      (λ mine. fault_if (not (is_subtype mine.ty x.ty)) (arg_type p.ty field n p.interface)) (λ mine. fault_if (not (is_subtype mine.ty x.ty)) (arg_type p.ty field n p.interface))
      (fault_if (not (is_nullable x.ty)) (missing_argument p.ty field n p.interface)) (fault_if (not (is_nullable x.ty)) (missing_argument p.ty field n p.interface))
      (same.arguments.at n)
      (λ u v same. test-sound (not (is_subtype u.ty x.ty)) (not (is_subtype v.ty x.ty)) (arg_type p.ty field n p.interface) (ap (λ i. not (is_subtype i.ty x.ty)) same)) (λ h. h))

  own_field-sound : (p : Implementation) (n : Text) (f g v w : Field) → SameField f g → SameField v w → StaysSound (own_field_implemented s p n f v) (own_field_implemented t p n g w)
  own_field-sound p n f g v w own wanted =
      first_of-sound (own_field_tests s p n f v) (own_field_tests t p n g w) (
        first_in-sound Equal (argument_implemented p n f) (argument_implemented p n g) v.arguments w.arguments wanted.arguments (argument_implemented-sound p n f g own),
        (test-sound (not (fits s f.ty v.ty)) (not (fits t g.ty w.ty)) (field_type p.ty n p.interface) (ap not (same_fits f.ty v.ty ∙ ap₂ (fits t) own.ty wanted.ty)), tt),
      )

  field_implemented-sound : (p : Implementation) (fs gs : List (Text × Field)) → SameByName SameField fs gs → (n : Text) (v w : Field) → SameField v w → StaysSound (field_implemented s p fs (n, v)) (field_implemented t p gs (n, w))
  field_implemented-sound p fs gs same n v w wanted =
      found_or-sound SameField (at_text n fs) (at_text n gs) (λ f. own_field_implemented s p n f v) (λ g. own_field_implemented t p n g w)
      (Some (missing_field p.kind p.ty n p.interface)) (Some (missing_field p.kind p.ty n p.interface)) (same.at n) (λ f g own. own_field-sound p n f g v w own wanted) (λ h. h)

  wanted_fields : (d e : Option Definition) → AreBoth SameDefinition d e → AreBoth (SameByName SameField) (option_and_then interface_fields d) (option_and_then interface_fields e)
  wanted_fields None None r = tt
  wanted_fields None (Some e) r = absurd r
  wanted_fields (Some d) None r = absurd r
  wanted_fields (Some d) (Some e) r = of_alike d e r
    where
      of_alike : (d e : Definition) → SameDefinition d e → AreBoth (SameByName SameField) (interface_fields d) (interface_fields e)
      of_alike _ _ scalars = tt
      of_alike _ _ (objects f g i e same) = tt
      of_alike _ _ (interfaces f g i same) = same
      of_alike _ _ (unions m) = tt
      of_alike _ _ enums = tt
      of_alike _ _ (input_objects f g o same) = tt
      of_alike _ _ (subscriptions f g same) = tt
      of_alike _ _ uploads = tt

  implements-sound : (kind : MetaTypeId) (ty : Text) (fs gs : List (Text × Field)) → SameByName SameField fs gs → (n : Text) → StaysSound (implements_fault s kind ty fs n) (implements_fault t kind ty gs n)
  implements-sound kind ty fs gs same n =
      found_or-sound (SameByName SameField) (option_and_then interface_fields (at_text n s.types)) (option_and_then interface_fields (at_text n t.types))
      (λ wanted. first_in (field_implemented s (record { kind = kind; ty = ty; interface = n }) fs) wanted) (λ wanted. first_in (field_implemented t (record { kind = kind; ty = ty; interface = n }) gs) wanted)
      (Some (not_interface n)) (Some (not_interface n))
      (wanted_fields (at_text n s.types) (at_text n t.types) (a.types.at n))
      (λ vs ws wanted. first_in-sound SameField (field_implemented s (record { kind = kind; ty = ty; interface = n }) fs) (field_implemented t (record { kind = kind; ty = ty; interface = n }) gs) vs ws wanted
      (field_implemented-sound (record { kind = kind; ty = ty; interface = n }) fs gs same)) (λ h. h)

  -- ---- Objects

  same_entity : has_entity s ≡ has_entity t
  same_entity = list_any-same SameDefinition (λ t. is_entity t.1) (λ t. is_entity t.1) s.types t.types a.types (λ n d e r. alike_entity d e r)

  object-sound : (n : Text) (d e : Definition) → SameDefinition d e → StaysSound (object_fault s (n, d)) (object_fault t (n, e))
  object-sound n _ _ (objects f g i e same) =
      first_of-sound (object_tests s n f i) (object_tests t n g i) (
        test-sound (is_empty f && not (may_be_empty s n)) (is_empty g && not (may_be_empty t n)) (empty_object n)
            (ap₂ (λ b c. b && not c) (is_empty-same SameField f g same) (ap₂ (λ q b. bytes_eq n q && b) a.query same_entity)),
        (
          first_in-sound SameField (field_fault s n) (field_fault t n) f g same (field-sound n),
          (each_name-sound (implements_fault s kind.Object n f) (implements_fault t kind.Object n g) i (implements-sound kind.Object n f g same), tt),
        ),
      )
  object-sound n _ _ scalars = λ h. h
  object-sound n _ _ (interfaces f g i same) = λ h. h
  object-sound n _ _ (unions m) = λ h. h
  object-sound n _ _ enums = λ h. h
  object-sound n _ _ (input_objects f g o same) = λ h. h
  object-sound n _ _ (subscriptions f g same) = λ h. h
  object-sound n _ _ uploads = λ h. h

  pub objects-sound : StaysSound (first_in (object_fault s) s.types) (first_in (object_fault t) t.types)
  objects-sound = first_in-sound SameDefinition (object_fault s) (object_fault t) s.types t.types a.types object-sound

  -- ---- Interfaces and unions

  interface_implements-sound : (ty : Text) (fs gs : List (Text × Field)) → SameByName SameField fs gs → (n : Text) → StaysSound (interface_implements_fault s ty fs n) (interface_implements_fault t ty gs n)
  interface_implements-sound ty fs gs same n = subst (λ b. StaysSound (interface_implements_fault s ty fs n) (cond b (implements_fault t kind.Interface ty gs n) None)) (same_exists s t a n)
      (chosen (exists s n) _ _ (implements-sound kind.Interface ty fs gs same n))
    where
      chosen : (b : Bool) (x y : Option Fault) → StaysSound x y → StaysSound (cond b x None) (cond b y None)
      chosen true x y k = k
      chosen false x y k = λ h. h

  declared-sound : (ty : Text) (fs gs : List (Text × Field)) → SameByName SameField fs gs → (i : List Text) → StaysSound (declared_fault s ty fs i) (declared_fault t ty gs i)
  declared-sound ty fs gs same i = first_of-sound (declared_tests s ty fs i) (declared_tests t ty gs i) (
    (λ h. h),
    (each_name-sound (interface_implements_fault s ty fs) (interface_implements_fault t ty gs) i (interface_implements-sound ty fs gs same), tt),
  )

  interface_fields-sound : (ty : Text) (fs gs : List (Text × Field)) (x y : Option Fault) → is_empty fs ≡ is_empty gs → StaysSound (first_in (field_fault s ty) fs) (first_in (field_fault t ty) gs) → StaysSound x y
      → StaysSound (interface_fields_fault s ty x fs) (interface_fields_fault t ty y gs)
  interface_fields-sound ty [] [] x y e fields declared = λ h. refl
  interface_fields-sound ty [] (g ∷ gs) x y e fields declared = cc e
  interface_fields-sound ty (f ∷ fs) [] x y e fields declared = cc e
  interface_fields-sound ty (f ∷ fs) (g ∷ gs) x y e fields declared = λ h.
      let parts = none_apart (field_fault s ty f) x (first_in (field_fault s ty) fs) h in
      none_together (field_fault t ty g) y (first_in (field_fault t ty) gs) (fields parts.0) (declared parts.1)

  interface-sound : (n : Text) (d e : Definition) → SameDefinition d e → StaysSound (interface_fault s (n, d)) (interface_fault t (n, e))
  interface-sound n _ _ (interfaces f g i same) =
      interface_fields-sound n f g (declared_fault s n f i) (declared_fault t n g i) (is_empty-same SameField f g same)
      (first_in-sound SameField (field_fault s n) (field_fault t n) f g same (field-sound n)) (declared-sound n f g same i)
  interface-sound n _ _ scalars = λ h. h
  interface-sound n _ _ (objects f g i e same) = λ h. h
  interface-sound n _ _ (unions m) = λ h. h
  interface-sound n _ _ enums = λ h. h
  interface-sound n _ _ (input_objects f g o same) = λ h. h
  interface-sound n _ _ (subscriptions f g same) = λ h. h
  interface-sound n _ _ uploads = λ h. h

  pub interfaces-sound : StaysSound (first_in (interface_fault s) s.types) (first_in (interface_fault t) t.types)
  interfaces-sound = first_in-sound SameDefinition (interface_fault s) (interface_fault t) s.types t.types a.types interface-sound

  member-sound : (ty n : Text) → StaysSound (member_fault s ty n) (member_fault t ty n)
  member-sound ty n = test-sound (not (passes is_object (at_text n s.types))) (not (passes is_object (at_text n t.types))) (member_not_object ty n) (ap not (same_test is_object alike_object n))

  union-sound : (n : Text) (d e : Definition) → SameDefinition d e → StaysSound (union_fault s (n, d)) (union_fault t (n, e))
  union-sound n _ _ (unions m) = each_name-sound (member_fault s n) (member_fault t n) m (member-sound n)
  union-sound n _ _ scalars = λ h. h
  union-sound n _ _ (objects f g i e same) = λ h. h
  union-sound n _ _ (interfaces f g i same) = λ h. h
  union-sound n _ _ enums = λ h. h
  union-sound n _ _ (input_objects f g o same) = λ h. h
  union-sound n _ _ (subscriptions f g same) = λ h. h
  union-sound n _ _ uploads = λ h. h

  pub unions-sound : StaysSound (first_in (union_fault s) s.types) (first_in (union_fault t) t.types)
  unions-sound = first_in-sound SameDefinition (union_fault s) (union_fault t) s.types t.types a.types union-sound

  pub names-sound : StaysSound (first_in name_fault s.types) (first_in name_fault t.types)
  names-sound = first_in-sound SameDefinition name_fault name_fault s.types t.types a.types (λ n d e r h. h)

  -- ---- Input objects

  same_need : (r : Reference) → needed_by s r ≡ needed_by t r
  same_need (named name) = refl
  same_need (list_of r) = refl
  same_need (non_null (non_null r)) = refl
  same_need (non_null (list_of r)) = refl
  same_need (non_null (named name)) = ap (λ b. cond b (name ∷ []) []) (same_test is_input_object alike_input_object name)

  same_needs : (c b : Text) → is_among c (needs s b) ≡ is_among c (needs t b)
  same_needs c b =
      among_fields s c (input_fields_of (at_text b s.types))
      ∙ list_any-same Equal (λ f. is_among c (needed_by s f.1.ty)) (λ f. is_among c (needed_by t f.1.ty)) (input_fields_of (at_text b s.types)) (input_fields_of (at_text b t.types))
      (input_fields (at_text b s.types) (at_text b t.types) (a.types.at b)) (λ n x y e. ap (is_among c) (same_need x.ty ∙ ap (λ i. needed_by t i.ty) e))
      ∙ sym (among_fields t c (input_fields_of (at_text b t.types)))

  same_reaches : (b c : Text) → reaches s b c ≡ reaches t b c
  same_reaches b c = bool-same (reaches s b c) (reaches t b c)
      (λ e. (reaches-decides t b c).1 (same_ways s t same_needs b c ((reaches-decides s b c).0 e)))
      (λ e. (reaches-decides s b c).1 (same_ways t s (λ c a. sym (same_needs c a)) b c ((reaches-decides t b c).0 e)))

  input_field-sound : (ty : Text) (o : Bool) (n : Text) (x y : Input) → x ≡ y → StaysSound (input_field_fault s ty o (n, x)) (input_field_fault t ty o (n, y))
  input_field-sound ty o n x y e = subst (λ z. StaysSound (input_field_fault s ty o (n, x)) (input_field_fault t ty o (n, z))) e
      (first_of-sound (input_field_tests s ty o (n, x)) (input_field_tests t ty o (n, x)) (
        λ h. h,
        (
          test-sound (not (names_input s (innermost x.ty))) (not (names_input t (innermost x.ty))) (field_input ty n) (ap not (same_input_name (innermost x.ty))),
          (λ h. h, (λ h. h, tt)),
        ),
      ))

  input-sound : (n : Text) (d e : Definition) → SameDefinition d e → StaysSound (input_fault s (n, d)) (input_fault t (n, e))
  input-sound n _ _ (input_objects f g o same) =
      first_of-sound (input_tests s n f o) (input_tests t n g o) (
        first_in-sound Equal (input_field_fault s n o) (input_field_fault t n o) f g same (input_field-sound n o),
        (test-sound (reaches s n n) (reaches t n n) (input_cycle n) (same_reaches n n), tt),
      )
  input-sound n _ _ scalars = λ h. h
  input-sound n _ _ (objects f g i e same) = λ h. h
  input-sound n _ _ (interfaces f g i same) = λ h. h
  input-sound n _ _ (unions m) = λ h. h
  input-sound n _ _ enums = λ h. h
  input-sound n _ _ (subscriptions f g same) = λ h. h
  input-sound n _ _ uploads = λ h. h

  pub inputs-sound : StaysSound (first_in (input_fault s) s.types) (first_in (input_fault t) t.types)
  inputs-sound = first_in-sound SameDefinition (input_fault s) (input_fault t) s.types t.types a.types input-sound

  -- ---- All rules

  pub rules-sound : StaysSound (first_fault s) (first_fault t)
  rules-sound = first_of-sound (schema_tests s) (schema_tests t) (names-sound, (existence-sound s t a, (roots-sound, (objects-sound, (inputs-sound, (interfaces-sound, (unions-sound, tt)))))))
