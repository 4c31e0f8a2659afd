-- Schemas that have the same parts in another order.
use Rattle.std.specs.Prelude.{◌≡◌, Bool, cond, List, [], ◌∷◌, Option, Some, None, map}
use Rattle.gql_registry_meta.specs.Parts.{Text, at_text}
use Rattle.gql_check_rules.specs.Schema.{Input, Field, Definition, Schema, scalar, object, interface, union, enum, input_object, subscription, upload}

-- ---- entries by name

-- each has the property
abbrev pub Each : {X : Type 0} → (X → Type 0) → List X → Type 0
Each P [] = Unit {0}
Each P (x ∷ xs) = P x × Each P xs

-- each entry is what stands under its name
abbrev pub IsByName : {X : Type 0} → List (Text × X) → Type 0
IsByName entries = Each (λ entry. at_text entry.0 entries ≡ Some entry.1) entries

-- no two entries have one name
abbrev pub HasDistinctNames : {X : Type 0} → List (Text × X) → Type 0
HasDistinctNames [] = Unit {0}
HasDistinctNames (entry ∷ entries) = (at_text entry.0 entries ≡ None) × HasDistinctNames entries

-- both are missing, or both are there and have the relation
abbrev pub AreBoth : {X : Type 0} → (X → X → Type 0) → Option X → Option X → Type 0
AreBoth R None None = Unit {0}
AreBoth R (Some x) (Some y) = R x y
AreBoth R None (Some y) = ⊥
AreBoth R (Some x) None = ⊥

-- two lists in which what stands under each name has the relation
pub record SameByName {X : Type 0} (R : X → X → Type 0) (xs ys : List (Text × X)) : Type 0 where
  pub at : (name : Text) → AreBoth R (at_text name xs) (at_text name ys)
  pub one : IsByName xs
  pub other : IsByName ys

-- the relation of arguments and input fields: nothing of them may differ
abbrev pub Equal : {X : Type 0} → X → X → Type 0
Equal x y = x ≡ y

-- ---- schemas in another order

-- the arguments may stand in another order
pub record SameField (f g : Field) : Type 0 where
  pub ty : f.ty ≡ g.ty
  pub arguments : SameByName Equal f.arguments g.arguments

-- fields in another order, with their arguments in another order
abbrev pub SameFields : List (Text × Field) → List (Text × Field) → Type 0
SameFields = SameByName SameField

-- the fields may stand in another order; interfaces that are declared and members of unions keep theirs
pub data SameDefinition : Definition → Definition → Type 0 where
  scalars : SameDefinition scalar scalar
  objects : (f g : List (Text × Field)) (i : List Text) (k : Bool) → SameFields f g → SameDefinition (object f i k) (object g i k)
  interfaces : (f g : List (Text × Field)) (i : List Text) → SameFields f g → SameDefinition (interface f i) (interface g i)
  unions : (m : List Text) → SameDefinition (union m) (union m)
  enums : SameDefinition enum enum
  input_objects : (f g : List (Text × Input)) (o : Bool) → SameByName Equal f g → SameDefinition (input_object f o) (input_object g o)
  subscriptions : (f g : List (Text × Field)) → SameFields f g → SameDefinition (subscription f) (subscription g)
  uploads : SameDefinition upload upload

-- the types may stand in another order
pub record SameSchema (s t : Schema) : Type 0 where
  pub types : SameByName SameDefinition s.types t.types
  pub query : s.query ≡ t.query
  pub mutation : s.mutation ≡ t.mutation
  pub subscription : s.subscription ≡ t.subscription

-- ---- sorting by name

-- an entry at its place among sorted ones, where `earlier` says which of two names goes first
abbrev pub inserted : {X : Type 0} → (earlier : Text → Text → Bool) → Text × X → List (Text × X) → List (Text × X)
inserted earlier x [] = x ∷ []
inserted earlier x (y ∷ ys) = cond (earlier y.0 x.0) (y ∷ inserted earlier x ys) (x ∷ y ∷ ys)

-- entries in the order of their names, by insertion
abbrev pub sorted : {X : Type 0} → (earlier : Text → Text → Bool) → List (Text × X) → List (Text × X)
sorted earlier [] = []
sorted earlier (x ∷ xs) = inserted earlier x (sorted earlier xs)

-- each value changed, under its name
abbrev pub changed : {X : Type 0} → (X → X) → List (Text × X) → List (Text × X)
changed f entries = map (λ entry. (entry.0, f entry.1)) entries

-- a field with its arguments sorted
abbrev pub sorted_field : (Text → Text → Bool) → Field → Field
sorted_field earlier field = record { ty = field.ty; arguments = sorted earlier field.arguments }

-- fields sorted, and the arguments of each
abbrev pub sorted_fields : (Text → Text → Bool) → List (Text × Field) → List (Text × Field)
sorted_fields earlier fields = sorted earlier (changed (sorted_field earlier) fields)

-- a type with its fields and their arguments sorted; interfaces that it declares and members keep their order
abbrev pub sorted_definition : (Text → Text → Bool) → Definition → Definition
sorted_definition earlier (object fields implements has_key) = object (sorted_fields earlier fields) implements has_key
sorted_definition earlier (interface fields implements) = interface (sorted_fields earlier fields) implements
sorted_definition earlier (input_object fields one_of) = input_object (sorted earlier fields) one_of
sorted_definition earlier (subscription fields) = subscription (sorted_fields earlier fields)
sorted_definition earlier scalar = scalar
sorted_definition earlier (union members) = union members
sorted_definition earlier enum = enum
sorted_definition earlier upload = upload

-- the types in the order of their names, and so the fields and arguments of each
abbrev pub sorted_schema : (Text → Text → Bool) → Schema → Schema
sorted_schema earlier s = record {
  types = sorted earlier (changed (sorted_definition earlier) s.types);
  query = s.query;
  mutation = s.mutation;
  subscription = s.subscription;
}

-- ---- names that do not repeat

-- no two fields have one name, nor two arguments of a field
abbrev pub IsDistinctFields : List (Text × Field) → Type 0
IsDistinctFields fields = HasDistinctNames fields × Each (λ field. HasDistinctNames field.1.arguments) fields

-- the same of the fields of a type
abbrev pub IsDistinctDefinition : Definition → Type 0
IsDistinctDefinition (object fields implements has_key) = IsDistinctFields fields
IsDistinctDefinition (interface fields implements) = IsDistinctFields fields
IsDistinctDefinition (input_object fields one_of) = HasDistinctNames fields
IsDistinctDefinition (subscription fields) = IsDistinctFields fields
IsDistinctDefinition _ = Unit {0}

-- no two types have one name, nor two fields of a type, nor two arguments of a field
abbrev pub IsDistinctSchema : Schema → Type 0
IsDistinctSchema s = HasDistinctNames s.types × Each (λ type. IsDistinctDefinition type.1) s.types
