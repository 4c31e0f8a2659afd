-- Type references: sections 2.11 and 3.4.1 of the GraphQL specification, October 2021.
use Rattle.std.specs.Prelude.{ℕ, Bool, true, false, List, ◌++◌, codes}
use Rattle.std.specs.Str.{bytes_eq}
use Rattle.gql_text_values.specs.declared.type_ref.TypeRef.{TypeRef, fold-TypeRef}
use Rattle.gql_text_values.specs.declared.type_ref.TypeRef.TheOpen.{TypeRef-F}

-- ---- its text

-- one level of a type reference, with the text of the inner one in its place
abbrev pub type_text_step : TypeRef-F (List ℕ) → List ℕ
type_text_step (TypeRef-F.Named name) = name
type_text_step (TypeRef-F.NonNull inner) = inner ++ codes "!"
type_text_step (TypeRef-F.List inner) = codes "[" ++ inner ++ codes "]"

-- `N`, `T!` and `[T]`
abbrev pub type_text : TypeRef → List ℕ
type_text = fold-TypeRef (List ℕ) type_text_step

-- ---- a type reference as plain data

-- section 2.11, Type: a name, a type that is not null, or a list
pub data Reference : Type 0 where
  named : List ℕ → Reference
  non_null : Reference → Reference
  list_of : Reference → Reference

-- one level, with each inner one already seen so
abbrev pub reference_step : TypeRef-F Reference → Reference
reference_step (TypeRef-F.Named name) = named name
reference_step (TypeRef-F.NonNull inner) = non_null inner
reference_step (TypeRef-F.List inner) = list_of inner

-- a type reference, level for level
abbrev pub reference : TypeRef → Reference
reference = fold-TypeRef Reference reference_step

-- the name within all lists and marks of non-null
abbrev pub innermost : Reference → List ℕ
innermost (named name) = name
innermost (non_null inner) = innermost inner
innermost (list_of inner) = innermost inner

-- whether null is a value of the type
abbrev pub is_nullable : Reference → Bool
is_nullable (non_null inner) = false
is_nullable _ = true

-- whether a value of the second type may stand where the first is asked for: section 5.8.5, AreTypesCompatible
abbrev pub is_subtype : Reference → Reference → Bool
is_subtype (non_null a) (non_null b) = is_subtype a b
is_subtype a (non_null b) = is_subtype a b
is_subtype (named a) (named b) = bytes_eq a b
is_subtype (list_of a) (list_of b) = is_subtype a b
is_subtype _ _ = false

-- no `!` is doubled: section 2.11 allows none on a non-null type
abbrev pub IsSingle : Reference → Type 0
IsSingle (named name) = Unit {0}
IsSingle (list_of inner) = IsSingle inner
IsSingle (non_null (non_null inner)) = ⊥
IsSingle (non_null inner) = IsSingle inner
