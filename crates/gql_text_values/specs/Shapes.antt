-- What a value looks like, as far as types go: null, a leaf of a named type, or a list. Section 3.4.1 of the GraphQL
-- specification, October 2021.
use Rattle.std.specs.Prelude.{◌≡◌, ℕ, List}
use Rattle.gql_text_values.specs.TypeRefs.{Reference, named, non_null, list_of}

mutual
  -- what a value of a type looks like
  pub data Shape : Type 0 where
    null : Shape
    leaf : List ℕ → Shape
    items : Shapes → Shape

  -- the shapes of the items of a list
  pub data Shapes : Type 0 where
    none : Shapes
    and : Shape → Shapes → Shapes

-- each of the shapes is one of these
abbrev pub Each : (Shape → Type 0) → Shapes → Type 0
Each P none = Unit {0}
Each P (and s ss) = P s × Each P ss

-- the shape is one of a value of the type
abbrev pub Fits : Reference → Shape → Type 0
Fits (named name) null = Unit {0}
Fits (named name) (leaf other) = name ≡ other
Fits (named name) (items ss) = ⊥
Fits (list_of inner) null = Unit {0}
Fits (list_of inner) (leaf other) = ⊥
Fits (list_of inner) (items ss) = Each (Fits inner) ss
Fits (non_null inner) null = ⊥
Fits (non_null inner) (leaf other) = Fits inner (leaf other)
Fits (non_null inner) (items ss) = Fits inner (items ss)
