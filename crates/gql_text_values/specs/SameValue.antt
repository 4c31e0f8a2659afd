-- Equality of constant values: section 2.9 of the GraphQL specification, October 2021.
use Rattle.std.specs.Prelude.{ℕ, ℤ, Bool, true, false, ◌&&◌, List, [], ◌∷◌, map}
use Rattle.std.specs.Str.{bytes_eq}
use Rattle.std.specs.Ordering.{int_eq}
use Rattle.gql_text_values.specs.declared.const_value.ConstValue.{ConstValue, fold-ConstValue}
use Rattle.gql_text_values.specs.declared.const_value.ConstValue.TheOpen.{ConstValue-F}

-- ---- a value as plain data

mutual
  -- section 2.9, Value, with the content of each kind
  pub data Value : Type 0 where
    null : Value
    number : ℤ → Value
    text : List ℕ → Value
    boolean : Bool → Value
    enum : List ℕ → Value
    list : Values → Value
    object : Entries → Value

  -- the items of a list
  pub data Values : Type 0 where
    no_value : Values
    value : Value → Values → Values

  -- the entries of an object
  pub data Entries : Type 0 where
    no_entry : Entries
    entry : List ℕ → Value → Entries → Entries

-- the items of a list
abbrev pub values_of : List Value → Values
values_of [] = no_value
values_of (v ∷ vs) = value v (values_of vs)

-- the entries of an object, each a key and its value
abbrev pub entries_of : List (List ℕ × Value) → Entries
entries_of [] = no_entry
entries_of (e ∷ es) = entry e.0 e.1 (entries_of es)

-- one level, with each inner value already seen so
abbrev pub plain_step : ConstValue-F Value → Value
plain_step ConstValue-F.Null = null
plain_step (ConstValue-F.Number n) = number n
plain_step (ConstValue-F.String t) = text t
plain_step (ConstValue-F.Boolean b) = boolean b
plain_step (ConstValue-F.Enum name) = enum name
plain_step (ConstValue-F.List items) = list (values_of items)
plain_step (ConstValue-F.Object entries) = object (entries_of entries)

-- a value, level for level
abbrev pub plain : ConstValue → Value
plain = fold-ConstValue Value plain_step

-- the items of a list
abbrev pub plain_values : List ConstValue → Values
plain_values items = values_of (map plain items)

-- the entries of an object
abbrev pub plain_entries : List (List ℕ × ConstValue) → Entries
plain_entries entries = entries_of (map (λ e. (e.0, plain e.1)) entries)

-- ---- the test

-- both true, or both false
abbrev pub same_bool : Bool → Bool → Bool
same_bool true true = true
same_bool false false = true
same_bool _ _ = false

-- the same kind with the same content; lists and objects item by item in their order
abbrev mutual
  pub same : Value → Value → Bool
  same null null = true
  same (number a) (number b) = int_eq a b
  same (text a) (text b) = bytes_eq a b
  same (boolean a) (boolean b) = same_bool a b
  same (enum a) (enum b) = bytes_eq a b
  same (list a) (list b) = same_values a b
  same (object a) (object b) = same_entries a b
  same _ _ = false

  pub same_values : Values → Values → Bool
  same_values no_value no_value = true
  same_values (value a more) (value b others) = same a b && same_values more others
  same_values _ _ = false

  pub same_entries : Entries → Entries → Bool
  same_entries no_entry no_entry = true
  same_entries (entry k a more) (entry l b others) = bytes_eq k l && same a b && same_entries more others
  same_entries _ _ = false
