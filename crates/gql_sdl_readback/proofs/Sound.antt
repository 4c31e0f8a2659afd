-- The values that their texts say.
use Rattle.std.proofs.Common.{◌≡◌, ℕ, zero, suc, ℤ, Bool, true, List}
use Rattle.std.specs.List.{AllByRecursion}
use Rattle.gql_grammar.specs.Form.{among}
use Rattle.gql_text_lexer.specs.Forms.{IsName}
use Rattle.gql_text_lexer.specs.Whole.{IsWithin}
use Rattle.gql_text_syntax.specs.Sorts as s
use Rattle.gql_text_values.specs.declared.const_value.ConstValue.{ConstValue}
use Rattle.gql_text_values.specs.declared.const_value.ConstValue.TheVariants as cv

-- a name that is none of `true`, `false` and `null`
abbrev pub IsEnumName : List ℕ → Type 0
IsEnumName name = IsName name × (among (s.name_sort name) s.enum_names ≡ true)

-- a value that has no others in it: its number is in range, its enum name is one
pub data IsLeaf : ConstValue → Type 0 where
  null : IsLeaf cv.Null
  number : (z : ℤ) → IsWithin z → IsLeaf (cv.Number z)
  string : (text : List ℕ) → IsLeaf (cv.String text)
  boolean : (b : Bool) → IsLeaf (cv.Boolean b)
  enum : (name : List ℕ) → IsEnumName name → IsLeaf (cv.Enum name)

-- such a value, or a list or an object of these, whose keys are names
pub data IsNest (IsInner : ConstValue → Type 0) : ConstValue → Type 0 where
  leaf : {v : ConstValue} → IsLeaf v → IsNest IsInner v
  list : (items : List ConstValue) → AllByRecursion IsInner items → IsNest IsInner (cv.List items)
  object : (entries : List (List ℕ × ConstValue)) → AllByRecursion (λ e. IsName e.0 × IsInner e.1) entries → IsNest IsInner (cv.Object entries)

-- a value with at most this many brackets open at once
unfoldable pub IsSound : ℕ → ConstValue → Type 0
IsSound zero = IsLeaf
IsSound (suc n) = IsNest (IsSound n)
