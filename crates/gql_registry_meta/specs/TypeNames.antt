-- Type references that are read off their text, one level at a time: section 2.11 of the GraphQL specification,
-- October 2021. Each text is read, also one that no type reference has.
use Rattle.std.specs.Prelude.{◌≡◌, ℕ, zero, suc, ◌-◌, Bool, true, false, ◌&&◌, if◌then◌else◌, nat_eq, nat_le, nat_lt, length, take, drop, slice_index, ◌++◌, codes}
use Rattle.std.specs.Str.{bytes_eq}
use Rattle.gql_text_lexer.specs.Forms.{IsName}
use Rattle.gql_text_values.specs.TypeRefs.{Reference, innermost}
use Rattle.gql_text_values.specs.TypeRefs as reference
use Rattle.gql_registry_meta.specs.Parts.{Text}
use Rattle.gql_registry_meta.specs.declared.type_name.MetaTypeName.{MetaTypeName}
use Rattle.gql_registry_meta.specs.declared.type_name.MetaTypeName.TheVariants as variant

-- ---- one level

-- what stands outside, and the text of what stands inside
pub data TypeName : Type 0 where
  named : Text → TypeName
  non_null : Text → TypeName
  list_of : Text → TypeName

-- the level that a value of the code is
abbrev pub type_name_of : MetaTypeName → TypeName
type_name_of (variant.Named text) = named text.now
type_name_of (variant.NonNull text) = non_null text.now
type_name_of (variant.List text) = list_of text.now

-- the text of a level: `T`, `T!` or `[T]`
abbrev pub type_name_text : TypeName → Text
type_name_text (named text) = text
type_name_text (non_null text) = text ++ codes "!"
type_name_text (list_of text) = codes "[" ++ (text ++ codes "]")

-- `!`
abbrev pub exclamation_mark : ℕ
exclamation_mark = 33

-- `[`
abbrev pub open_bracket : ℕ
open_bracket = 91

-- `]`
abbrev pub close_bracket : ℕ
close_bracket = 93

-- the text begins with the byte
abbrev pub first_is : ℕ → Text → Bool
first_is byte text = nat_eq (slice_index text 0) byte

-- the text ends in the byte
abbrev pub last_is : ℕ → Text → Bool
last_is byte text = nat_lt 0 (length text) && nat_eq (slice_index text (length text - 1)) byte

-- two or more bytes, `[` first and `]` last
abbrev pub is_bracketed : Text → Bool
is_bracketed text = nat_le 2 (length text) && first_is open_bracket text && last_is close_bracket text

-- the text without its last byte
abbrev pub without_last : Text → Text
without_last text = take (length text - 1) text

-- the text without its first and its last byte
abbrev pub middle : Text → Text
middle text = take (length text - 1 - 1) (drop 1 text)

-- a text that ends in `!` is non-null, one in brackets is a list, and every other one is a name
abbrev pub outer : Text → TypeName
outer text =
    if last_is exclamation_mark text then non_null (without_last text)
    else if is_bracketed text then list_of (middle text)
    else named text

-- the level is a mark of non-null
abbrev pub is_non_null : TypeName → Bool
is_non_null (non_null text) = true
is_non_null _ = false

-- the level within a mark of non-null
abbrev pub without_non_null : TypeName → TypeName
without_non_null (non_null text) = outer text
without_non_null name = name

-- ---- all levels

-- a level, with what is within it read off its text
abbrev pub inner_read : (Text → Reference) → TypeName → Reference
inner_read read (named text) = reference.named text
inner_read read (non_null text) = reference.non_null (read text)
inner_read read (list_of text) = reference.list_of (read text)

-- so many levels; what is within them is taken for a name
abbrev pub levels_read : ℕ → Text → Reference
levels_read zero text = reference.named text
levels_read (suc n) text = inner_read (levels_read n) (outer text)

-- the type reference that is read off a text: as each level takes a byte or more off it, so many levels are all
unfoldable pub reference_read : Text → Reference
reference_read text = levels_read (length text) text

-- a level with all that is within it
abbrev pub whole_reference : TypeName → Reference
whole_reference name = inner_read reference_read name

-- the type reference that a value of the code is a level of
abbrev pub reference_of : MetaTypeName → Reference
reference_of name = whole_reference (type_name_of name)

-- ---- sub-types

-- A value of the second type may stand where the first is asked for. Of two non-null types the insides are compared, and
-- of two lists; of a name and a non-null type what the name reads as and the inside; two names are to be equal.
abbrev pub is_subtype : Reference → Reference → Bool
is_subtype (reference.non_null a) (reference.non_null b) = is_subtype a b
is_subtype (reference.named a) (reference.non_null b) = is_subtype (reference_read a) b
is_subtype (reference.named a) (reference.named b) = bytes_eq a b
is_subtype (reference.list_of a) (reference.list_of b) = is_subtype a b
is_subtype _ _ = false

-- whether a list is within all marks of non-null; a name is told by its last byte
abbrev pub is_list : Reference → Bool
is_list (reference.non_null inner) = is_list inner
is_list (reference.list_of inner) = true
is_list (reference.named text) = last_is close_bracket text

-- ---- printed type references

-- `N`, `T!` and `[T]`
abbrev pub reference_text : Reference → Text
reference_text (reference.named text) = text
reference_text (reference.non_null inner) = reference_text inner ++ codes "!"
reference_text (reference.list_of inner) = codes "[" ++ (reference_text inner ++ codes "]")

-- the outer level, with the text of what is inside
abbrev pub outer_of : Reference → TypeName
outer_of (reference.named text) = named text
outer_of (reference.non_null inner) = non_null (reference_text inner)
outer_of (reference.list_of inner) = list_of (reference_text inner)

-- the text of the type reference, which has a name innermost: section 2.1.9
abbrev pub IsPrinted : Text → Reference → Type 0
IsPrinted text ty = IsName (innermost ty) × (text ≡ reference_text ty)
