-- The numbers of a document: section 2.9.1 of the GraphQL specification, October 2021, within 64 bits.
use Rattle.std.specs.Prelude.{ℕ, ℤ, pos, negsuc, ◌≤ℤ◌, List}
use Rattle.std.specs.Str.Parse.{signed_digits_value}

-- from `i64::MIN` to `u64::MAX`
abbrev pub IsWithin : ℤ → Type 0
IsWithin z = (negsuc 9223372036854775807 ≤ℤ z) × (z ≤ℤ pos 18446744073709551615)

-- the number that the text of a whole number writes; `-0` is 0
abbrev pub whole_value : List ℕ → ℤ
whole_value text = signed_digits_value 10 text
