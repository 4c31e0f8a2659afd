-- A name other than `true`, `false` and `null` is that of an enum value.
use Rattle.std.proofs.Common.{◌≡◌, ◌≢◌, ℕ, Bool, true, false, List, [], ◌∷◌, codes, refl, inl, inr}
use Rattle.std.specs.Prelude.{◌==◌, ◌⊎◌, if◌then◌else◌}
use Rattle.std.specs.Cmp.Lexicographic.{bytes_decides}
use Rattle.std.specs.List.{AllByRecursion}
use Rattle.std.specs.Str.{bytes_eq}
use Rattle.gql_grammar.specs.Form.{among}
use Rattle.gql_text_lexer.specs.Forms.{IsName}
use Rattle.gql_text_syntax.specs.Sorts.{code, enum_names, sort_in, or_else, definition_words, other_words, locations}
use Rattle.gql_text_syntax.specs.declared.sort.Sort.TheVariants.{OtherName}
use Rattle.gql_sdl_readback.proofs.Sound.{IsEnumName}

-- the row has the sort of an enum value, or another text
abbrev Passes : List ℕ → List ℕ × ℕ → Type 0
Passes text row = (among row.1 enum_names ≡ true) ⊎ (bytes_eq text row.0 ≡ false)

all_pass : (rows : List (List ℕ × ℕ)) (text : List ℕ) (other : ℕ) → AllByRecursion (Passes text) rows → among other enum_names ≡ true → among (sort_in rows text other) enum_names ≡ true
all_pass [] text other a o = o
all_pass (row ∷ rows) text other a o = by_row (bytes_eq text row.0) refl a.0 (all_pass rows text other a.1 o)
  where
    by_row : (t : Bool) → bytes_eq text row.0 ≡ t → Passes text row → among (sort_in rows text other) enum_names ≡ true → among (if t then row.1 else sort_in rows text other) enum_names ≡ true
    by_row true e (inl h) k = h
    by_row true e (inr h) k = absurd cc
    by_row false e p k = k

or_passes : (sort other : ℕ) → among sort enum_names ≡ true → among other enum_names ≡ true → among (or_else sort other) enum_names ≡ true
or_passes sort other a b = by_test (sort == code OtherName)
  where
    by_test : (t : Bool) → among (if t then other else sort) enum_names ≡ true
    by_test true = b
    by_test false = a

every_row : (rows : List (List ℕ × ℕ)) (text : List ℕ) → AllByRecursion (λ row. among row.1 enum_names ≡ true) rows → AllByRecursion (Passes text) rows
every_row [] text a = tt
every_row (row ∷ rows) text a = (inl a.0, every_row rows text a.1)

other_text : (a b : List ℕ) → a ≢ b → bytes_eq a b ≡ false
other_text a b n = by_test (bytes_eq a b) refl
  where
    by_test : (t : Bool) → bytes_eq a b ≡ t → t ≡ false
    by_test true e = absurd (n ((bytes_decides a b).0 e))
    by_test false e = refl

pub enum_name : (name : List ℕ) → IsName name → name ≢ codes "true" → name ≢ codes "false" → name ≢ codes "null" → IsEnumName name
enum_name name i t f n =
    let h : AllByRecursion (Passes name) other_words = (
      inl refl,
      (
        inl refl,
        (
          inl refl,
          (
            inl refl,
            (
              inl refl,
              (
                inl refl,
                (inr (other_text name (codes "true") t), (inr (other_text name (codes "false") f), (inr (other_text name (codes "null") n), tt))),
              ),
            ),
          ),
        ),
      ),
    ) in (
      i,
      or_passes (sort_in definition_words name (code OtherName)) (or_else (sort_in other_words name (code OtherName)) (sort_in locations name (code OtherName))) (all_pass definition_words name (code OtherName) (every_row definition_words name (refl, (refl, (refl, (refl, (refl, (refl, (refl, (refl, (refl, tt)))))))))) refl)
          (or_passes (sort_in other_words name (code OtherName)) (sort_in locations name (code OtherName)) (all_pass other_words name (code OtherName) h refl) (all_pass locations name (code OtherName) (every_row locations name all_locations) refl)),
    )
  where
    all_locations : AllByRecursion (λ row. among row.1 enum_names ≡ true) locations
    all_locations = (refl, (refl, (refl, (refl, (refl, (refl, (refl, (refl, (refl, (refl, (refl, (refl, (refl, (refl, (refl, (refl, (refl, (refl, (refl, tt)))))))))))))))))))
