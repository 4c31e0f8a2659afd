-- Levels of a type reference that are read off a text.
use Rattle.std.proofs.Common.{arith, ◌≡◌, ℕ, zero, suc, ◌≤◌, ◌<◌, ◌+◌, length, [], ◌∷◌, ◌++◌, codes, refl, ap, sym, ◌∙◌, length-append}
use Rattle.std.proofs.lemmas.Grind.{common_steps}
use Rattle.gql_text_values.specs.TypeRefs as reference
use Rattle.gql_text_values.specs.TypeRefs.{Reference}
use Rattle.gql_registry_meta.specs.Parts.{Text}
use Rattle.gql_registry_meta.specs.TypeNames.{TypeName, named, non_null, list_of, type_name_text, outer, inner_read, levels_read, reference_read, whole_reference}

-- a level has the text that it was read off
pub outer_text : (text : Text) → type_name_text (outer text) ≡ text
outer_text text = grind (arith, common_steps)

-- a level that is not a name has a text that is longer than the one inside
non_null-longer : (text inner : Text) → outer text ≡ non_null inner → length inner + 1 ≡ length text
non_null-longer text inner e = sym (length-append inner (codes "!")) ∙ ap length (ap type_name_text (sym e) ∙ outer_text text)

list-longer : (text inner : Text) → outer text ≡ list_of inner → length inner + 2 ≡ length text
list-longer text inner e =
    let n : length (inner ++ codes "]") ≡ length inner + 1 = length-append inner (codes "]") in
    let m : suc (length (inner ++ codes "]")) ≡ length text = ap length (ap type_name_text (sym e) ∙ outer_text text) in
    omega arith

-- two readings agree on a level where they agree on each shorter text
alike-inner : (f g : Text → Reference) (text : Text) → ((inner : Text) → length inner < length text → f inner ≡ g inner) → (name : TypeName) → outer text ≡ name →
    inner_read f name ≡ inner_read g name
alike-inner f g text h (named inner) e = refl
alike-inner f g text h (non_null inner) e =
    let l = non_null-longer text inner e in
    ap reference.non_null (h inner (omega arith))
alike-inner f g text h (list_of inner) e =
    let l = list-longer text inner e in
    ap reference.list_of (h inner (omega arith))

-- more levels than there are read the same
enough : (n m : ℕ) (text : Text) → length text ≤ n → length text ≤ m → levels_read n text ≡ levels_read m text
enough zero zero text p q = refl
enough zero (suc m) [] p q = refl
enough zero (suc m) (b ∷ bs) p q = absurd (omega arith)
enough (suc n) zero [] p q = refl
enough (suc n) zero (b ∷ bs) p q = absurd (omega arith)
enough (suc n) (suc m) text p q =
    alike-inner (levels_read n) (levels_read m) text (λ inner l. enough n m inner (omega arith) (omega arith)) (outer text) refl

-- to read a text is to read its level, and then what is within
pub read_by_level : (text : Text) → reference_read text ≡ whole_reference (outer text)
unfolding reference_read
read_by_level [] = refl
read_by_level (b ∷ bs) =
    alike-inner (levels_read (length bs)) reference_read (b ∷ bs) (λ inner l. enough (length bs) (length inner) inner (omega arith) (omega arith)) (outer (b ∷ bs)) refl
