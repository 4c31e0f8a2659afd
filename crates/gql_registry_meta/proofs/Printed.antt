-- Printed type references are read again, level by level.
use Rattle.std.proofs.Common.{arith, ◌≡◌, ℕ, ◌-◌, Bool, true, false, ◌&&◌, if◌then◌else◌, nat_eq, nat_lt, nat_le, length, slice_index, List, [], ◌∷◌, ◌++◌, codes, refl, ap, sym, subst, ◌∙◌}
use Rattle.std.proofs.lemmas.Grind.{common_steps}
use Rattle.gql_text_lexer.specs.Bytes.{begins_name, goes_on_name, all_of}
use Rattle.gql_text_lexer.specs.Forms.{IsName}
use Rattle.gql_text_values.specs.TypeRefs as reference
use Rattle.gql_text_values.specs.TypeRefs.{Reference, innermost, type_text, type_text_step, reference_step}
use Rattle.gql_text_values.specs.declared.type_ref.TypeRef.{TypeRef, roll-TypeRef}
use Rattle.gql_text_values.specs.declared.type_ref.TypeRef.TheFolds.{fold-roll-TypeRef, ind-TypeRef, map-TypeRef}
use Rattle.gql_text_values.specs.declared.type_ref.TypeRef.TheOpen.{TypeRef-F}
use Rattle.gql_registry_meta.specs.Parts.{Text}
use Rattle.gql_registry_meta.specs.TypeNames.{named, non_null, list_of, outer, first_is, last_is, is_bracketed, exclamation_mark, open_bracket, close_bracket, reference_read, whole_reference, reference_text, outer_of, IsPrinted}
use Rattle.gql_registry_meta.proofs.Levels.{read_by_level}

-- ---- one level

outer-mark : (text : Text) → outer (text ++ codes "!") ≡ non_null text
outer-mark text = grind (arith, common_steps)

outer-brackets : (text : Text) → outer (codes "[" ++ (text ++ codes "]")) ≡ list_of text
outer-brackets text = grind (arith, common_steps)

goes-on : (b : ℕ) → begins_name b ≡ true → goes_on_name b ≡ true
goes-on b h = grind arith

-- the last byte of a name is one of its bytes
last-goes-on : (b : ℕ) (bs : Text) → goes_on_name b ≡ true → all_of goes_on_name bs ≡ true → goes_on_name (slice_index (b ∷ bs) (length bs)) ≡ true
last-goes-on b [] h k = h
last-goes-on b (c ∷ cs) h k = let p : goes_on_name c ≡ true = grind arith in let q : all_of goes_on_name cs ≡ true = grind arith in last-goes-on c cs p q

no-mark : (b : ℕ) → goes_on_name b ≡ true → nat_eq b exclamation_mark ≡ false
no-mark b h = grind arith

no-bracket : (b : ℕ) → begins_name b ≡ true → nat_eq b open_bracket ≡ false
no-bracket b h = grind arith

second-off : (p q : Bool) → q ≡ false → (p && q) ≡ false
second-off true q h = h
second-off false q h = refl

middle-off : (p q r : Bool) → q ≡ false → (p && q && r) ≡ false
middle-off p q r h = grind arith

neither : {A : Type 0} (p q : Bool) (x y z : A) → p ≡ false → q ≡ false → (if p then x else if q then y else z) ≡ z
neither p q x y z h k = rw h (rw k refl)

outer-name : (text : Text) → IsName text → outer text ≡ named text
outer-name [] h = absurd h
outer-name (b ∷ bs) h =
    let text : Text = b ∷ bs in
    let end : length text - 1 ≡ length bs = omega arith in
    let last : nat_eq (slice_index text (length text - 1)) exclamation_mark ≡ false =
    no-mark _ (ap (λ i. goes_on_name (slice_index text i)) end ∙ last-goes-on b bs (goes-on b h.0) h.1) in
    neither (last_is exclamation_mark text) (is_bracketed text) _ _ _
    (second-off (nat_lt 0 (length text)) _ last)
    (middle-off (nat_le 2 (length text)) (first_is open_bracket text) (last_is close_bracket text) (no-bracket b h.0))

-- the level that is read off a printed type reference is its outer one
pub outer_printed : (text : Text) (ty : Reference) → IsPrinted text ty → outer text ≡ outer_of ty
outer_printed text (reference.named name) h = ap outer h.1 ∙ outer-name name h.0
outer_printed text (reference.non_null inner) h = ap outer h.1 ∙ outer-mark (reference_text inner)
outer_printed text (reference.list_of inner) h = ap outer h.1 ∙ outer-brackets (reference_text inner)

-- ---- all levels

-- what is read off a printed type reference is the type reference
pub read_printed : (text : Text) (ty : Reference) → IsPrinted text ty → reference_read text ≡ ty
read_printed text (reference.named name) h = read_by_level text ∙ ap whole_reference (outer_printed text (reference.named name) h)
read_printed text (reference.non_null inner) h =
    read_by_level text ∙ ap whole_reference (outer_printed text (reference.non_null inner) h)
    ∙ ap reference.non_null (read_printed (reference_text inner) inner (h.0, refl))
read_printed text (reference.list_of inner) h =
    read_by_level text ∙ ap whole_reference (outer_printed text (reference.list_of inner) h)
    ∙ ap reference.list_of (read_printed (reference_text inner) inner (h.0, refl))

-- ---- what is printed

abbrev PrintsPlainly : TypeRef → Type 0
PrintsPlainly t = type_text t ≡ reference_text (reference.reference t)

layer : (y : TypeRef-F ((t : TypeRef) × PrintsPlainly t)) → PrintsPlainly (roll-TypeRef (map-TypeRef ((t : TypeRef) × PrintsPlainly t) TypeRef (λ e. e.0) y))
layer (TypeRef-F.Named name) =
    fold-roll-TypeRef (List ℕ) type_text_step (TypeRef-F.Named name)
    ∙ sym (ap reference_text (fold-roll-TypeRef Reference reference_step (TypeRef-F.Named name)))
layer (TypeRef-F.NonNull e) =
    fold-roll-TypeRef (List ℕ) type_text_step (TypeRef-F.NonNull e.0)
    ∙ ap (λ (text : Text). text ++ codes "!") e.1
    ∙ sym (ap reference_text (fold-roll-TypeRef Reference reference_step (TypeRef-F.NonNull e.0)))
layer (TypeRef-F.List e) =
    fold-roll-TypeRef (List ℕ) type_text_step (TypeRef-F.List e.0)
    ∙ ap (λ (text : Text). codes "[" ++ (text ++ codes "]")) e.1
    ∙ sym (ap reference_text (fold-roll-TypeRef Reference reference_step (TypeRef-F.List e.0)))

-- a type reference is printed level by level
pub prints_plainly : (t : TypeRef) → type_text t ≡ reference_text (reference.reference t)
prints_plainly = ind-TypeRef PrintsPlainly (λ x y is. subst (λ z. PrintsPlainly (roll-TypeRef z)) is (layer y))
