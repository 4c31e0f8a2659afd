-- Entries with distinct keys, each inserted in turn.
use Rattle.std.proofs.Common.{◌≡◌, Bool, true, false, if◌then◌else◌, List, [], ◌∷◌, ◌++◌, refl, ap, sym, ◌∙◌, append_assoc, append-nil, string_bytes, string_eq}
use Rattle.std.specs.List.{AllByRecursion, IsDistinct}
use Rattle.std.specs.Map.{keys_of}
use Rattle.std.specs.Str.{bytes_eq}
use Rattle.std.specs.Cmp.Lexicographic.{nat_list_eq_equiv}
use Rattle.std.specs.declared.string.String.{String}
use Rattle.std.specs.declared.alloc.Global.{Global}
use Rattle.indexmap.specs.IndexMap.{insert_entry, insert_all}
use Rattle.gql_registry_meta.specs.Parts.{Text}
use Rattle.gql_registry_meta.specs.Views.{text_of, entries_of}

-- what holds of all keys holds of one in the middle
at_key : {V : Type 0} (P : Text → Type 0) (es : List (Text × V)) (e : Text × V) (more : List (Text × V)) → AllByRecursion P (keys_of (es ++ e ∷ more)) → P e.0
at_key P [] e more h = h.0
at_key P (d ∷ ds) e more h = at_key P ds e more h.1

put-other : {V : Type 0} (b : Bool) (d : Text × V) (v : V) (ds es fs : List (Text × V)) → b ≡ false → es ≡ fs → (if b then (d.0, v) ∷ ds else d ∷ es) ≡ d ∷ fs
put-other true d v ds es fs h e = absurd cc
put-other false d v ds es fs h e = ap (λ l. d ∷ l) e

-- a key that none before it is equal to goes last
goes_last : {V : Type 0} (es : List (Text × V)) (e : Text × V) (more : List (Text × V)) → IsDistinct bytes_eq (keys_of (es ++ e ∷ more)) → insert_entry bytes_eq es e.0 e.1 ≡ es ++ e ∷ []
unfolding IsDistinct
goes_last [] e more h = refl
goes_last (d ∷ ds) e more h =
    put-other (bytes_eq e.0 d.0) d e.1 ds _ _ (nat_list_eq_equiv.symm e.0 d.0 ∙ at_key (λ k. bytes_eq d.0 k ≡ false) ds e more h.0) (goes_last ds e more h.1)

-- entries with distinct keys stand after others as they are
stand_after : {V : Type 0} (done es : List (Text × V)) → IsDistinct bytes_eq (keys_of (done ++ es)) → insert_all bytes_eq done es ≡ done ++ es
stand_after done [] h = sym (append-nil done)
stand_after done (e ∷ es) h =
    let last = goes_last done e es h in
    let seam : (done ++ e ∷ []) ++ es ≡ done ++ e ∷ es = append_assoc done (e ∷ []) es in
    ap (λ d. insert_all bytes_eq d es) last
    ∙ stand_after (done ++ e ∷ []) es (rw seam h)
    ∙ seam

-- entries with distinct keys, inserted into none
pub inserted_anew : {V : Type 0} (es : List (Text × V)) → IsDistinct bytes_eq (keys_of es) → insert_all bytes_eq [] es ≡ es
inserted_anew es h = stand_after [] es h

all-texts : {V W : Type 0} (f : V → W) (t : Text) (es : List (String Global × V)) → AllByRecursion (λ k. bytes_eq t (string_bytes k) ≡ false) (keys_of es) → AllByRecursion (λ k. bytes_eq t k ≡ false) (keys_of (entries_of f es))
all-texts f t [] h = h
all-texts f t (e ∷ es) h = (h.0, all-texts f t es h.1)

-- distinct keys are distinct texts
pub distinct_texts : {V W : Type 0} (f : V → W) (es : List (String Global × V)) → IsDistinct string_eq (keys_of es) → IsDistinct bytes_eq (keys_of (entries_of f es))
unfolding IsDistinct
distinct_texts f [] h = h
distinct_texts f (e ∷ es) h = (all-texts f (text_of e.0) es h.0, distinct_texts f es h.1)

-- entries with distinct keys, inserted into none, over what they stand for
pub insert_all-distinct : {V W : Type 0} (f : V → W) (es : List (String Global × V)) → IsDistinct string_eq (keys_of es) → insert_all bytes_eq [] (entries_of f es) ≡ entries_of f es
insert_all-distinct f es distinct = inserted_anew (entries_of f es) (distinct_texts f es distinct)
