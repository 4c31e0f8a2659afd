-- Lists of names, over the texts that they stand for.
use Rattle.std.proofs.Common.{◌≡◌, Bool, true, false, ◌||◌, List, [], ◌∷◌, ◌++◌, map, refl, ap, ap₂, ◌∙◌, if◌then◌else◌, string_bytes}
use Rattle.std.specs.declared.string.String.{String}
use Rattle.std.specs.declared.alloc.Global.{Global}
use Rattle.std.specs.List.{list_any, AllByRecursion, IsDistinct}
use Rattle.std.specs.Ordering.{is_eq}
use Rattle.std.specs.Str.{bytes_eq}
use Rattle.std.specs.String.{string_eq}
use Rattle.std.proofs.lemmas.Map.Text.{is_eq-slice_cmp}
use Rattle.indexmap.specs.IndexSet.{insert_key}
use Rattle.gql_registry_meta.specs.Parts.{Text, is_among, text_cmp}
use Rattle.gql_registry_meta.specs.Views.{text_of}

-- whether a text is among the names
pub names_have_text : (t : Text) (ks : List (String Global)) → list_any (λ k. bytes_eq t (string_bytes k)) ks ≡ is_among t (map text_of ks)
names_have_text t [] = refl
names_have_text t (k ∷ ks) = ap (λ b. bytes_eq t (text_of k) || b) (names_have_text t ks)

-- the same, where names are compared by their order
pub names_compared : (t : Text) (ks : List (String Global)) → list_any (λ k. is_eq (text_cmp t (string_bytes k))) ks ≡ is_among t (map text_of ks)
names_compared t [] = refl
names_compared t (k ∷ ks) = ap₂ (λ a b. a || b) (is_eq-slice_cmp t (text_of k)) (names_compared t ks)

map_last : (ks : List (String Global)) (k : String Global) → map text_of (ks ++ k ∷ []) ≡ map text_of ks ++ text_of k ∷ []
map_last [] k = refl
map_last (x ∷ ks) k = ap (λ l. text_of x ∷ l) (map_last ks k)

map-if : (b : Bool) (ks : List (String Global)) (k : String Global) → map text_of (if b then ks else ks ++ k ∷ []) ≡ (if b then map text_of ks else map text_of ks ++ text_of k ∷ [])
map-if true ks k = refl
map-if false ks k = map_last ks k

-- a name more
pub names_with : (ks : List (String Global)) (k : String Global) → map text_of (insert_key string_eq ks k) ≡ insert_key bytes_eq (map text_of ks) (text_of k)
names_with ks k = map-if (list_any (string_eq k) ks) ks k
    ∙ ap (λ b. if b then map text_of ks else map text_of ks ++ text_of k ∷ []) (names_have_text (text_of k) ks)

-- a new name goes last
pub names_with-new : (ks : List (String Global)) (k : String Global) → is_among (text_of k) (map text_of ks) ≡ false → map text_of (insert_key string_eq ks k) ≡ map text_of ks ++ text_of k ∷ []
names_with-new ks k new = names_with ks k ∙ ap (λ b. if b then map text_of ks else map text_of ks ++ text_of k ∷ []) new

texts_apart : (k : String Global) (ks : List (String Global)) → AllByRecursion (λ y. string_eq k y ≡ false) ks → AllByRecursion (λ y. bytes_eq (text_of k) y ≡ false) (map text_of ks)
texts_apart k [] h = tt
texts_apart k (x ∷ ks) h = (h.0, texts_apart k ks h.1)

-- distinct names are distinct texts
pub names_distinct : (ks : List (String Global)) → IsDistinct string_eq ks → IsDistinct bytes_eq (map text_of ks)
unfolding IsDistinct
names_distinct [] h = tt
names_distinct (k ∷ ks) h = (texts_apart k ks h.0, names_distinct ks h.1)
