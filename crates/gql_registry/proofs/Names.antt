-- A name that is put among others stands there once.
use Rattle.std.proofs.Common.{◌≡◌, Bool, true, false, ◌||◌, List, [], ◌∷◌, ◌++◌, map, refl, ap, ◌∙◌, if◌then◌else◌}
use Rattle.std.specs.declared.string.String.{String}
use Rattle.std.specs.declared.alloc.Global.{Global}
use Rattle.std.specs.List.{list_any, IsDistinct}
use Rattle.std.specs.Str.{bytes_eq}
use Rattle.std.specs.String.{string_eq}
use Rattle.std.proofs.lemmas.Slice.Eq.{bytes_eq-Decides}
use Rattle.indexmap.specs.IndexSet.{insert_key}
use Rattle.gql_registry_meta.specs.Parts.{Text}
use Rattle.gql_registry_meta.specs.Views.{text_of}
use Rattle.gql_registry_meta.proofs.Names.{names_with, names_distinct}
use Rattle.gql_registry.specs.Registry.{HasOnce}

or_true : (b : Bool) → b || true ≡ true
or_true true = refl
or_true false = refl

has_last : (names : List Text) (name : Text) → list_any (bytes_eq name) (names ++ name ∷ []) ≡ true
has_last [] name = ap (λ b. b || false) ((bytes_eq-Decides name name).1 refl)
has_last (x ∷ names) name = ap (λ b. bytes_eq name x || b) (has_last names name) ∙ or_true (bytes_eq name x)

has_by : (names : List Text) (name : Text) (b : Bool) → list_any (bytes_eq name) names ≡ b → list_any (bytes_eq name) (if b then names else names ++ name ∷ []) ≡ true
has_by names name true e = e
has_by names name false e = has_last names name

-- a name that was added is among the names
has_added : (names : List Text) (name : Text) → list_any (bytes_eq name) (insert_key bytes_eq names name) ≡ true
has_added names name = has_by names name (list_any (bytes_eq name) names) refl

-- and once, where the names are those of a set
pub added_once : (ks new : List (String Global)) (k : String Global) → new ≡ insert_key string_eq ks k → IsDistinct string_eq new → HasOnce (map text_of new) (text_of k)
added_once ks new k e distinct = (
  names_distinct new distinct,
  ap (λ names. list_any (bytes_eq (text_of k)) names) (ap (map text_of) e ∙ names_with ks k) ∙ has_added (map text_of ks) (text_of k),
)
