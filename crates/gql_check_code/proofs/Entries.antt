-- Look-ups by name and by place, over entries and over what they stand for.
use Rattle.std.proofs.Common.{◌≡◌, ℕ, zero, suc, ◌+◌, Bool, true, false, not, cond, List, [], ◌∷◌, map, length, get_or, position, Option, Some, None, option_and_then, refl, sym, ap, ◌∙◌, string_bytes}
use Rattle.std.specs.Prelude.{slice_get}
use Rattle.std.specs.Option.{option_map}
use Rattle.std.specs.List.{position_or_len, AllByRecursion, IsDistinct}
use Rattle.std.specs.Map.{lookup, keys_of}
use Rattle.std.specs.Str.{bytes_eq}
use Rattle.std.specs.declared.string.String.{String}
use Rattle.std.specs.declared.alloc.Global.{Global}
use Rattle.gql_text_values.specs.TypeRefs.{reference}
use Rattle.gql_registry_meta.specs.Parts.{Text, at_text}
use Rattle.gql_registry_meta.specs.Views.{entries_of}
use Rattle.gql_registry_meta.proofs.Entries as meta
use Rattle.gql_parts.specs.declared.input_value.InputValue.{InputValue}
use Rattle.gql_check_cycles.specs.Graph.{fields_of}
use Rattle.gql_check_rules.specs.Schema.{Input, Definition, Schema}
use Rattle.gql_check_rules.specs.Order.{HasDistinctNames}
use Rattle.gql_check_rules.specs.InputCycles.{input_fields_of, needed_by}
use Rattle.gql_check_code.specs.Definitions.{each_of}
use Rattle.gql_check_code.specs.CheckedViews.{checked_inputs}
use Rattle.gql_check_code.specs.Cycles.{names, number, row, numbered, definition_at}

-- what stands under a name, by two views in turn
pub entries_at_text : {A B C : Type 0} (g : B → C) (f : A → B) (t : Text) (es : List (String Global × A)) → option_map (λ a. g (f a)) (lookup (λ k. bytes_eq t (string_bytes k)) es) ≡ at_text t (each_of g (entries_of f es))
entries_at_text g f t es = meta.entries_at_text (λ a. g (f a)) t es ∙ ap (at_text t) (sym (meta.entries_of-then g f es))

-- ---- by place

-- where a name stands
first_place : {A B C : Type 0} (g : B → C) (f : A → B) (t : Text) (es : List (String Global × A)) → position_or_len (λ k. bytes_eq t (string_bytes k)) (keys_of es) ≡ position_or_len (bytes_eq t) (map (λ e. e.0) (each_of g (entries_of f es)))
first_place g f t [] = refl
first_place g f t (e ∷ es) = ap (λ n. cond (not (bytes_eq t (string_bytes e.0))) (1 + n) 0) (first_place g f t es)

same_length : {A B C : Type 0} (g : B → C) (f : A → B) (es : List (String Global × A)) → length (keys_of es) ≡ length (map (λ e. e.0) (each_of g (entries_of f es)))
same_length g f [] = refl
same_length g f (e ∷ es) = ap suc (same_length g f es)

pub place_by_text : {A B C : Type 0} (g : B → C) (f : A → B) (t : Text) (es : List (String Global × A)) → position (λ k. bytes_eq t (string_bytes k)) (keys_of es) ≡ position (bytes_eq t) (map (λ e. e.0) (each_of g (entries_of f es)))
place_by_text g f t es = cc (first_place g f t es, same_length g f es)

-- what stands at a place
pub entry_at : {A B C : Type 0} (g : B → C) (f : A → B) (es : List (String Global × A)) (i : ℕ) → option_map (λ e. g (f e.1)) (slice_get es i) ≡ option_map (λ t. t.1) (slice_get (each_of g (entries_of f es)) i)
entry_at g f [] i = refl
entry_at g f (e ∷ es) zero = refl
entry_at g f (e ∷ es) (suc i) = entry_at g f es i

-- the name of a place
pub name_there : {A B C : Type 0} (g : B → C) (f : A → B) (es : List (String Global × A)) (i : ℕ) (key : String Global) (x : A) → Some (key, x) ≡ slice_get es i → string_bytes key ≡ get_or (map (λ e. e.0) (each_of g (entries_of f es))) i []
name_there g f [] i key x e = cc e
name_there g f (y ∷ es) zero key x e = cc e
name_there g f (y ∷ es) (suc i) key x e = name_there g f es i key x e

-- a name that is not among the keys stands for nothing
not_there : {A B C : Type 0} (g : B → C) (f : A → B) (t : Text) (es : List (String Global × A)) → AllByRecursion (λ k. bytes_eq t (string_bytes k) ≡ false) (keys_of es) → at_text t (each_of g (entries_of f es)) ≡ None
not_there g f t [] h = refl
not_there g f t (e ∷ es) h = ap (λ b. cond b (Some (g (f e.1))) (at_text t (each_of g (entries_of f es)))) h.0 ∙ not_there g f t es h.1

pub distinct : {A B C : Type 0} (g : B → C) (f : A → B) (es : List (String Global × A)) → IsDistinct (λ a b. bytes_eq (string_bytes a) (string_bytes b)) (keys_of es) → HasDistinctNames (each_of g (entries_of f es))
unfolding IsDistinct
distinct g f [] h = tt
distinct g f (e ∷ es) h = (not_there g f (string_bytes e.0) es h.0, distinct g f es h.1)

-- ---- the rows of types and fields

rows_of : (s : Schema) (ts : List (Text × Definition)) (i : ℕ) → get_or (map (λ t. row s (input_fields_of (Some t.1))) ts) i [] ≡ row s (input_fields_of (option_map (λ t. t.1) (slice_get ts i)))
rows_of s [] i = refl
rows_of s (t ∷ ts) zero = refl
rows_of s (t ∷ ts) (suc i) = rows_of s ts i

-- a type's row
pub row_of : (s : Schema) (i : ℕ) → fields_of (numbered s) i ≡ row s (input_fields_of (definition_at s i))
row_of s i = rows_of s s.types i

-- a field's number
number_at : (s : Schema) (fields : List (Text × Input)) (k : ℕ) → get_or (row s fields) k None ≡ option_and_then (λ ty. number (names s) (needed_by s ty)) (option_map (λ f. f.1.ty) (slice_get fields k))
number_at s [] k = refl
number_at s (f ∷ fields) zero = refl
number_at s (f ∷ fields) (suc k) = number_at s fields k

ty_at : (es : List (String Global × InputValue)) (k : ℕ) → option_map (λ e. reference e.1.ty) (slice_get es k) ≡ option_map (λ f. f.1.ty) (slice_get (checked_inputs es) k)
ty_at [] k = refl
ty_at (e ∷ es) zero = refl
ty_at (e ∷ es) (suc k) = ty_at es k

-- what a look at a field finds
pub look_at : (s : Schema) (node k : ℕ) (es : List (String Global × InputValue)) (key : String Global) (input : InputValue) → checked_inputs es ≡ input_fields_of (definition_at s node) → Some (key, input) ≡ slice_get es k
    → number (names s) (needed_by s (reference input.ty)) ≡ get_or (fields_of (numbered s) node) k None
look_at s node k es key input e p = sym (ap (λ fields. get_or fields k None) (row_of s node ∙ ap (row s) (sym e))
    ∙ (number_at s (checked_inputs es) k ∙ ap (option_and_then (λ r. number (names s) (needed_by s r))) (sym (ty_at es k) ∙ ap (option_map (λ q. reference q.1.ty)) (sym p))))
