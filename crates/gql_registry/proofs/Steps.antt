-- Additions, one after another.
use Rattle.std.proofs.Common.{◌≡◌, ℕ, ◌+◌, ◌<◌, ◌≤◌, true, false, List, [], map, take, length, get_or, refl, ap, ◌∙◌, sym, Some, None, is_some, string_bytes}
use Rattle.std.specs.declared.option.Option.{Option}
use Rattle.std.specs.declared.string.String.{String}
use Rattle.std.specs.declared.alloc.Global.{Global}
use Rattle.std.specs.Option.{option_map, option_map_or}
use Rattle.std.specs.Map.{lookup, set_value}
use Rattle.std.specs.Str.{bytes_eq}
use Rattle.std.specs.Ordering.{is_eq}
use Rattle.std.proofs.lemmas.List.Sums.{fold_more}
use Rattle.std.proofs.Math.ListN.{get_or-map}
use Rattle.std.proofs.lemmas.List.{take_all, length-map}
use Rattle.gql_registry_meta.specs.Parts.{Text, at_text, text_cmp, Meta}
use Rattle.gql_registry_meta.specs.Views.{entries_of, meta_of}
use Rattle.gql_registry_meta.specs.declared.meta_type.MetaType.{MetaType}
use Rattle.gql_registry.specs.Registry.{Contents, changed_at}
use Rattle.gql_registry.specs.Additions.{made, all_made}
use Rattle.gql_registry.specs.Tables.{step_of}
use Rattle.gql_registry.specs.declared.additions.Addition.{Addition}
use Rattle.gql_registry_meta.proofs.Entries.{sorted_at_text, found_at, missing_at, written}

-- ---- a type where none stands

module _ {A B : Type 0} (f : A → B) (t : Text) (es : List (String Global × A)) (other : List (Text × B)) where
  kept-by : (o : Option A) → is_some o ≡ true → option_map_or (λ _. entries_of f es) (option_map f o) other ≡ entries_of f es
  kept-by None p = absurd cc
  kept-by (Some x) p = refl

  new-by : (o : Option A) → is_some o ≡ false → option_map_or (λ _. entries_of f es) (option_map f o) other ≡ other
  new-by None p = refl
  new-by (Some x) p = absurd cc

  -- nothing changes where one stands
  pub kept : is_some (lookup (λ k. is_eq (text_cmp t (string_bytes k))) es) ≡ true → option_map_or (λ _. entries_of f es) (at_text t (entries_of f es)) other ≡ entries_of f es
  kept p = ap (λ o. option_map_or (λ _. entries_of f es) o other) (sym (sorted_at_text f t es)) ∙ kept-by (lookup (λ k. is_eq (text_cmp t (string_bytes k))) es) p

  -- and another list takes the place where none does
  pub new : is_some (lookup (λ k. is_eq (text_cmp t (string_bytes k))) es) ≡ false → option_map_or (λ _. entries_of f es) (at_text t (entries_of f es)) other ≡ other
  new p = ap (λ o. option_map_or (λ _. entries_of f es) o other) (sym (sorted_at_text f t es)) ∙ new-by (lookup (λ k. is_eq (text_cmp t (string_bytes k))) es) p

-- ---- a change of one type

module _ {x g : _} (t : Text) (change : Meta → Meta) (es : List (String Global × MetaType x g)) where
  pub changed : (new : List (String Global × MetaType x g)) (v w : MetaType x g) → Some v ≡ lookup (λ k. is_eq (text_cmp t (string_bytes k))) es → new ≡ set_value (λ k. is_eq (text_cmp t (string_bytes k))) es w
      → meta_of w ≡ change (meta_of v) → entries_of meta_of new ≡ changed_at t change (entries_of meta_of es)
  changed new v w found n more =
      written meta_of t es new w n
      ∙ ap (set_value (bytes_eq t) (entries_of meta_of es)) more
      ∙ sym (ap (λ o. option_map_or (λ type. set_value (bytes_eq t) (entries_of meta_of es) (change type)) o (entries_of meta_of es)) (found_at meta_of t es v found))

  pub none_changed : None ≡ lookup (λ k. is_eq (text_cmp t (string_bytes k))) es → changed_at t change (entries_of meta_of es) ≡ entries_of meta_of es
  none_changed e = ap (λ o. option_map_or (λ type. set_value (bytes_eq t) (entries_of meta_of es) (change type)) o (entries_of meta_of es)) (missing_at meta_of t es e)

-- ---- steps

-- no step changes nothing
pub none_made : (before : Contents) → all_made before [] ≡ before
unfolding all_made
none_made before = refl

-- one step more
pub one_more : (before : Contents) (xs : List Addition) (i : ℕ) (d : Addition) → i < length xs
    → all_made before (take (i + 1) (map step_of xs)) ≡ made (all_made before (take i (map step_of xs))) (step_of (get_or xs i d))
unfolding all_made
one_more before xs i d h =
    fold_more made before (map step_of xs) i (step_of d) (rw length-map h)
    ∙ ap (made (all_made before (take i (map step_of xs)))) (get_or-map step_of xs i d)

-- all of the steps
pub all_steps : (before : Contents) (xs : List Addition) (i : ℕ) → length xs ≤ i → all_made before (take i (map step_of xs)) ≡ all_made before (map step_of xs)
all_steps before xs i h = ap (all_made before) (take_all i (map step_of xs) (rw length-map h))
