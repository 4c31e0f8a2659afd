-- Entries with distinct keys, joined with others.
use Rattle.std.proofs.Common.{◌≡◌, Bool, true, false, cond, not, ◌||◌, List, [], ◌∷◌, ◌++◌, map, Some, None, refl, ap, ap₂, sym, ◌∙◌, string_eq}
use Rattle.std.specs.Option.{unwrap_or}
use Rattle.std.specs.List.{filter, AllByRecursion, IsDistinct}
use Rattle.std.specs.Map.{keys_of}
use Rattle.std.specs.Str.{bytes_eq}
use Rattle.std.specs.declared.string.String.{String}
use Rattle.std.specs.declared.alloc.Global.{Global}
use Rattle.std.proofs.lemmas.Map.Made.{IsDistinct-keys_filter}
use Rattle.std.proofs.lemmas.Slice.Eq.{bytes_eq-Decides}
use Rattle.std.specs.Cmp.Lexicographic.{nat_list_eq_equiv}
use Rattle.indexmap.specs.IndexMap.{insert_entry, insert_all}
use Rattle.gql_registry_meta.specs.Parts.{Text, at_text, is_among}
use Rattle.gql_registry_meta.specs.Views.{entries_of}
use Rattle.gql_registry_meta.proofs.Entries.{entries_with_insertion}
use Rattle.gql_registry_meta.proofs.Distinct.{inserted_anew, distinct_texts}
use Rattle.gql_merged.specs.Merged.{joined}

module _ {X : Type 0} where
  abbrev value_from : List (Text × X) → Text × X → Text × X
  value_from others entry = (entry.0, unwrap_or (at_text entry.0 others) entry.1)

  abbrev is_new : List (Text × X) → Text × X → Bool
  is_new entries other = not (is_among other.0 (keys_of entries))

  -- those that do not have this name
  abbrev apart_from : Text → Text × X → Bool
  apart_from name other = not (bytes_eq other.0 name)

  -- nothing stands under a name that no key is equal to
  nothing_under : (name key : Text) (others : List (Text × X)) → bytes_eq name key ≡ true → AllByRecursion (λ k. bytes_eq key k ≡ false) (keys_of others) → at_text name others ≡ None
  nothing_under name key [] same h = refl
  nothing_under name key (other ∷ others) same h =
      ap (λ b. cond b (Some other.1) (at_text name others)) (ap (λ t. bytes_eq t other.0) ((bytes_eq-Decides name key).0 same) ∙ h.0)
      ∙ nothing_under name key others same h.1

  -- the first entry has the value of its name, and the others go to those that follow it
  first_of : (entry : Text × X) (entries others : List (Text × X)) → IsDistinct bytes_eq (keys_of others)
      → insert_all bytes_eq (entry ∷ entries) others ≡ value_from others entry ∷ insert_all bytes_eq entries (filter (apart_from entry.0) others)
  unfolding IsDistinct
  first_of entry entries [] h = refl
  first_of entry entries (other ∷ others) h = by (bytes_eq other.0 entry.0) refl h.0 (λ entry entries. first_of entry entries others h.1)
    where
      by : (b : Bool) → bytes_eq other.0 entry.0 ≡ b → AllByRecursion (λ k. bytes_eq other.0 k ≡ false) (keys_of others)
          → ((first : Text × X) (rest : List (Text × X)) → insert_all bytes_eq (first ∷ rest) others ≡ value_from others first ∷ insert_all bytes_eq rest (filter (apart_from first.0) others))
          → insert_all bytes_eq (cond b ((entry.0, other.1) ∷ entries) (entry ∷ insert_entry bytes_eq entries other.0 other.1)) others
          ≡ value_from (other ∷ others) entry ∷ insert_all bytes_eq entries (cond (not b) (other ∷ filter (apart_from entry.0) others) (filter (apart_from entry.0) others))
      by true p none rest =
          let turned : bytes_eq entry.0 other.0 ≡ true = nat_list_eq_equiv.symm entry.0 other.0 ∙ p in
          rest (entry.0, other.1) entries
          ∙ ap (λ o. (entry.0, unwrap_or o other.1) ∷ insert_all bytes_eq entries (filter (apart_from entry.0) others)) (nothing_under entry.0 other.0 others turned none)
          ∙ ap (λ b. (entry.0, unwrap_or (cond b (Some other.1) (at_text entry.0 others)) entry.1) ∷ insert_all bytes_eq entries (filter (apart_from entry.0) others)) (sym turned)
      by false p none rest =
          let turned : bytes_eq entry.0 other.0 ≡ false = nat_list_eq_equiv.symm entry.0 other.0 ∙ p in
          rest entry (insert_entry bytes_eq entries other.0 other.1)
          ∙ ap (λ b. (entry.0, unwrap_or (cond b (Some other.1) (at_text entry.0 others)) entry.1) ∷ insert_all bytes_eq (insert_entry bytes_eq entries other.0 other.1) (filter (apart_from entry.0) others)) (sym turned)

  -- what stands under another name
  at_apart : (name key : Text) (others : List (Text × X)) → bytes_eq key name ≡ false → at_text key (filter (apart_from name) others) ≡ at_text key others
  at_apart name key [] apart = refl
  at_apart name key (other ∷ others) apart = by (bytes_eq other.0 name) refl (at_apart name key others apart)
    where
      by : (b : Bool) → bytes_eq other.0 name ≡ b → at_text key (filter (apart_from name) others) ≡ at_text key others
          → at_text key (cond (not b) (other ∷ filter (apart_from name) others) (filter (apart_from name) others)) ≡ cond (bytes_eq key other.0) (Some other.1) (at_text key others)
      by true p rest =
          let no : bytes_eq key other.0 ≡ false = ap (bytes_eq key) ((bytes_eq-Decides other.0 name).0 p) ∙ apart in
          rest ∙ ap (λ b. cond b (Some other.1) (at_text key others)) (sym no)
      by false p rest = ap (cond (bytes_eq key other.0) (Some other.1)) rest

  -- the values of entries whose names are others
  values_apart : (name : Text) (entries others : List (Text × X)) → AllByRecursion (λ k. bytes_eq name k ≡ false) (keys_of entries)
      → map (value_from (filter (apart_from name) others)) entries ≡ map (value_from others) entries
  values_apart name [] others h = refl
  values_apart name (entry ∷ entries) others h =
      ap₂ (λ o l. (entry.0, unwrap_or o entry.1) ∷ l)
      (at_apart name entry.0 others (nat_list_eq_equiv.symm entry.0 name ∙ h.0))
      (values_apart name entries others h.1)

  -- new among all is apart from the first and new among the rest
  new_apart : (entry : Text × X) (entries others : List (Text × X)) → filter (is_new entries) (filter (apart_from entry.0) others) ≡ filter (is_new (entry ∷ entries)) others
  new_apart entry entries [] = refl
  new_apart entry entries (other ∷ others) = by (bytes_eq other.0 entry.0) (new_apart entry entries others)
    where
      by : (b : Bool) → filter (is_new entries) (filter (apart_from entry.0) others) ≡ filter (is_new (entry ∷ entries)) others
          → filter (is_new entries) (cond (not b) (other ∷ filter (apart_from entry.0) others) (filter (apart_from entry.0) others))
          ≡ cond (not (b || is_among other.0 (keys_of entries))) (other ∷ filter (is_new (entry ∷ entries)) others) (filter (is_new (entry ∷ entries)) others)
      by true rest = rest
      by false rest = ap (λ l. cond (is_new entries other) (other ∷ l) l) rest

  all_new : (others : List (Text × X)) → filter (is_new []) others ≡ others
  all_new [] = refl
  all_new (other ∷ others) = ap (λ l. other ∷ l) (all_new others)

  -- the others, each put in turn
  pub all_joined : (entries others : List (Text × X)) → IsDistinct bytes_eq (keys_of entries) → IsDistinct bytes_eq (keys_of others) → insert_all bytes_eq entries others ≡ joined entries others
  unfolding IsDistinct
  all_joined [] others h distinct = inserted_anew others distinct ∙ sym (all_new others)
  all_joined (entry ∷ entries) others h distinct =
      first_of entry entries others distinct
      ∙ ap (λ l. value_from others entry ∷ l)
      (all_joined entries (filter (apart_from entry.0) others) h.1 (IsDistinct-keys_filter bytes_eq (apart_from entry.0) others distinct)
      ∙ ap₂ (λ values new. values ++ new) (values_apart entry.0 entries others h.0) (new_apart entry entries others))

-- entries after others, over what they stand for
entries_with_all : {A B : Type 0} (f : A → B) (es xs : List (String Global × A)) → entries_of f (insert_all string_eq es xs) ≡ insert_all bytes_eq (entries_of f es) (entries_of f xs)
entries_with_all f es [] = refl
entries_with_all f es (x ∷ xs) =
    entries_with_all f (insert_entry string_eq es x.0 x.1) xs
    ∙ ap (λ l. insert_all bytes_eq l (entries_of f xs)) (entries_with_insertion f es x.0 x.1)

-- the entries of one map after those of another
pub entries_joined : {A B : Type 0} (f : A → B) (es xs new : List (String Global × A)) → new ≡ insert_all string_eq es xs → IsDistinct string_eq (keys_of es) → IsDistinct string_eq (keys_of xs)
    → entries_of f new ≡ joined (entries_of f es) (entries_of f xs)
entries_joined f es xs new e distinct others =
    ap (entries_of f) e ∙ entries_with_all f es xs ∙ all_joined (entries_of f es) (entries_of f xs) (distinct_texts f es distinct) (distinct_texts f xs others)
