-- Changes of entries, one after another, and the lists of the names that types implement.
use Rattle.std.proofs.Common.{◌≡◌, Bool, true, false, cond, ◌||◌, List, [], ◌∷◌, map, refl, ap, ◌∙◌, sym, Some, None, string_bytes, fold, length, suc, subst}
use Rattle.std.specs.declared.option.Option.{Option}
use Rattle.std.specs.declared.string.String.{String}
use Rattle.std.specs.declared.alloc.Global.{Global}
use Rattle.std.specs.declared.cmp.Ordering.{Ordering}
use Rattle.std.specs.declared.cmp.Ordering.TheVariants.{Less, Equal, Greater}
use Rattle.std.specs.Option.{option_map_or, unwrap_or}
use Rattle.std.specs.Map.{lookup, set_value, remove_entry, keys_of}
use Rattle.std.specs.Str.{bytes_eq}
use Rattle.std.specs.BTreeMap.{insert_entry}
use Rattle.std.specs.Ordering.{match_ordering, is_eq}
use Rattle.std.proofs.lemmas.Map.Text.{is_eq-slice_cmp}
use Rattle.std.proofs.lemmas.Slice.Eq.{bytes_eq-Decides}
use Rattle.gql_registry_meta.specs.Parts.{Text, at_text, is_among, text_cmp, Meta, name_of}
use Rattle.gql_registry_meta.specs.Views.{text_of, entries_of}
use Rattle.indexmap.specs.IndexSet.{IndexSet}
use Rattle.gql_registry.specs.Registry.{HasOnce, names_of, implements_listed, with_name, with_list, with_implements, with_all_implements, with_type}
use Rattle.gql_registry_meta.proofs.Entries.{found_at, written}

own_text : (t : Text) → bytes_eq t t ≡ true
own_text t = (bytes_eq-Decides t t).1 refl

-- texts that are equal in order are equal
pub same_text : (t u : Text) (o : Ordering) → text_cmp t u ≡ o → bytes_eq t u ≡ is_eq o
same_text t u o p = sym (is_eq-slice_cmp t u) ∙ ap is_eq p

module _ {X : Type 0} (t : Text) where
  -- what was put under a text stands there
  pub at_text-insert : (es : List (Text × X)) (v : X) → at_text t (insert_entry text_cmp es t v) ≡ Some v
  at_text-insert [] v = ap (λ b. cond b (Some v) None) (own_text t)
  at_text-insert (e ∷ es) v = by (text_cmp t e.0) refl (at_text-insert es v)
    where
      by : (o : Ordering) → text_cmp t e.0 ≡ o → at_text t (insert_entry text_cmp es t v) ≡ Some v
          → at_text t (match_ordering o ((t, v) ∷ e ∷ es) ((e.0, v) ∷ es) (e ∷ insert_entry text_cmp es t v)) ≡ Some v
      by Less p rest = ap (λ b. cond b (Some v) (at_text t (e ∷ es))) (own_text t)
      by Equal p rest = ap (λ b. cond b (Some v) (at_text t es)) (same_text t e.0 Equal p)
      by Greater p rest = ap (λ b. cond b (Some e.1) (at_text t (insert_entry text_cmp es t v))) (same_text t e.0 Greater p) ∙ rest

  -- and may be replaced there
  pub set_value-insert : (es : List (Text × X)) (v w : X) → set_value (bytes_eq t) (insert_entry text_cmp es t v) w ≡ insert_entry text_cmp es t w
  set_value-insert [] v w = ap (λ b. cond b ((t, w) ∷ []) ((t, v) ∷ [])) (own_text t)
  set_value-insert (e ∷ es) v w = by (text_cmp t e.0) refl (set_value-insert es v w)
    where
      by : (o : Ordering) → text_cmp t e.0 ≡ o → set_value (bytes_eq t) (insert_entry text_cmp es t v) w ≡ insert_entry text_cmp es t w
          → set_value (bytes_eq t) (match_ordering o ((t, v) ∷ e ∷ es) ((e.0, v) ∷ es) (e ∷ insert_entry text_cmp es t v)) w
          ≡ match_ordering o ((t, w) ∷ e ∷ es) ((e.0, w) ∷ es) (e ∷ insert_entry text_cmp es t w)
      by Less p rest = ap (λ b. cond b ((t, w) ∷ e ∷ es) ((t, v) ∷ set_value (bytes_eq t) (e ∷ es) w)) (own_text t)
      by Equal p rest = ap (λ b. cond b ((e.0, w) ∷ es) ((e.0, v) ∷ set_value (bytes_eq t) es w)) (same_text t e.0 Equal p)
      by Greater p rest = ap (λ b. cond b ((e.0, w) ∷ insert_entry text_cmp es t v) (e ∷ set_value (bytes_eq t) (insert_entry text_cmp es t v) w)) (same_text t e.0 Greater p)
          ∙ ap (λ l. e ∷ l) rest

  -- what was put under a new text is taken out again
  pub remove_entry-insert : (es : List (Text × X)) (v : X) → at_text t es ≡ None → remove_entry (bytes_eq t) (insert_entry text_cmp es t v) ≡ es
  remove_entry-insert [] v none = ap (λ b. cond b [] ((t, v) ∷ [])) (own_text t)
  remove_entry-insert (e ∷ es) v none = by (text_cmp t e.0) refl (remove_entry-insert es v)
    where
      by : (o : Ordering) → text_cmp t e.0 ≡ o → (at_text t es ≡ None → remove_entry (bytes_eq t) (insert_entry text_cmp es t v) ≡ es)
          → remove_entry (bytes_eq t) (match_ordering o ((t, v) ∷ e ∷ es) ((e.0, v) ∷ es) (e ∷ insert_entry text_cmp es t v)) ≡ e ∷ es
      by Less p rest = ap (λ b. cond b (e ∷ es) ((t, v) ∷ remove_entry (bytes_eq t) (e ∷ es))) (own_text t)
      by Equal p rest =
          let some : Some e.1 ≡ None = sym (ap (λ b. cond b (Some e.1) (at_text t es)) (same_text t e.0 Equal p)) ∙ none in
          cc
      by Greater p rest =
          let apart : bytes_eq t e.0 ≡ false = same_text t e.0 Greater p in
          ap (λ b. cond b (insert_entry text_cmp es t v) (e ∷ remove_entry (bytes_eq t) (insert_entry text_cmp es t v))) apart
          ∙ ap (λ l. e ∷ l) (rest (sym (ap (λ b. cond b (Some e.1) (at_text t es)) apart) ∙ none))

  set-cond : (b : Bool) (e : Text × X) (es : List (Text × X)) (v w : X) → bytes_eq t e.0 ≡ b → set_value (bytes_eq t) (set_value (bytes_eq t) es v) w ≡ set_value (bytes_eq t) es w
      → set_value (bytes_eq t) (cond b ((e.0, v) ∷ es) (e ∷ set_value (bytes_eq t) es v)) w ≡ cond b ((e.0, w) ∷ es) (e ∷ set_value (bytes_eq t) es w)
  set-cond true e es v w p rest = ap (λ b. cond b ((e.0, w) ∷ es) ((e.0, v) ∷ set_value (bytes_eq t) es w)) p
  set-cond false e es v w p rest = ap (λ b. cond b ((e.0, w) ∷ set_value (bytes_eq t) es v) (e ∷ set_value (bytes_eq t) (set_value (bytes_eq t) es v) w)) p ∙ ap (λ l. e ∷ l) rest

  -- the last of two values stays
  pub set_value-set_value : (es : List (Text × X)) (v w : X) → set_value (bytes_eq t) (set_value (bytes_eq t) es v) w ≡ set_value (bytes_eq t) es w
  set_value-set_value [] v w = refl
  set_value-set_value (e ∷ es) v w = set-cond (bytes_eq t e.0) e es v w refl (set_value-set_value es v w)

  at-cond : (b : Bool) (e : Text × X) (es : List (Text × X)) (u w : X) → bytes_eq t e.0 ≡ b → (at_text t es ≡ Some u → at_text t (set_value (bytes_eq t) es w) ≡ Some w)
      → cond b (Some e.1) (at_text t es) ≡ Some u → at_text t (cond b ((e.0, w) ∷ es) (e ∷ set_value (bytes_eq t) es w)) ≡ Some w
  at-cond true e es u w p rest some = ap (λ b. cond b (Some w) (at_text t es)) p
  at-cond false e es u w p rest some = ap (λ b. cond b (Some e.1) (at_text t (set_value (bytes_eq t) es w))) p ∙ rest some

  -- a value that was set stands there
  pub at_text-set_value : (es : List (Text × X)) (u w : X) → at_text t es ≡ Some u → at_text t (set_value (bytes_eq t) es w) ≡ Some w
  at_text-set_value [] u w some = cc
  at_text-set_value (e ∷ es) u w some = at-cond (bytes_eq t e.0) e es u w refl (at_text-set_value es u w) some

-- ---- one entry more

first_false : (a b : Bool) → a || b ≡ false → a ≡ false
first_false true b e = cc e
first_false false b e = refl

second_false : (a b : Bool) → a || b ≡ false → b ≡ false
second_false true b e = cc e
second_false false b e = e

module _ {X : Type 0} (t : Text) where
  -- a text that is new makes the entries one more
  length-insert : (es : List (Text × X)) (v : X) → is_among t (keys_of es) ≡ false → length (insert_entry text_cmp es t v) ≡ suc (length es)
  length-insert [] v none = refl
  length-insert (e ∷ es) v none = by (text_cmp t e.0) refl (length-insert es v)
    where
      by : (o : Ordering) → text_cmp t e.0 ≡ o → (is_among t (keys_of es) ≡ false → length (insert_entry text_cmp es t v) ≡ suc (length es))
          → length (match_ordering o ((t, v) ∷ e ∷ es) ((e.0, v) ∷ es) (e ∷ insert_entry text_cmp es t v)) ≡ suc (suc (length es))
      by Less p rest = refl
      by Equal p rest =
          let same : bytes_eq t e.0 ≡ true = same_text t e.0 Equal p in
          let apart : bytes_eq t e.0 ≡ false = first_false (bytes_eq t e.0) (is_among t (keys_of es)) none in
          absurd cc
      by Greater p rest = ap suc (rest (second_false (bytes_eq t e.0) (is_among t (keys_of es)) none))

-- a type of a new name makes the types one more
pub one_type_more : (before after : List (Text × Meta)) (type : Meta) → after ≡ with_type before type → is_among (name_of type) (keys_of before) ≡ false → length after ≡ suc (length before)
one_type_more before after type e new = ap length e ∙ length-insert (name_of type) before type new

-- ---- other names

same_apart : (t other u : Text) → bytes_eq other t ≡ false → bytes_eq t u ≡ true → bytes_eq other u ≡ false
same_apart t other u apart same = ap (bytes_eq other) (sym ((bytes_eq-Decides t u).0 same)) ∙ apart

module _ {X : Type 0} (t other : Text) (apart : bytes_eq other t ≡ false) where
  other-insert : (es : List (Text × X)) (v : X) → at_text other (insert_entry text_cmp es t v) ≡ at_text other es
  other-insert [] v = ap (λ b. cond b (Some v) None) apart
  other-insert (e ∷ es) v = by (text_cmp t e.0) refl (other-insert es v)
    where
      by : (o : Ordering) → text_cmp t e.0 ≡ o → at_text other (insert_entry text_cmp es t v) ≡ at_text other es
          → at_text other (match_ordering o ((t, v) ∷ e ∷ es) ((e.0, v) ∷ es) (e ∷ insert_entry text_cmp es t v)) ≡ at_text other (e ∷ es)
      by Less p rest = ap (λ b. cond b (Some v) (at_text other (e ∷ es))) apart
      by Equal p rest =
          let no : bytes_eq other e.0 ≡ false = same_apart t other e.0 apart (same_text t e.0 Equal p) in
          ap (λ b. cond b (Some v) (at_text other es)) no ∙ sym (ap (λ b. cond b (Some e.1) (at_text other es)) no)
      by Greater p rest = ap (cond (bytes_eq other e.0) (Some e.1)) rest

  other-set-by : (b : Bool) (e : Text × X) (es : List (Text × X)) (v : X) → bytes_eq t e.0 ≡ b → at_text other (set_value (bytes_eq t) es v) ≡ at_text other es
      → at_text other (cond b ((e.0, v) ∷ es) (e ∷ set_value (bytes_eq t) es v)) ≡ at_text other (e ∷ es)
  other-set-by true e es v p rest =
      let no : bytes_eq other e.0 ≡ false = same_apart t other e.0 apart p in
      ap (λ b. cond b (Some v) (at_text other es)) no ∙ sym (ap (λ b. cond b (Some e.1) (at_text other es)) no)
  other-set-by false e es v p rest = ap (cond (bytes_eq other e.0) (Some e.1)) rest

  other-set : (es : List (Text × X)) (v : X) → at_text other (set_value (bytes_eq t) es v) ≡ at_text other es
  other-set [] v = refl
  other-set (e ∷ es) v = other-set-by (bytes_eq t e.0) e es v refl (other-set es v)

apart_by : (t other : Text) (b : Bool) → bytes_eq other t ≡ b → (other ≡ t → ⊥) → b ≡ false
apart_by t other true e ne = absurd (ne ((bytes_eq-Decides other t).0 e))
apart_by t other false e ne = refl

other-list-by : (t other : Text) (lists : List (Text × List Text)) (v : List Text) (o : Option (List Text)) → bytes_eq other t ≡ false
    → at_text other (option_map_or (λ _. set_value (bytes_eq t) lists v) o (insert_entry text_cmp lists t v)) ≡ at_text other lists
other-list-by t other lists v None apart = other-insert t other apart lists v
other-list-by t other lists v (Some u) apart = other-set t other apart lists v

-- the list of one type changes no other
pub other-list : (t other : Text) (lists : List (Text × List Text)) (v : List Text) → (other ≡ t → ⊥) → at_text other (with_list t lists v) ≡ at_text other lists
other-list t other lists v ne = other-list-by t other lists v (at_text t lists) (apart_by t other (bytes_eq other t) refl ne)

-- ---- lists

module _ (t : Text) (lists : List (Text × List Text)) where
  -- the list of a type that has none yet
  pub with_list-none : (v : List Text) → at_text t lists ≡ None → with_list t lists v ≡ insert_entry text_cmp lists t v
  with_list-none v p = ap (λ o. option_map_or (λ _. set_value (bytes_eq t) lists v) o (insert_entry text_cmp lists t v)) p

  -- the list of a type that has one
  pub with_list-some : (u v : List Text) → at_text t lists ≡ Some u → with_list t lists v ≡ set_value (bytes_eq t) lists v
  with_list-some u v p = ap (λ o. option_map_or (λ _. set_value (bytes_eq t) lists v) o (insert_entry text_cmp lists t v)) p

  at_text-with_list-by : (v : List Text) (o : Option (List Text)) → at_text t lists ≡ o → at_text t (option_map_or (λ _. set_value (bytes_eq t) lists v) o (insert_entry text_cmp lists t v)) ≡ Some v
  at_text-with_list-by v None p = at_text-insert t lists v
  at_text-with_list-by v (Some u) p = at_text-set_value t lists u v p

  pub at_text-with_list : (v : List Text) → at_text t (with_list t lists v) ≡ Some v
  at_text-with_list v = at_text-with_list-by v (at_text t lists) refl

  pub listed-with_list : (v : List Text) → implements_listed t (with_list t lists v) ≡ v
  listed-with_list v = ap (λ o. unwrap_or o []) (at_text-with_list v)

  set-with_list-by : (v w : List Text) (o : Option (List Text)) → at_text t lists ≡ o
      → set_value (bytes_eq t) (option_map_or (λ _. set_value (bytes_eq t) lists v) o (insert_entry text_cmp lists t v)) w
      ≡ option_map_or (λ _. set_value (bytes_eq t) lists w) o (insert_entry text_cmp lists t w)
  set-with_list-by v w None p = set_value-insert t lists v w
  set-with_list-by v w (Some u) p = set_value-set_value t lists v w

  set-with_list : (v w : List Text) → set_value (bytes_eq t) (with_list t lists v) w ≡ with_list t lists w
  set-with_list v w = set-with_list-by v w (at_text t lists) refl

-- the last of two lists stays
pub with_list-twice : (t : Text) (lists : List (Text × List Text)) (v w : List Text) → with_list t (with_list t lists v) w ≡ with_list t lists w
with_list-twice t lists v w = with_list-some t (with_list t lists v) v w (at_text-with_list t lists v) ∙ set-with_list t lists v w

-- several interfaces at once
pub all_at_once : (t : Text) (lists : List (Text × List Text)) (i : Text) (is : List Text) → with_all_implements t lists (i ∷ is) ≡ with_list t lists (fold with_name (implements_listed t lists) (i ∷ is))
all_at_once t lists i [] = refl
all_at_once t lists i (j ∷ is) =
    all_at_once t (with_implements t lists i) j is
    ∙ ap (λ l. with_list t (with_implements t lists i) (fold with_name l (j ∷ is))) (listed-with_list t lists (with_name (implements_listed t lists) i))
    ∙ with_list-twice t lists (with_name (implements_listed t lists) i) (fold with_name (with_name (implements_listed t lists) i) (j ∷ is))

-- the same for the names of a set that is not empty
pub all_names : (t : Text) (lists : List (Text × List Text)) (ks : List (String Global)) → (length ks ≡ 0 → ⊥) → with_all_implements t lists (map text_of ks) ≡ with_list t lists (fold with_name (implements_listed t lists) (map text_of ks))
all_names t lists [] some = absurd (some refl)
all_names t lists (k ∷ ks) some = all_at_once t lists (text_of k) (map text_of ks)

pub no_names : (t : Text) (lists : List (Text × List Text)) (ks : List (String Global)) → length ks ≡ 0 → with_all_implements t lists (map text_of ks) ≡ lists
no_names t lists [] none = refl
no_names t lists (k ∷ ks) none = absurd cc

-- ---- a list that is lent

module _ {S : Type 0} (t : Text) (es new : List (String Global × IndexSet (String Global) S)) (v w : IndexSet (String Global) S)
    (found : Some v ≡ lookup (λ k. is_eq (text_cmp t (string_bytes k))) es) (n : new ≡ set_value (λ k. is_eq (text_cmp t (string_bytes k))) es w) where
  -- the lists after another one was written over the one that was found
  pub written_list : entries_of names_of new ≡ with_list t (entries_of names_of es) (names_of w)
  written_list = written names_of t es new w n ∙ sym (with_list-some t (entries_of names_of es) (names_of v) (names_of w) (found_at names_of t es v found))

  -- the same, where that is one name more
  pub written_name : (i : Text) → names_of w ≡ with_name (names_of v) i → entries_of names_of new ≡ with_implements t (entries_of names_of es) i
  written_name i more = written_list
      ∙ ap (with_list t (entries_of names_of es)) (more ∙ ap (λ l. with_name l i) (sym (ap (λ o. unwrap_or o []) (found_at names_of t es v found))))

-- the list of a type that had none
pub begun_list : (t : Text) (lists : List (Text × List Text)) (i : Text) → at_text t lists ≡ None → insert_entry text_cmp lists t (i ∷ []) ≡ with_implements t lists i
begun_list t lists i none =
    sym (with_list-none t lists (i ∷ []) none)
    ∙ ap (λ l. with_list t lists (with_name l i)) (sym (ap (λ o. unwrap_or o []) none))

-- ---- a name once

-- the list of a type has a name once, where that was put
pub put_once : (t : Text) (lists new : List (Text × List Text)) (v : List Text) (i : Text) → new ≡ with_list t lists v → HasOnce v i → HasOnce (implements_listed t new) i
put_once t lists new v i e once = subst (λ names. HasOnce names i) (sym (ap (implements_listed t) e ∙ listed-with_list t lists v)) once
