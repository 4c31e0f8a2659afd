-- Entries of maps under names, over what they stand for. Laws of the words of `specs/Parts` and `specs/Views`, for this
-- crate and for those above it.
use Rattle.std.proofs.Common.{◌≡◌, Bool, true, false, cond, List, [], ◌∷◌, ◌++◌, map, refl, ap, sym, ◌∙◌, Some, None, is_some, string_bytes, Bor}
use Rattle.std.specs.declared.option.Option.{Option}
use Rattle.std.specs.declared.cmp.Ordering.{Ordering}
use Rattle.std.specs.declared.cmp.Ordering.TheVariants.{Less, Equal, Greater}
use Rattle.std.specs.Option.{option_map, option_copied}
use Rattle.std.specs.Map.{lookup, set_value, remove_entry, keys_of}
use Rattle.std.specs.Str.{bytes_eq}
use Rattle.std.specs.String.{string_cmp, string_eq}
use Rattle.std.specs.BTreeMap.{insert_entry}
use Rattle.std.specs.Ordering.{match_ordering, is_eq}
use Rattle.std.proofs.lemmas.Map.Text.{is_eq-slice_cmp}
use Rattle.std.proofs.lemmas.Map.Steps.{set_value_same}
use Rattle.std.proofs.lemmas.Map.Made.{is_some-lookup}
use Rattle.std.specs.declared.string.String.{String}
use Rattle.std.specs.declared.alloc.Global.{Global}
use Rattle.indexmap.specs.IndexMap as put
use Rattle.gql_registry_meta.specs.Parts.{Text, at_text, is_among, text_cmp}
use Rattle.gql_registry_meta.specs.Views.{text_of, entries_of}
use Rattle.gql_registry_meta.proofs.Names.{names_have_text, names_compared}

option_map-cond : {A B : Type 0} (f : A → B) (b : Bool) (x : A) (r : Option A) (s : Option B) → option_map f r ≡ s → option_map f (cond b (Some x) r) ≡ cond b (Some (f x)) s
option_map-cond f true x r s e = refl
option_map-cond f false x r s e = e

cond-entries_of : {A B : Type 0} (f : A → B) (b : Bool) (xs ys : List (String Global × A)) → entries_of f (cond b xs ys) ≡ cond b (entries_of f xs) (entries_of f ys)
cond-entries_of f true xs ys = refl
cond-entries_of f false xs ys = refl

match-entries_of : {A B : Type 0} (f : A → B) (o : Ordering) (a b c : List (String Global × A)) → entries_of f (match_ordering o a b c) ≡ match_ordering o (entries_of f a) (entries_of f b) (entries_of f c)
match-entries_of f Less a b c = refl
match-entries_of f Equal a b c = refl
match-entries_of f Greater a b c = refl

-- what the values stand for, in two steps
pub entries_of-then : {A B C : Type 0} (g : B → C) (f : A → B) (es : List (String Global × A)) → map (λ e. (e.0, g e.1)) (entries_of f es) ≡ entries_of (λ a. g (f a)) es
entries_of-then g f [] = refl
entries_of-then g f (e ∷ es) = ap (λ l. (text_of e.0, g (f e.1)) ∷ l) (entries_of-then g f es)

-- an entry at the end
pub entries_of-last : {A B : Type 0} (f : A → B) (es : List (String Global × A)) (k : String Global) (v : A) → entries_of f (es ++ (k, v) ∷ []) ≡ entries_of f es ++ (text_of k, f v) ∷ []
entries_of-last f [] k v = refl
entries_of-last f (e ∷ es) k v = ap (λ l. (text_of e.0, f e.1) ∷ l) (entries_of-last f es k v)

-- the names under which entries stand
pub names_of-entries : {A B : Type 0} (f : A → B) (es : List (String Global × A)) → keys_of (entries_of f es) ≡ map text_of (keys_of es)
names_of-entries f [] = refl
names_of-entries f (e ∷ es) = ap (λ l. text_of e.0 ∷ l) (names_of-entries f es)

-- a look at what is behind a reference
pub option_map-now : {A B : Type 0} (f : A → B) (o : Option (Bor A)) → option_map (λ x. f x.now) o ≡ option_map f (option_copied o)
option_map-now f None = refl
option_map-now f (Some x) = refl

none_from_test : {A : Type 0} (o : Option A) → is_some o ≡ false → o ≡ None
none_from_test None e = refl
none_from_test (Some x) e = cc e

-- ---- maps in the order of insertion

-- what stands under a text
pub entries_at_text : {A B : Type 0} (f : A → B) (t : Text) (es : List (String Global × A)) → option_map f (lookup (λ k. bytes_eq t (string_bytes k)) es) ≡ at_text t (entries_of f es)
entries_at_text f t [] = refl
entries_at_text f t (e ∷ es) = option_map-cond f (bytes_eq t (string_bytes e.0)) e.1 _ _ (entries_at_text f t es)

-- whether a key is of the name
pub key_found : {A : Type 0} (t : Text) (es : List (String Global × A)) → is_some (lookup (λ k. bytes_eq t (string_bytes k)) es) ≡ is_among t (map text_of (keys_of es))
key_found t es = is_some-lookup (λ k. bytes_eq t (string_bytes k)) es ∙ names_have_text t (keys_of es)

-- whether an entry is of the name
pub found_among : {A B : Type 0} (f : A → B) (t : Text) (es : List (String Global × A)) → is_some (lookup (λ k. bytes_eq t (string_bytes k)) es) ≡ is_among t (keys_of (entries_of f es))
found_among f t es = key_found t es ∙ ap (is_among t) (sym (names_of-entries f es))

-- nothing stands under a key that was not found
pub nothing_at : {A : Type 0} (k : String Global) (es : List (String Global × A)) → is_some (lookup (λ q. bytes_eq (text_of k) (string_bytes q)) es) ≡ false → lookup (string_eq k) es ≡ None
nothing_at k es new = none_from_test _ new

-- an entry more
pub entries_with_insertion : {A B : Type 0} (f : A → B) (es : List (String Global × A)) (k : String Global) (v : A) → entries_of f (put.insert_entry string_eq es k v) ≡ put.insert_entry bytes_eq (entries_of f es) (text_of k) (f v)
entries_with_insertion f [] k v = refl
entries_with_insertion f (e ∷ es) k v = cond-entries_of f (bytes_eq (text_of k) (text_of e.0)) _ _
    ∙ ap (λ l. cond (bytes_eq (text_of k) (text_of e.0)) ((text_of e.0, f v) ∷ entries_of f es) ((text_of e.0, f e.1) ∷ l)) (entries_with_insertion f es k v)

-- ---- maps in name order

-- what stands under a text
pub sorted_at_text : {A B : Type 0} (f : A → B) (t : Text) (es : List (String Global × A)) → option_map f (lookup (λ k. is_eq (text_cmp t (string_bytes k))) es) ≡ at_text t (entries_of f es)
sorted_at_text f t [] = refl
sorted_at_text f t (e ∷ es) =
    ap (λ b. option_map f (cond b (Some e.1) (lookup (λ k. is_eq (text_cmp t (string_bytes k))) es))) (is_eq-slice_cmp t (string_bytes e.0))
    ∙ option_map-cond f (bytes_eq t (string_bytes e.0)) e.1 _ _ (sorted_at_text f t es)

-- what was found stands under the text
pub found_at : {A B : Type 0} (f : A → B) (t : Text) (es : List (String Global × A)) (v : A) → Some v ≡ lookup (λ k. is_eq (text_cmp t (string_bytes k))) es → at_text t (entries_of f es) ≡ Some (f v)
found_at f t es v e = sym (sorted_at_text f t es) ∙ ap (option_map f) (sym e)

-- and nothing, where nothing was found
pub missing_at : {A B : Type 0} (f : A → B) (t : Text) (es : List (String Global × A)) → None ≡ lookup (λ k. is_eq (text_cmp t (string_bytes k))) es → at_text t (entries_of f es) ≡ None
missing_at f t es e = sym (sorted_at_text f t es) ∙ ap (option_map f) (sym e)

-- whether an entry is of the name
pub sorted_among : {A B : Type 0} (f : A → B) (t : Text) (es : List (String Global × A)) → is_some (lookup (λ k. is_eq (text_cmp t (string_bytes k))) es) ≡ is_among t (keys_of (entries_of f es))
sorted_among f t es = is_some-lookup (λ k. is_eq (text_cmp t (string_bytes k))) es ∙ names_compared t (keys_of es) ∙ ap (is_among t) (sym (names_of-entries f es))

-- an entry more
pub entries_with_entry : {A B : Type 0} (f : A → B) (es : List (String Global × A)) (k : String Global) (v : A) → entries_of f (insert_entry string_cmp es k v) ≡ insert_entry text_cmp (entries_of f es) (text_of k) (f v)
entries_with_entry f [] k v = refl
entries_with_entry f (e ∷ es) k v = match-entries_of f (text_cmp (text_of k) (text_of e.0)) _ _ _
    ∙ ap (λ l. match_ordering (text_cmp (text_of k) (text_of e.0)) ((text_of k, f v) ∷ entries_of f (e ∷ es)) ((text_of e.0, f v) ∷ entries_of f es) ((text_of e.0, f e.1) ∷ l)) (entries_with_entry f es k v)

-- another value under a text
pub entries_with_value : {A B : Type 0} (f : A → B) (t : Text) (es : List (String Global × A)) (w : A) → entries_of f (set_value (λ k. is_eq (text_cmp t (string_bytes k))) es w) ≡ set_value (bytes_eq t) (entries_of f es) (f w)
entries_with_value f t [] w = refl
entries_with_value f t (e ∷ es) w =
    ap (λ b. entries_of f (cond b ((e.0, w) ∷ es) (e ∷ set_value (λ k. is_eq (text_cmp t (string_bytes k))) es w))) (is_eq-slice_cmp t (string_bytes e.0))
    ∙ cond-entries_of f (bytes_eq t (text_of e.0)) ((e.0, w) ∷ es) (e ∷ set_value (λ k. is_eq (text_cmp t (string_bytes k))) es w)
    ∙ ap (λ l. cond (bytes_eq t (text_of e.0)) ((text_of e.0, f w) ∷ entries_of f es) ((text_of e.0, f e.1) ∷ l)) (entries_with_value f t es w)

-- without what stands under a text
pub entries_without : {A B : Type 0} (f : A → B) (t : Text) (es : List (String Global × A)) → entries_of f (remove_entry (λ k. is_eq (text_cmp t (string_bytes k))) es) ≡ remove_entry (bytes_eq t) (entries_of f es)
entries_without f t [] = refl
entries_without f t (e ∷ es) =
    ap (λ b. entries_of f (cond b es (e ∷ remove_entry (λ k. is_eq (text_cmp t (string_bytes k))) es))) (is_eq-slice_cmp t (string_bytes e.0))
    ∙ cond-entries_of f (bytes_eq t (text_of e.0)) es (e ∷ remove_entry (λ k. is_eq (text_cmp t (string_bytes k))) es)
    ∙ ap (λ l. cond (bytes_eq t (text_of e.0)) (entries_of f es) ((text_of e.0, f e.1) ∷ l)) (entries_without f t es)

-- the entries after another value was written over what was found
pub written : {A B : Type 0} (f : A → B) (t : Text) (es new : List (String Global × A)) (w : A) → new ≡ set_value (λ k. is_eq (text_cmp t (string_bytes k))) es w → entries_of f new ≡ set_value (bytes_eq t) (entries_of f es) (f w)
written f t es new w n = ap (entries_of f) n ∙ entries_with_value f t es w

-- the same, where it looks like the old one
pub written_back : {A B : Type 0} (f : A → B) (t : Text) (es new : List (String Global × A)) (v w : A) → Some v ≡ lookup (λ k. is_eq (text_cmp t (string_bytes k))) es → new ≡ set_value (λ k. is_eq (text_cmp t (string_bytes k))) es w → f w ≡ f v → entries_of f new ≡ entries_of f es
written_back f t es new v w found n same =
    written f t es new w n
    ∙ set_value_same (bytes_eq t) (entries_of f es) (f w) (found_at f t es v found ∙ ap Some (sym same))
