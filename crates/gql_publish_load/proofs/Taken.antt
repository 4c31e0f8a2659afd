-- Items that are taken one after another, by distinct names.
use Rattle.std.proofs.Common.{◌≡◌, ℕ, ◌+◌, ◌<◌, Bool, true, false, ◌||◌, List, [], ◌∷◌, ◌++◌, length, get_or, take, map, Option, Some, None, refl, sym, ap, subst, ◌∙◌, append_assoc, IsTrue}
use Rattle.std.specs.Prelude.{not, if◌then◌else◌}
use Rattle.std.specs.List.{AllByRecursion, IsDistinct, filter_map, cons_option}
use Rattle.std.proofs.lemmas.List.{take_more}
use Rattle.std.specs.Map.{keys_of}
use Rattle.std.specs.Str.{bytes_eq}
use Rattle.std.specs.Cmp.Lexicographic.{nat_list_eq_equiv}
use Rattle.gql_registry_meta.specs.Parts.{Text, is_among, with_entry_in_place, with_name}
use Rattle.gql_text_syntax.specs.declared.syntax.InputValue.{InputValue}
use Rattle.gql_text.specs.DocumentOf.{input_of}
use Rattle.gql_text.specs.declared.document.InputDef.{InputDef}
use Rattle.gql_parts.specs.Builders.{arguments_meta}
use Rattle.gql_publish_document.specs.Members.{input_meta_of, inputs_parts}
use Rattle.gql_publish_document.specs.Clean.{AreDistinct}
use Rattle.gql_publish_load.specs.Taking.{AreNew, is_new_entry, is_new_name}

not_true : (b : Bool) → IsTrue (not b) → b ≡ false
not_true true h = cc
not_true false h = refl

true_not : (b : Bool) → b ≡ false → IsTrue (not b)
true_not true e = cc
true_not false e = refl

either_not : (a b : Bool) → a || b ≡ false → (a ≡ false) × (b ≡ false)
either_not true b e = cc e
either_not false b e = (refl, e)

-- an entry of a new name goes last
pub goes_last : {X : Type 0} (entries : List (Text × X)) (name : Text) (value : X) → IsTrue (is_new_entry entries (name, value)) → with_entry_in_place entries name value ≡ entries ++ (name, value) ∷ []
goes_last entries name value h = by entries (not_true _ h)
  where
    by : (es : List (Text × _)) → is_among name (keys_of es) ≡ false → with_entry_in_place es name value ≡ es ++ (name, value) ∷ []
    by [] e = refl
    by (x ∷ xs) e =
        let parts = either_not (bytes_eq name x.0) (is_among name (keys_of xs)) e in
        ap (λ b. if b then (x.0, value) ∷ xs else x ∷ with_entry_in_place xs name value) parts.0 ∙ ap (λ l. x ∷ l) (by xs parts.1)

pub name_last : (names : List Text) (name : Text) → IsTrue (is_new_name names name) → with_name names name ≡ names ++ name ∷ []
name_last names name h = ap (λ b. if b then names else names ++ name ∷ []) (not_true (is_among name names) h)

-- ---- distinct names are new, one after another

pub none_among : (name : Text) (before after : List Text) → AreDistinct (before ++ name ∷ after) → is_among name before ≡ false
unfolding IsDistinct
none_among name [] after h = refl
none_among name (b ∷ bs) after h = ap (λ c. c || is_among name bs) (nat_list_eq_equiv.symm name b ∙ at_name bs h.0) ∙ none_among name bs after h.1
  where
    at_name : (bs : List Text) → AllByRecursion (λ y. bytes_eq b y ≡ false) (bs ++ name ∷ after) → bytes_eq b name ≡ false
    at_name [] a = a.0
    at_name (x ∷ xs) a = at_name xs a.1

pub new_names : (before names : List Text) → AreDistinct (before ++ names) → AreNew is_new_name before names
new_names before [] h = tt
new_names before (n ∷ ns) h = (
  true_not (is_among n before) (none_among n before ns h),
  new_names (before ++ n ∷ []) ns (subst AreDistinct (sym (append_assoc before (n ∷ []) ns)) h),
)

pub keys_last : {X : Type 0} (es : List (Text × X)) (e : Text × X) → keys_of (es ++ e ∷ []) ≡ keys_of es ++ e.0 ∷ []
keys_last [] e = refl
keys_last (x ∷ xs) e = ap (λ l. x.0 ∷ l) (keys_last xs e)

new_entries_by : {X : Type 0} (before entries : List (Text × X)) → AreDistinct (keys_of before ++ keys_of entries) → AreNew is_new_entry before entries
new_entries_by before [] h = tt
new_entries_by before (e ∷ es) h = (
  true_not (is_among e.0 (keys_of before)) (none_among e.0 (keys_of before) (keys_of es) h),
  new_entries_by (before ++ e ∷ []) es (subst AreDistinct (sym (append_assoc (keys_of before) (e.0 ∷ []) (keys_of es)) ∙ ap (λ l. l ++ keys_of es) (sym (keys_last before e))) h),
)

same_keys : {S D X : Type 0} (entry : S → Text × X) (of : S → D) (name : D → Text) → ((x : S) → (entry x).0 ≡ name (of x)) → (xs : List S) → map name (map of xs) ≡ keys_of (map entry xs)
same_keys entry of name f [] = refl
same_keys entry of name f (x ∷ xs) = ap (λ n. n ∷ map name (map of xs)) (sym (f x)) ∙ ap (λ l. (entry x).0 ∷ l) (same_keys entry of name f xs)

-- parts with distinct names, taken by a builder that has none
pub new_entries : {S D X : Type 0} (entry : S → Text × X) (of : S → D) (name : D → Text) → ((x : S) → (entry x).0 ≡ name (of x)) → (before : List (Text × X)) → before ≡ [] → (xs : List S)
    → AreDistinct (map name (map of xs)) → AreNew is_new_entry before (map entry xs)
new_entries entry of name f before none xs h =
    subst (λ b. AreNew is_new_entry b (map entry xs)) (sym none) (new_entries_by [] (map entry xs) (subst AreDistinct (same_keys entry of name f xs) h))

-- what was taken, where there was none before
pub all_taken : {S D I : Type 0} (item : S → I) (of : S → D) (after : D → I) → ((x : S) → item x ≡ after (of x)) → (before : List I) → before ≡ [] → (xs : List S) → before ++ map item xs ≡ map after (map of xs)
all_taken item of after f before none xs = ap (λ b. b ++ map item xs) none ∙ by xs
  where
    by : (xs : List _) → map item xs ≡ map after (map of xs)
    by [] = refl
    by (x ∷ xs) = ap (λ i. i ∷ map item xs) (f x) ∙ ap (λ l. after (of x) ∷ l) (by xs)

-- each is clean
pub each_clean : {S D : Type 0} (of : S → D) (P : D → Type 0) (xs : List S) → AllByRecursion P (map of xs) → AllByRecursion (λ x. P (of x)) xs
each_clean of P [] h = tt
each_clean of P (x ∷ xs) h = (h.0, each_clean of P xs h.1)

pub nothing_asked : {S : Type 0} (xs : List S) → AllByRecursion (λ _. Unit {0}) xs
nothing_asked [] = tt
nothing_asked (x ∷ xs) = (tt, nothing_asked xs)

-- what is registered for arguments, one by one
pub entries_then : (inputs : List InputValue) → map (λ (i : InputDef). (i.name, input_meta_of i)) (map input_of inputs) ≡ arguments_meta (inputs_parts (map input_of inputs))
entries_then [] = refl
entries_then (i ∷ is) = ap (λ l. (i.key.name, input_meta_of (input_of i)) ∷ l) (entries_then is)

pub filter_map-append : {X Y : Type 0} (f : X → Option Y) (xs ys : List X) → filter_map f (xs ++ ys) ≡ filter_map f xs ++ filter_map f ys
filter_map-append f [] ys = refl
filter_map-append f (x ∷ xs) ys = by (f x) (filter_map-append f xs ys)
  where
    by : (o : Option _) → filter_map f (xs ++ ys) ≡ filter_map f xs ++ filter_map f ys → cons_option o (filter_map f (xs ++ ys)) ≡ cons_option o (filter_map f xs) ++ filter_map f ys
    by None e = e
    by (Some y) e = ap (λ l. y ∷ l) e

-- what was found, with one item more
pub found_more : {X Y : Type 0} (f : X → Option Y) (xs : List X) (i : ℕ) (x : X) → i < length xs → x ≡ get_or xs i x → filter_map f (take (i + 1) xs) ≡ filter_map f (take i xs) ++ filter_map f (x ∷ [])
found_more f xs i x h e =
    ap (filter_map f) (take_more xs i x h) ∙ filter_map-append f (take i xs) (get_or xs i x ∷ []) ∙ ap (λ y. filter_map f (take i xs) ++ filter_map f (y ∷ [])) (sym e)
