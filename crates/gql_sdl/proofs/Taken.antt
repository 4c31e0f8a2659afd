-- What is taken of entries and of items, one after another.
use Rattle.std.proofs.Common.{◌≡◌, Bool, true, false, cond, List, [], ◌∷◌, ◌++◌, ◌||◌, map, filter, refl, ap, sym, subst, ◌∙◌, append_assoc, append-nil}
use Rattle.std.specs.List.{IsDistinct, list_any}
use Rattle.std.specs.Str.{bytes_eq}
use Rattle.std.specs.String.{string_eq}
use Rattle.std.specs.Map.{keys_of, values_of}
use Rattle.std.specs.declared.string.String.{String}
use Rattle.std.specs.declared.alloc.Global.{Global}
use Rattle.std.proofs.lemmas.Map.Made.{IsDistinct-keys_filter}
use Rattle.indexmap.specs.IndexMap.{insert_all}
use Rattle.gql_registry_meta.specs.Parts.{Text}
use Rattle.gql_registry_meta.specs.Views.{entries_of}
use Rattle.gql_registry_meta.proofs.Distinct.{inserted_anew, distinct_texts}
use Rattle.gql_sdl_view.specs.Ordered.{changed}

-- ---- values of maps

-- the values of entries are what the values stand for
pub values_of_entries : {A B : Type 0} (f : A → B) (es : List (String Global × A)) → values_of (entries_of f es) ≡ map f (values_of es)
values_of_entries f [] = refl
values_of_entries f (e ∷ es) = ap (λ l. f e.1 ∷ l) (values_of_entries f es)

-- whether a value passes a test
pub some_value : {A B : Type 0} (f : A → B) (p : B → Bool) (es : List (String Global × A)) → list_any (λ v. p (f v)) (values_of es) ≡ list_any p (values_of (entries_of f es))
some_value f p [] = refl
some_value f p (e ∷ es) = ap (λ b. p (f e.1) || b) (some_value f p es)

-- ---- items of a list

module _ {X Y : Type 0} (change : X → Y) (p : X → Bool) where
  taken-cond : (b : Bool) (x : X) (rest : List X) → map change (cond b (x ∷ []) []) ++ map change rest ≡ map change (cond b (x ∷ rest) rest)
  taken-cond true x rest = refl
  taken-cond false x rest = refl

  -- what is taken of one item, and then of the others
  pub taken_first : (x : X) (rest : List X) → map change (filter p (x ∷ [])) ++ map change (filter p rest) ≡ map change (filter p (x ∷ rest))
  taken_first x rest = taken-cond (p x) x (filter p rest)

  -- behind what was taken before
  pub taken_next : (done : List Y) (x : X) (rest : List X) → (done ++ map change (filter p (x ∷ []))) ++ map change (filter p rest) ≡ done ++ map change (filter p (x ∷ rest))
  taken_next done x rest = append_assoc done _ _ ∙ ap (λ l. done ++ l) (taken_first x rest)

module _ {A X Y : Type 0} (f : A → X) (change : X → Y) (p : X → Bool) where
  -- in a loop: what is taken of one more item
  pub taken_step : (done more whole : List Y) (a : A) (left rest : List A) → more ≡ done ++ map change (filter p (f a ∷ [])) → left ≡ a ∷ rest
      → done ++ map change (filter p (map f left)) ≡ whole → more ++ map change (filter p (map f rest)) ≡ whole
  taken_step done more whole a left rest next first so_far =
      ap (λ l. l ++ map change (filter p (map f rest))) next
      ∙ taken_next change p done (f a) (map f rest)
      ∙ ap (λ l. done ++ map change (filter p (map f l))) (sym first)
      ∙ so_far

  -- at the end of a loop over the values of a map
  pub taken_whole : (es : List (String Global × A)) (parts : List (Text × X)) (done : List Y) (left all : List A) → left ≡ [] → all ≡ values_of es → entries_of f es ≡ parts
      → done ++ map change (filter p (map f left)) ≡ map change (filter p (map f all)) → done ≡ map change (filter p (values_of parts))
  taken_whole es parts done left all none values same so_far =
      sym (append-nil done)
      ∙ ap (λ l. done ++ map change (filter p (map f l))) (sym none)
      ∙ so_far
      ∙ ap (λ l. map change (filter p (map f l))) values
      ∙ ap (λ l. map change (filter p l)) (sym (values_of_entries f es))
      ∙ ap (λ l. map change (filter p (values_of l))) same

-- ---- entries under distinct keys

keys_of-changed : {X Y : Type 0} (change : X → Y) (es : List (Text × X)) → keys_of (changed change es) ≡ keys_of es
keys_of-changed change [] = refl
keys_of-changed change (e ∷ es) = ap (λ l. e.0 ∷ l) (keys_of-changed change es)

module _ {X Y : Type 0} (change : X → Y) (p : Text × X → Bool) where
  put-cond : (b : Bool) (done : List (Text × Y)) (e : Text × X) (rest : List (Text × X))
      → insert_all bytes_eq (insert_all bytes_eq done (changed change (cond b (e ∷ []) []))) (changed change rest) ≡ insert_all bytes_eq done (changed change (cond b (e ∷ rest) rest))
  put-cond true done e rest = refl
  put-cond false done e rest = refl

  -- one entry is put in, and then the others
  pub put_next : (done : List (Text × Y)) (e : Text × X) (rest : List (Text × X))
      → insert_all bytes_eq (insert_all bytes_eq done (changed change (filter p (e ∷ [])))) (changed change (filter p rest)) ≡ insert_all bytes_eq done (changed change (filter p (e ∷ rest)))
  put_next done e rest = put-cond (p e) done e (filter p rest)

  -- put in each in turn, they are the entries that are taken
  pub put_anew : {A : Type 0} (f : A → X) (es : List (String Global × A)) → IsDistinct string_eq (keys_of es)
      → insert_all bytes_eq [] (changed change (filter p (entries_of f es))) ≡ changed change (filter p (entries_of f es))
  put_anew f es distinct = inserted_anew _ (subst (IsDistinct bytes_eq) (sym (keys_of-changed change (filter p (entries_of f es)))) (IsDistinct-keys_filter bytes_eq p (entries_of f es) (distinct_texts f es distinct)))

-- all of the entries
pub changed_anew : {A X Y : Type 0} (change : X → Y) (f : A → X) (es : List (String Global × A)) → IsDistinct string_eq (keys_of es)
    → insert_all bytes_eq [] (changed change (entries_of f es)) ≡ changed change (entries_of f es)
changed_anew change f es distinct = inserted_anew _ (subst (IsDistinct bytes_eq) (sym (keys_of-changed change (entries_of f es))) (distinct_texts f es distinct))
