-- Texts that are written one after another.
use Rattle.std.proofs.Common.{arith, ◌≡◌, Bool, true, false, cond, ℕ, suc, zero, ◌+◌, ◌<◌, ◌≤◌, add-one, List, [], ◌∷◌, ◌++◌, Option, map, filter, length, drop, get_or, refl, ap, ap₂, sym, ◌∙◌, append_assoc, append-nil, codes}
use Rattle.std.proofs.lemmas.List.{drop_more, drop_all}
use Rattle.std.proofs.lemmas.List.Folds.{flat_map-map}
use Rattle.std.specs.List.{flat_map}
use Rattle.std.specs.Map.{values_of}
use Rattle.std.specs.declared.string.String.{String}
use Rattle.std.specs.declared.alloc.Global.{Global}
use Rattle.gql_registry_meta.specs.Parts.{Text, Meta, name_of, Directive}
use Rattle.gql_registry.specs.Registry.{Contents, implements_listed}
use Rattle.gql_registry_meta.specs.Views.{entries_of}
use Rattle.gql_sdl_view.specs.Options.{Options, Layout, registry_choice}
use Rattle.gql_sdl_view.specs.View.{View, viewed_type, viewed_directive, shown_types, needed, view_of}
use Rattle.gql_sdl_view.specs.Spelling.{type_text, types_text, first_list, other_lists, directive_text, directives_text, schema_text, spelled}
use Rattle.gql_sdl.specs.Registered.{definition_text, shown_text, needed_text}
use Rattle.gql_sdl.proofs.Laws.{viewed_directive_text}
use Rattle.gql_sdl.proofs.Taken.{values_of_entries}

-- ---- a text for each part that is taken

module _ {A X : Type 0} (f : A → X) (text : X → Text) (p : X → Bool) where
  text-cond : (b : Bool) (x : X) (rest : List X) → flat_map text (cond b (x ∷ []) []) ++ flat_map text rest ≡ flat_map text (cond b (x ∷ rest) rest)
  text-cond true x rest = ap (λ l. l ++ flat_map text rest) (append-nil (text x))
  text-cond false x rest = refl

  -- in a loop: the text of one more part
  pub text_step : (done more whole : Text) (a : A) (left rest : List A) → more ≡ done ++ flat_map text (filter p (f a ∷ [])) → left ≡ a ∷ rest
      → done ++ flat_map text (filter p (map f left)) ≡ whole → more ++ flat_map text (filter p (map f rest)) ≡ whole
  text_step done more whole a left rest next first so_far =
      ap (λ l. l ++ flat_map text (filter p (map f rest))) next
      ∙ append_assoc done _ _
      ∙ ap (λ l. done ++ l) (text-cond (p (f a)) (f a) (filter p (map f rest)))
      ∙ ap (λ l. done ++ flat_map text (filter p (map f l))) (sym first)
      ∙ so_far

  -- at the end of a loop over the values of a map
  pub text_whole : (es : List (String Global × A)) (parts : List (Text × X)) (done before : Text) (left all : List A) → left ≡ [] → all ≡ values_of es → entries_of f es ≡ parts
      → done ++ flat_map text (filter p (map f left)) ≡ before ++ flat_map text (filter p (map f all)) → done ≡ before ++ flat_map text (filter p (values_of parts))
  text_whole es parts done before left all none values same so_far =
      sym (append-nil done)
      ∙ ap (λ l. done ++ flat_map text (filter p (map f l))) (sym none)
      ∙ so_far
      ∙ ap (λ l. before ++ flat_map text (filter p (map f l))) values
      ∙ ap (λ l. before ++ flat_map text (filter p l)) (sym (values_of_entries f es))
      ∙ ap (λ l. before ++ flat_map text (filter p (values_of l))) same

-- ---- a text for each type and its list

-- the list that stands at each type
pub types_text-map : {X : Type 0} (layout : Layout) (lists : X → List Text) (types : X → Meta) (xs : List X) → types_text layout (map types xs) (map lists xs) ≡ flat_map (λ x. type_text layout (lists x) (types x)) xs
types_text-map layout lists types [] = refl
types_text-map layout lists types (x ∷ xs) = ap (λ l. type_text layout (lists x) (types x) ++ l) (types_text-map layout lists types xs)

-- ---- lists by places

other-drop : (i : ℕ) (lists : List (List Text)) → other_lists (drop i lists) ≡ drop (i + 1) lists
other-drop i lists = rw add-one (behind i lists)
  where
    behind : (k : ℕ) (ls : List (List Text)) → other_lists (drop k ls) ≡ drop (suc k) ls
    behind zero [] = refl
    behind zero (l ∷ ls) = refl
    behind (suc k) [] = refl
    behind (suc k) (l ∷ ls) = behind k ls

-- the text of the type at a place, and then of the others
pub types_text-drop : {A : Type 0} (f : A → Meta) (layout : Layout) (types : List A) (lists : List (List Text)) (i : ℕ) (d : A) → i < length types
    → types_text layout (map f (drop i types)) (drop i lists) ≡ type_text layout (first_list (drop i lists)) (f (get_or types i d)) ++ types_text layout (map f (drop (i + 1) types)) (drop (i + 1) lists)
types_text-drop f layout types lists i d within =
    ap (λ l. types_text layout (map f l) (drop i lists)) (drop_more types i d within)
    ∙ ap (λ l. type_text layout (first_list (drop i lists)) (f (get_or types i d)) ++ types_text layout (map f (drop (i + 1) types)) l) (other-drop i lists)

-- the list at a place
pub first_list-drop : {A : Type 0} (f : A → List Text) (xs : List A) (i : ℕ) (d : A) → i < length xs → first_list (drop i (map f xs)) ≡ f (get_or xs i d)
first_list-drop f [] i d within = absurd (omega (arith, within))
first_list-drop f (x ∷ xs) zero d within = refl
first_list-drop f (x ∷ xs) (suc i) d within = first_list-drop f xs i d (omega (arith, within))

-- in a loop by places: the text of one more part
pub text_next : {A : Type 0} (text : A → Text) (xs : List A) (i : ℕ) (d : A) (done more whole : Text) → i < length xs → more ≡ done ++ text (get_or xs i d)
    → done ++ flat_map text (drop i xs) ≡ whole → more ++ flat_map text (drop (i + 1) xs) ≡ whole
text_next text xs i d done more whole within next so_far =
    ap (λ l. l ++ flat_map text (drop (i + 1) xs)) next
    ∙ append_assoc done _ _
    ∙ ap (λ l. done ++ flat_map text l) (sym (drop_more xs i d within))
    ∙ so_far

-- definitions as they are, in the place of those that a view has
pub definitions_text : (layout : Layout) (directives : List Directive) → flat_map (definition_text layout) directives ≡ directives_text layout directives
definitions_text layout [] = refl
definitions_text layout (d ∷ ds) = ap₂ (λ (a b : Text). a ++ b) (ap (λ (t : Text). t ++ codes "\n") (viewed_directive_text layout d)) (definitions_text layout ds)

-- at the end of such a loop
pub places_done : {A : Type 0} (text : A → Text) (xs : List A) (i : ℕ) (done whole : Text) → length xs ≤ i → done ++ flat_map text (drop i xs) ≡ whole → done ≡ whole
places_done text xs i done whole past so_far = sym (append-nil done) ∙ ap (λ l. done ++ flat_map text l) (sym (drop_all i xs past)) ∙ so_far

-- ---- whole texts

written : (first second third fourth types directives block : Text) → first ≡ [] → second ≡ first ++ types → third ≡ second ++ directives → fourth ≡ third ++ block → fourth ≡ types ++ (directives ++ block)
written first second third fourth types directives block e f g h =
    h ∙ ap (λ (t : Text). t ++ block) (g ∙ ap (λ (t : Text). t ++ directives) (f ∙ ap (λ (t : Text). t ++ types) e)) ∙ append_assoc types directives block

same_block : (layout : Layout) (view : View) (query : Text) (mutation subscription : Option Text) → query ≡ view.query → mutation ≡ view.mutation → subscription ≡ view.subscription
    → schema_text layout query mutation subscription ≡ schema_text layout view.query view.mutation view.subscription
same_block layout view query mutation subscription e f g =
    ap (λ q. schema_text layout q mutation subscription) e
    ∙ ap (λ m. schema_text layout view.query m subscription) f
    ∙ ap (λ s. schema_text layout view.query view.mutation s) g

-- the types, the directive definitions and the schema block, written one after another
pub spelled_from : (layout asked : Layout) (view : View) (first second third fourth : Text) (query : Text) (mutation subscription : Option Text)
    → first ≡ [] → second ≡ first ++ types_text layout view.types view.implements → third ≡ second ++ directives_text layout view.directives
    → fourth ≡ third ++ schema_text layout query mutation subscription → query ≡ view.query → mutation ≡ view.mutation → subscription ≡ view.subscription
    → layout ≡ asked → fourth ≡ spelled asked view
spelled_from layout asked view first second third fourth query mutation subscription e types directives block q m s laid =
    written first second third fourth _ _ _ e types directives block
    ∙ ap (λ (t : Text). types_text layout view.types view.implements ++ (directives_text layout view.directives ++ t)) (same_block layout view query mutation subscription q m s)
    ∙ ap (λ l. spelled l view) laid

-- ---- registries

-- the types of a registry's view
pub shown_types_text : (layout : Layout) (o : Options) (contents : Contents) → shown_text layout (registry_choice o) contents (values_of contents.types) ≡ types_text layout (view_of o contents).types (view_of o contents).implements
shown_types_text layout o contents = sym (types_text-map layout (λ type. implements_listed (name_of type) contents.implements) (viewed_type (registry_choice o) contents.subscription) (shown_types contents))

-- its directive definitions
pub needed_directives_text : (layout : Layout) (types : List Meta) (directives : List Directive) → needed_text layout types directives ≡ directives_text layout (map viewed_directive (needed types directives))
needed_directives_text layout types directives = sym (flat_map-map (λ directive. directive_text layout directive ++ codes "\n") viewed_directive (needed types directives))
