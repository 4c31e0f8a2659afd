-- The definitions of directives that are needed in a registry are those that are needed in the document for which it stands.
use Rattle.std.proofs.Common.{◌≡◌, Bool, true, false, cond, not, List, [], ◌∷◌, ◌++◌, map, filter, refl, ap, sym, subst, ◌∙◌, Option, Some, None}
use Rattle.std.specs.Prelude.{◌||◌}
use Rattle.std.specs.Option.{option_or}
use Rattle.std.specs.List.{AllByRecursion, IsDistinct}
use Rattle.std.specs.Map.{keys_of, values_of}
use Rattle.std.specs.Str.{bytes_eq}
use Rattle.std.specs.Cmp.Lexicographic.{nat_list_eq_equiv}
use Rattle.std.proofs.lemmas.Slice.Eq.{bytes_eq-Decides}
use Rattle.gql_text.specs.declared.document.Document.{Document}
use Rattle.gql_registry_meta.specs.Parts.{Text, at_text, is_among, Directive}
use Rattle.gql_registry.specs.Registry.{Contents}
use Rattle.gql_registry.specs.System.{system_directives, skip, include, deprecated, specified_by, one_of}
use Rattle.gql_publish_document.specs.Document.{document_directives, is_added, ordered_metas, ordered_directives}
use Rattle.gql_publish_document.specs.Clean.{IsClean}
use Rattle.gql_publish_document.specs.Standing.{StandsFor, IsAscending, by_name, directive_under}
use Rattle.gql_publish_canonical.proofs.Lists.{all_append, all_weaken}
use Rattle.gql_publish_shown.proofs.Entries.{ascending_same, ascending_arranged, keys_entries, at_arranged}
use Rattle.gql_sdl_view.specs.View.{needed}
use Rattle.gql_publish_views.proofs.Needs.{needed_same}

abbrev name_of : Directive → Text
name_of directive = directive.name

abbrev names_of : List Directive → List Text
names_of directives = map name_of directives

-- ---- distinct names

neither : (a b : Bool) → a || b ≡ false → (a ≡ false) × (b ≡ false)
neither true b e = absurd cc
neither false b e = (refl, e)

distinct_together : (ns ms : List Text) → IsDistinct bytes_eq ns → IsDistinct bytes_eq ms → AllByRecursion (λ m. is_among m ns ≡ false) ms → IsDistinct bytes_eq (ns ++ ms)
unfolding IsDistinct
distinct_together [] ms a b new = b
distinct_together (n ∷ ns) ms a b new = (
  all_append (λ m. bytes_eq n m ≡ false) ns ms a.0 (all_weaken (λ m. is_among m (n ∷ ns) ≡ false) (λ m. bytes_eq n m ≡ false) (λ m p. nat_list_eq_equiv.symm n m ∙ (neither (bytes_eq m n) (is_among m ns) p).0) ms new),
  distinct_together ns ms a.1 b (all_weaken (λ m. is_among m (n ∷ ns) ≡ false) (λ m. is_among m ns ≡ false) (λ m p. (neither (bytes_eq m n) (is_among m ns) p).1) ms new),
)

names_together : (xs ys : List Directive) → names_of (xs ++ ys) ≡ names_of xs ++ names_of ys
names_together [] ys = refl
names_together (x ∷ xs) ys = ap (λ (l : List Text). x.name ∷ l) (names_together xs ys)

module _ (test : Directive → Bool) where
  all_chosen : (P : Text → Type 0) (ds : List Directive) → AllByRecursion P (names_of ds) → AllByRecursion P (names_of (filter test ds))
  all_chosen P [] all = tt
  all_chosen P (d ∷ ds) all = by (test d) (all_chosen P ds all.1)
    where
      by : (b : Bool) → AllByRecursion P (names_of (filter test ds)) → AllByRecursion P (names_of (cond b (d ∷ filter test ds) (filter test ds)))
      by true rest = (all.0, rest)
      by false rest = rest

  distinct_chosen : (ds : List Directive) → IsDistinct bytes_eq (names_of ds) → IsDistinct bytes_eq (names_of (filter test ds))
  unfolding IsDistinct
  distinct_chosen [] distinct = tt
  distinct_chosen (d ∷ ds) distinct = by (test d) (distinct_chosen ds distinct.1)
    where
      by : (b : Bool) → IsDistinct bytes_eq (names_of (filter test ds)) → IsDistinct bytes_eq (names_of (cond b (d ∷ filter test ds) (filter test ds)))
      by true rest = (all_chosen (λ n. bytes_eq d.name n ≡ false) ds distinct.0, rest)
      by false rest = rest

distinct_system : IsDistinct bytes_eq (names_of system_directives)
unfolding IsDistinct skip include deprecated specified_by one_of
distinct_system = ((refl, (refl, (refl, (refl, tt)))), ((refl, (refl, (refl, tt))), ((refl, (refl, tt)), ((refl, tt), (tt, tt)))))

-- ---- what stands under a name

at_together : (name : Text) (xs ys : List Directive) → at_text name (by_name (xs ++ ys)) ≡ option_or (at_text name (by_name xs)) (at_text name (by_name ys))
at_together name [] ys = refl
at_together name (x ∷ xs) ys = by (bytes_eq name x.name) (at_together name xs ys)
  where
    by : (b : Bool) → at_text name (by_name (xs ++ ys)) ≡ option_or (at_text name (by_name xs)) (at_text name (by_name ys))
        → cond b (Some x) (at_text name (by_name (xs ++ ys))) ≡ option_or (cond b (Some x) (at_text name (by_name xs))) (at_text name (by_name ys))
    by true rest = refl
    by false rest = rest

none_among : (name : Text) (ds : List Directive) → at_text name (by_name ds) ≡ None → is_among name (names_of ds) ≡ false
none_among name [] none = refl
none_among name (d ∷ ds) none = by (bytes_eq name d.name) none (none_among name ds)
  where
    by : (b : Bool) → cond b (Some d) (at_text name (by_name ds)) ≡ None → (at_text name (by_name ds) ≡ None → is_among name (names_of ds) ≡ false) → b || is_among name (names_of ds) ≡ false
    by true none rest = cc none
    by false none rest = rest none

values_named : (ds : List Directive) → values_of (by_name ds) ≡ ds
values_named [] = refl
values_named (d ∷ ds) = ap (λ (l : List Directive). d ∷ l) (values_named ds)

-- ---- the document's definitions, and those of the system that are added

module _ (d : Document) where
  abbrev own_names : List Text
  own_names = names_of (document_directives d)

  abbrev all_directives : List Directive
  all_directives = document_directives d ++ filter (is_added d) system_directives

  added_new : (ds : List Directive) → AllByRecursion (λ m. is_among m own_names ≡ false) (names_of (filter (is_added d) ds))
  added_new [] = tt
  added_new (s ∷ ds) = by (is_among s.name own_names) refl (added_new ds)
    where
      by : (b : Bool) → is_among s.name own_names ≡ b → AllByRecursion (λ m. is_among m own_names ≡ false) (names_of (filter (is_added d) ds))
          → AllByRecursion (λ m. is_among m own_names ≡ false) (names_of (cond (not b) (s ∷ filter (is_added d) ds) (filter (is_added d) ds)))
      by true p rest = rest
      by false p rest = (p, rest)

  added_at : (name : Text) → is_among name own_names ≡ false → (ds : List Directive) → at_text name (by_name (filter (is_added d) ds)) ≡ at_text name (by_name ds)
  added_at name new [] = refl
  added_at name new (s ∷ ds) = by (is_among s.name own_names) refl (bytes_eq name s.name) refl (added_at name new ds)
    where
      by : (b : Bool) → is_among s.name own_names ≡ b → (t : Bool) → bytes_eq name s.name ≡ t → at_text name (by_name (filter (is_added d) ds)) ≡ at_text name (by_name ds)
          → at_text name (by_name (cond (not b) (s ∷ filter (is_added d) ds) (filter (is_added d) ds))) ≡ cond t (Some s) (at_text name (by_name ds))
      by true p true q rest =
          let yes : is_among name own_names ≡ true = ap (λ n. is_among n own_names) ((bytes_eq-Decides name s.name).0 q) ∙ p in
          absurd (cc (sym yes ∙ new))
      by true p false q rest = rest
      by false p t q rest = ap (λ b. cond b (Some s) (at_text name (by_name (filter (is_added d) ds)))) q ∙ ap (λ o. cond t (Some s) o) rest

  all_at : (name : Text) → at_text name (by_name all_directives) ≡ directive_under d name
  all_at name = at_together name (document_directives d) (filter (is_added d) system_directives) ∙ by (at_text name (by_name (document_directives d))) refl
    where
      by : (o : Option Directive) → at_text name (by_name (document_directives d)) ≡ o
          → option_or o (at_text name (by_name (filter (is_added d) system_directives))) ≡ option_or o (at_text name (by_name system_directives))
      by None none = added_at name (none_among name (document_directives d) none) system_directives
      by (Some own) found = refl

  all_distinct : IsClean d → IsDistinct bytes_eq (names_of all_directives)
  all_distinct clean =
      let added : IsDistinct bytes_eq (names_of (filter (is_added d) system_directives)) = distinct_chosen (is_added d) system_directives distinct_system in
      subst (λ names. IsDistinct bytes_eq names) (sym (names_together (document_directives d) (filter (is_added d) system_directives)))
      (distinct_together own_names (names_of (filter (is_added d) system_directives)) clean.directives added (added_new system_directives))

-- ---- a registry that stands for the document

directives_are : (d : Document) (contents : Contents) → IsClean d → StandsFor d contents → values_of contents.directives ≡ ordered_directives d
directives_are d contents clean stands =
    let ascend : IsAscending (keys_of (by_name (ordered_directives d))) =
    subst IsAscending (sym (keys_entries name_of (λ directive. directive) (ordered_directives d))) (ascending_arranged name_of (all_directives d) (all_distinct d clean)) in
    ap values_of (ascending_same contents.directives (by_name (ordered_directives d)) stands.directives_ascend ascend
    (λ name. stands.directives name ∙ sym (at_arranged name_of (λ directive. directive) name (all_directives d) ∙ all_at d name)))
    ∙ values_named (ordered_directives d)

-- the definitions that stand in its view are those that stand in the document's
pub directives_same : (d : Document) (contents : Contents) → IsClean d → StandsFor d contents
    → needed (values_of contents.types) (values_of contents.directives) ≡ needed (ordered_metas d) (ordered_directives d)
directives_same d contents clean stands =
    ap (needed (values_of contents.types)) (directives_are d contents clean stands) ∙ needed_same d contents clean stands (ordered_directives d)
