-- What is written type by type is the canonical text.
use Rattle.std.proofs.Common.{◌≡◌, ℕ, ◌+◌, ◌<◌, ◌≤◌, Bool, true, false, List, [], ◌∷◌, ◌++◌, ◌||◌, map, length, drop, get_or, None, Option, Result, Ok, Err, Bor, refl, sym, ap, ◌∙◌, append_assoc, append-nil}
use Rattle.std.specs.List.{list_any}
use Rattle.std.specs.Map.{values_of}
use Rattle.std.specs.Prelude.{OnOk}
use Rattle.gql_text_lexer.specs.declared.error.OutOfMemory.{OutOfMemory}
use Rattle.std.specs.declared.string.String.{String}
use Rattle.std.specs.declared.alloc.Global.{Global}
use Rattle.std.proofs.lemmas.List.{drop_more, drop_all}
use Rattle.gql_text_syntax.specs.declared.operation.OperationType.TheVariants.{Mutation, Subscription}
use Rattle.gql_text.specs.Roots.{root_of}
use Rattle.gql_text.specs.declared.document.Document.{Document}
use Rattle.gql_registry_meta.specs.Parts.{Text, Meta, Directive}
use Rattle.gql_registry_meta.specs.Views.{entries_of}
use Rattle.gql_registry.specs.Additions.{all_made, made, directive, missing_type, system_steps}
use Rattle.gql_registry.specs.Registry.{Contents, empty, with_directive}
use Rattle.gql_registry.specs.System.{system_directives, system_scalars}
use Rattle.gql_dynamic.specs.SchemaTypes.{TypeParts, interfaces, type_meta, type_name}
use Rattle.gql_dynamic.specs.SchemaViews.{type_parts}
use Rattle.gql_dynamic.specs.declared.schema_type.SchemaType.{SchemaType}
use Rattle.gql_check_rules.specs.Rules.{first_fault}
use Rattle.gql_check.specs.Recorded.{Recorded, types_in, type_step, roots_alone, system_contents, type_contents, directive_contents, possible_contents, schema_contents}
use Rattle.gql_check.proofs.RegistrySteps.{all_made-append}
use Rattle.gql_sdl.specs.Needs.{needs_of, joined}
use Rattle.gql_sdl.specs.Writing.{Written, begun, with_type, with_directives}
use Rattle.gql_sdl.specs.declared.needs.Needs.{Needs}
use Rattle.gql_sdl_text.proofs.Lendings.{arranged-map, map-twice}
use Rattle.gql_sdl_view.specs.Ordered.{arranged}
use Rattle.gql_sdl_view.specs.Options.{Options, Layout, layout_of, document_choice}
use Rattle.gql_sdl_view.specs.Spelling.{types_text, directives_text, schema_text}
use Rattle.gql_sdl_view.specs.View.{viewed_type, viewed_directive, needed, has_deprecated, has_url, has_one_of}
use Rattle.gql_publish_document.specs.Clean.{IsClean}
use Rattle.gql_publish_document.specs.Document.{document_directives, document_types, document_recorded, document_schema, ordered_directives, ordered_metas, ordered_types, query_root, entry_of}
use Rattle.gql_publish_document.specs.Published.{canonical_text}
use Rattle.gql_publish_standing.proofs.Additions.{kept-steps, kept-possible, kept-introspection}
use Rattle.gql_publish_standing.proofs.Stands.{stands_for}
use Rattle.gql_publish_views.proofs.Directives.{directives_same}
use Rattle.gql_publish_views.proofs.Needs.{needed_same}
use Rattle.gql_publish_load.specs.Canonical.{defined, with_types}

-- ---- types

or_assoc : (a b c : Bool) → (a || (b || false)) || c ≡ a || (b || c)
or_assoc true b c = refl
or_assoc false true c = refl
or_assoc false false c = refl

or_false : (a : Bool) → a || false ≡ a
or_false true = refl
or_false false = refl

abbrev needs_with : Bool → Bool → Bool → Needs
needs_with deprecated url one_of = record { deprecated = deprecated; url = url; one_of = one_of }

same_needs : (a b c d e f : Bool) → a ≡ b → c ≡ d → e ≡ f → needs_with a c e ≡ needs_with b d f
same_needs a b c d e f p q r = rw (p, q, r) refl

joined_none : (needs : Needs) → joined needs (needs_of []) ≡ needs
joined_none needs = same_needs _ _ _ _ _ _ (or_false needs.deprecated) (or_false needs.url) (or_false needs.one_of)

joined_more : (needs : Needs) (type : Meta) (types : List Meta) → joined (joined needs (needs_of (type ∷ []))) (needs_of types) ≡ joined needs (needs_of (type ∷ types))
joined_more needs type types = same_needs _ _ _ _ _ _
    (or_assoc needs.deprecated (has_deprecated type) (list_any has_deprecated types))
    (or_assoc needs.url (has_url type) (list_any has_url types))
    (or_assoc needs.one_of (has_one_of type) (list_any has_one_of types))

module _ (subscription : Option Text) where
  abbrev text_of : Written → List TypeParts → Text
  text_of w types = types_text w.layout (map (viewed_type w.choice subscription) (map type_meta types)) (map interfaces types)

  abbrev state : Written → Needs → Text → Written
  state w needs text = record w { needs = needs; text = text }

  -- all of them, after what was written
  types_written : (w : Written) (types : List TypeParts) → with_types subscription w types ≡ state w (joined w.needs (needs_of (map type_meta types))) (w.text ++ text_of w types)
  types_written w [] = ap (λ n. state w n w.text) (sym (joined_none w.needs)) ∙ ap (state w (joined w.needs (needs_of []))) (sym (append-nil w.text))
  types_written w (type ∷ types) =
      let one : Written = with_type subscription w (interfaces type) (type_meta type) in
      types_written one types
      ∙ ap (λ n. state w n (one.text ++ text_of w types)) (joined_more w.needs (type_meta type) (map type_meta types))
      ∙ ap (state w (joined w.needs (needs_of (map type_meta (type ∷ types))))) (append_assoc w.text _ (text_of w types))

-- in a loop by places: one type more, and then the others
pub next_written : {A : Type 0} (parts : A → TypeParts) (subscription : Option Text) (w : Written) (xs : List A) (i : ℕ) (x : A) → i < length xs
    → with_types subscription w (map parts (drop i xs))
    ≡ with_types subscription (with_type subscription w (interfaces (parts (get_or xs i x))) (type_meta (parts (get_or xs i x)))) (map parts (drop (i + 1) xs))
next_written parts subscription w xs i x within = ap (λ l. with_types subscription w (map parts l)) (drop_more xs i x within)

-- at the end of such a loop
pub all_written : {A : Type 0} (parts : A → TypeParts) (subscription : Option Text) (w : Written) (xs : List A) (i : ℕ) → length xs ≤ i → w ≡ with_types subscription w (map parts (drop i xs))
all_written parts subscription w xs i past = sym (ap (λ l. with_types subscription w (map parts l)) (drop_all i xs past))

-- the types of a document, lent and put in name order
pub ordered_so : {x g : _} (d : Document) (items : List (Bor (SchemaType x g))) (es : List (String Global × SchemaType x g)) → map (λ ty. ty.now) items ≡ values_of es
    → entries_of type_parts es ≡ map entry_of (document_types d)
    → map (λ ty. type_parts ty.now) (arranged (λ ty. type_name (type_parts ty.now)) true items) ≡ ordered_types d
ordered_so {x = x} {g = g} d items es lent recorded =
    arranged-map (λ ty. type_parts ty.now) (λ ty. type_name (type_parts ty.now)) type_name (λ ty. refl) true items
    ∙ ap (arranged type_name true) (map-twice (λ ty. ty.now) type_parts items ∙ ap (map type_parts) lent ∙ sym (entry_values es) ∙ ap values_of recorded ∙ entry_types (document_types d))
  where
    entry_values : (es : List (String Global × SchemaType x g)) → values_of (entries_of type_parts es) ≡ map type_parts (values_of es)
    entry_values [] = refl
    entry_values (e ∷ es) = ap (λ l. type_parts e.1 ∷ l) (entry_values es)

    entry_types : (ts : List TypeParts) → values_of (map entry_of ts) ≡ ts
    entry_types [] = refl
    entry_types (t ∷ ts) = ap (λ l. t ∷ l) (entry_types ts)

-- a type that was written
pub pushed : {T : Type 0} (r : Result T OutOfMemory) (subscription : Option Text) (before after : Written) (names others : List Text) (meta other : Meta) → names ≡ others → meta ≡ other
    → OnOk r (after ≡ with_type subscription before names meta) → OnOk r (after ≡ with_type subscription before others other)
pushed (Ok done) subscription before after names others meta other e f h = h ∙ ap (λ l. with_type subscription before l meta) e ∙ ap (with_type subscription before others) f
pushed (Err error) subscription before after names others meta other e f h = tt

-- ---- directives

-- what is defined hangs on no type
same_directives : (before other : Contents) → before.directives ≡ other.directives → (ds : List Directive) → (all_made before (map directive ds)).directives ≡ (all_made other (map directive ds)).directives
unfolding all_made
same_directives before other e [] = e
same_directives before other e (d ∷ ds) = same_directives (made before (directive d)) (made other (directive d)) (ap (λ own. with_directive own d) e) ds

system_same : (before other : Contents) → before.directives ≡ other.directives → (all_made before system_steps).directives ≡ (all_made other system_steps).directives
system_same before other e = scalars before ∙ same_directives before other e system_directives ∙ sym (scalars other)
  where
    scalars : (contents : Contents) → (all_made contents system_steps).directives ≡ (all_made contents (map directive system_directives)).directives
    scalars contents =
        ap (λ c. c.directives) (all_made-append contents (map directive system_directives) (map missing_type system_scalars))
        ∙ kept-steps (λ c. c.directives) missing_type (λ t before. refl) system_scalars (all_made contents (map directive system_directives))

module _ (d : Document) (clean : IsClean d) (kept : first_fault (document_schema d) ≡ None) where
  abbrev contents : Contents
  contents = schema_contents (document_recorded d)

  own_defined : contents.directives ≡ defined (document_directives d)
  own_defined =
      let recorded = document_recorded d in
      kept-introspection (λ c. c.directives) (λ t before. refl) (λ f before. refl) (possible_contents recorded)
      ∙ kept-possible (λ c. c.directives) (λ i n before. refl) (types_in recorded.schema) (directive_contents recorded)
      ∙ same_directives (type_contents recorded) (all_made empty system_steps)
      (kept-steps (λ c. c.directives) type_step (λ t before. refl) (types_in recorded.schema) (system_contents recorded) ∙ system_same (roots_alone recorded) empty refl)
      (document_directives d)

  -- the definitions that stand in the document's view
  needed_defined : needed (ordered_metas d) (values_of (defined (document_directives d))) ≡ needed (ordered_metas d) (ordered_directives d)
  needed_defined =
      let stands = stands_for d clean kept in
      ap (λ l. needed (ordered_metas d) (values_of l)) (sym own_defined)
      ∙ sym (needed_same d contents clean stands (values_of contents.directives))
      ∙ directives_same d contents clean stands

  -- ---- the whole

  -- after the types
  abbrev pub typed : Options → Written
  typed o = record (begun o) {
    needs = needs_of (ordered_metas d);
    text = types_text (layout_of o) (map (viewed_type (document_choice o) (root_of Subscription d)) (ordered_metas d)) (map interfaces (ordered_types d));
  }

  pub types_done : (o : Options) (before after : Written) (types : List TypeParts) → before ≡ begun o → types ≡ ordered_types d → after ≡ with_types (root_of Subscription d) before types → after ≡ typed o
  types_done o before after types e p h =
      h ∙ ap (λ w. with_types (root_of Subscription d) w types) e ∙ ap (with_types (root_of Subscription d) (begun o)) p
      ∙ types_written (root_of Subscription d) (begun o) (ordered_types d)

  -- after the definitions of directives
  abbrev all_defined : Options → List Directive → Written
  all_defined o own = with_directives (ordered_metas d) (typed o) (values_of (defined own))

  pub text_is : (o : Options) (before after : Written) (own : List Directive) (query : Text) (mutation subscription : Option Text) → before ≡ typed o → own ≡ document_directives d
      → after ≡ with_directives (ordered_metas d) before (values_of (defined own)) → query ≡ query_root d → mutation ≡ root_of Mutation d → subscription ≡ root_of Subscription d
      → after.text ++ schema_text after.layout query mutation subscription ≡ canonical_text o d
  text_is o before after own query mutation subscription e p h q m s =
      let types : Text = (typed o).text in
      let block = λ (a : Text) (b c : Option Text). schema_text (layout_of o) a b c in
      ap (λ (w : Written). w.text ++ schema_text w.layout query mutation subscription) (h ∙ ap (λ w. with_directives (ordered_metas d) w (values_of (defined own))) e ∙ ap (all_defined o) p)
      ∙ ap (λ (ds : List Directive). (types ++ directives_text (layout_of o) (map viewed_directive ds)) ++ block query mutation subscription) needed_defined
      ∙ append_assoc types _ _
      ∙ ap (λ (t : Text). types ++ (directives_text (layout_of o) (map viewed_directive (needed (ordered_metas d) (ordered_directives d))) ++ t))
      (ap (λ a. block a mutation subscription) q ∙ ap (λ b. block (query_root d) b subscription) m ∙ ap (block (query_root d) (root_of Mutation d)) s)
