-- What additions to a registry keep, and the directives that stand after them.
use Rattle.std.proofs.Common.{◌≡◌, Bool, true, false, cond, List, [], ◌∷◌, ◌++◌, map, flat_map, refl, ap, sym, subst, ◌∙◌, Some, None}
use Rattle.std.specs.declared.option.Option.{Option}
use Rattle.std.specs.declared.cmp.Ordering.{Ordering}
use Rattle.std.specs.declared.cmp.Ordering.TheVariants.{Less, Equal, Greater}
use Rattle.std.specs.Option.{option_map_or, option_or}
use Rattle.std.specs.List.{AllByRecursion, IsDistinct}
use Rattle.std.specs.Str.{bytes_eq}
use Rattle.std.specs.BTreeMap.{insert_entry}
use Rattle.std.specs.Ordering.{match_ordering, is_eq}
use Rattle.std.proofs.lemmas.Map.Keys.{IsDistinct-head, IsDistinct-tail}
use Rattle.std.proofs.lemmas.Map.Text.{is_eq-slice_cmp}
use Rattle.std.proofs.lemmas.Slice.Eq.{bytes_eq-Decides}
use Rattle.gql_registry_meta.specs.Parts.{Text, text_cmp, at_text, Directive}
use Rattle.gql_registry_meta.specs.declared.introspection_mode.IntrospectionMode.{IntrospectionMode}
use Rattle.gql_registry_meta.specs.declared.introspection_mode.IntrospectionMode.TheVariants.{Enabled}
use Rattle.gql_registry.specs.Registry.{Contents}
use Rattle.gql_registry.specs.Additions.{Step, directive, missing_type, query_field, possible_type, made, all_made, system_steps, introspection_steps}
use Rattle.gql_registry.specs.System.{system_directives, system_scalars}
use Rattle.gql_registry.specs.Introspection.{introspection_types, query_fields}
use Rattle.gql_dynamic_types.specs.Types.{ObjectParts}
use Rattle.gql_dynamic.specs.SchemaTypes.{TypeParts, object_of}
use Rattle.gql_check.specs.Recorded.{Recorded, types_in, type_step, object_steps, possible_steps, telling_steps, roots_alone, system_contents, type_contents, directive_contents, possible_contents, schema_contents}
use Rattle.gql_check.proofs.RegistrySteps.{all_made-append}
use Rattle.gql_publish_document.specs.Standing.{by_name}

-- ---- what steps keep

module _ {X : Type 0} (of : Contents → X) where
  -- steps of one kind
  pub kept-steps : {A : Type 0} (step : A → Step) → ((a : A) (before : Contents) → of (made before (step a)) ≡ of before)
      → (items : List A) (before : Contents) → of (all_made before (map step items)) ≡ of before
  unfolding all_made
  kept-steps step same [] before = refl
  kept-steps step same (a ∷ items) before = kept-steps step same items (made before (step a)) ∙ same a before

  -- the possible types of interfaces
  pub kept-possible : ((i n : Text) (before : Contents) → of (made before (possible_type i n)) ≡ of before)
      → (types : List TypeParts) (before : Contents) → of (all_made before (flat_map possible_steps types)) ≡ of before
  unfolding all_made
  kept-possible same [] before = refl
  kept-possible same (t ∷ ts) before = by (object_of t) (kept-possible same ts)
    where
      rest : List Step
      rest = flat_map possible_steps ts

      by : (o : Option ObjectParts) → ((before : Contents) → of (all_made before rest) ≡ of before) → of (all_made before (option_map_or object_steps o [] ++ rest)) ≡ of before
      by None later = later before
      by (Some o) later = ap of (all_made-append before (object_steps o) rest)
          ∙ later (all_made before (object_steps o))
          ∙ kept-steps (λ i. possible_type i o.name) (λ i before. same i o.name before) o.implements before

  -- what introspection adds
  pub kept-introspection : ((t : _) (before : Contents) → of (made before (missing_type t)) ≡ of before) → ((f : _) (before : Contents) → of (made before (query_field f)) ≡ of before)
      → (before : Contents) → of (all_made before introspection_steps) ≡ of before
  kept-introspection types fields before = ap of (all_made-append before (map missing_type introspection_types) (map query_field query_fields))
      ∙ kept-steps query_field fields query_fields (all_made before (map missing_type introspection_types))
      ∙ kept-steps missing_type types introspection_types before

  -- what every schema has
  pub kept-system : ((d : Directive) (before : Contents) → of (made before (directive d)) ≡ of before) → ((t : _) (before : Contents) → of (made before (missing_type t)) ≡ of before)
      → (before : Contents) → of (all_made before system_steps) ≡ of before
  kept-system directives types before = ap of (all_made-append before (map directive system_directives) (map missing_type system_scalars))
      ∙ kept-steps missing_type types system_scalars (all_made before (map directive system_directives))
      ∙ kept-steps directive directives system_directives before

-- ---- the roots and the mode

-- the names of the roots, and whether a schema says what it has
abbrev pub beside : Contents → Text × Option Text × Option Text × IntrospectionMode
beside contents = (contents.query, contents.mutation, contents.subscription, contents.introspection)

-- no addition changes them
pub beside_schema : (recorded : Recorded) → recorded.is_disabled ≡ false
    → beside (schema_contents recorded) ≡ (recorded.schema.query, recorded.schema.mutation, recorded.schema.subscription, Enabled)
beside_schema recorded e =
    ap (λ b. beside (all_made (possible_contents recorded) (telling_steps b))) e
    ∙ kept-introspection beside (λ t before. refl) (λ f before. refl) (possible_contents recorded)
    ∙ kept-possible beside (λ i n before. refl) (types_in recorded.schema) (directive_contents recorded)
    ∙ kept-steps beside directive (λ d before. refl) recorded.directives (type_contents recorded)
    ∙ kept-steps beside type_step (λ t before. refl) (types_in recorded.schema) (system_contents recorded)
    ∙ kept-system beside (λ d before. refl) (λ t before. refl) (roots_alone recorded)
    ∙ ap (λ b. (recorded.schema.query, recorded.schema.mutation, recorded.schema.subscription, Rattle.gql_check.specs.Recorded.mode b)) e

-- ---- what stands under a name

apart_from : (name m k : Text) → bytes_eq m k ≡ true → bytes_eq name m ≡ false → bytes_eq name k ≡ false
apart_from name m k e a = subst (λ t. bytes_eq name t ≡ false) ((bytes_eq-Decides m k).0 e) a

module _ {X : Type 0} (name : Text) where
  pub with_apart : (m : Text) (es : List (Text × X)) (w : X) → bytes_eq name m ≡ false → at_text name (insert_entry text_cmp es m w) ≡ at_text name es
  with_apart m [] w a = ap (λ b. cond b (Some w) None) a
  with_apart m (e ∷ es) w a = by (text_cmp m e.0) refl (with_apart m es w a)
    where
      by : (o : Ordering) → text_cmp m e.0 ≡ o → at_text name (insert_entry text_cmp es m w) ≡ at_text name es → at_text name (match_ordering o ((m, w) ∷ e ∷ es) ((e.0, w) ∷ es) (e ∷ insert_entry text_cmp es m w)) ≡ at_text name (e ∷ es)
      by Less p rest = ap (λ b. cond b (Some w) (at_text name (e ∷ es))) a
      by Equal p rest =
          let away = apart_from name m e.0 (sym (is_eq-slice_cmp m e.0) ∙ ap is_eq p) a in
          ap (λ b. cond b (Some w) (at_text name es)) away ∙ sym (ap (λ b. cond b (Some e.1) (at_text name es)) away)
      by Greater p rest = ap (λ found. cond (bytes_eq name e.0) (Some e.1) found) rest

  pub with_here : (m : Text) (es : List (Text × X)) (w : X) → bytes_eq name m ≡ true → at_text name (insert_entry text_cmp es m w) ≡ Some w
  with_here m [] w a = ap (λ b. cond b (Some w) None) a
  with_here m (e ∷ es) w a = by (text_cmp m e.0) refl (with_here m es w a)
    where
      same : (b : Bool) → bytes_eq m e.0 ≡ b → bytes_eq name e.0 ≡ b
      same b p = ap (λ t. bytes_eq t e.0) ((bytes_eq-Decides name m).0 a) ∙ p

      by : (o : Ordering) → text_cmp m e.0 ≡ o → at_text name (insert_entry text_cmp es m w) ≡ Some w → at_text name (match_ordering o ((m, w) ∷ e ∷ es) ((e.0, w) ∷ es) (e ∷ insert_entry text_cmp es m w)) ≡ Some w
      by Less p rest = ap (λ b. cond b (Some w) (at_text name (e ∷ es))) a
      by Equal p rest = ap (λ b. cond b (Some w) (at_text name es)) (same true (sym (is_eq-slice_cmp m e.0) ∙ ap is_eq p))
      by Greater p rest = ap (λ b. cond b (Some e.1) (at_text name (insert_entry text_cmp es m w))) (same false (sym (is_eq-slice_cmp m e.0) ∙ ap is_eq p)) ∙ rest

-- ---- directives

none_under : (name : Text) (ds : List Directive) → AllByRecursion (λ n. bytes_eq name n ≡ false) (map (λ d. d.name) ds) → at_text name (by_name ds) ≡ None
none_under name [] apart = refl
none_under name (d ∷ ds) apart = ap (λ b. cond b (Some d) (at_text name (by_name ds))) apart.0 ∙ none_under name ds apart.1

module _ (name : Text) where
  -- added definitions of different names stand before those that were there
  pub directives_added : (ds : List Directive) (before : Contents) → IsDistinct bytes_eq (map (λ d. d.name) ds)
      → at_text name (all_made before (map directive ds)).directives ≡ option_or (at_text name (by_name ds)) (at_text name before.directives)
  unfolding all_made
  directives_added [] before distinct = refl
  directives_added (d ∷ ds) before distinct = directives_added ds (made before (directive d)) (IsDistinct-tail bytes_eq d.name (map (λ d. d.name) ds) distinct) ∙ by (bytes_eq name d.name) refl
    where
      by : (b : Bool) → bytes_eq name d.name ≡ b → option_or (at_text name (by_name ds)) (at_text name (made before (directive d)).directives) ≡ option_or (cond b (Some d) (at_text name (by_name ds))) (at_text name before.directives)
      by true p =
          let none : at_text name (by_name ds) ≡ None = none_under name ds (subst (λ k. AllByRecursion (λ n. bytes_eq k n ≡ false) (map (λ d. d.name) ds)) (sym ((bytes_eq-Decides name d.name).0 p)) (IsDistinct-head bytes_eq d.name (map (λ d. d.name) ds) distinct)) in
          ap (λ o. option_or o (at_text name (made before (directive d)).directives)) none
          ∙ with_here name d.name before.directives d p
      by false p = ap (option_or (at_text name (by_name ds))) (with_apart name d.name before.directives d p)
