-- The names that each type implements, after its registration.
use Rattle.std.proofs.Common.{◌≡◌, Bool, true, false, cond, ◌||◌, List, [], ◌∷◌, ◌++◌, map, refl, ap, sym, subst, ◌∙◌, Some, None, if◌then◌else◌, append_assoc, append-nil}
use Rattle.std.specs.Prelude.{fold}
use Rattle.std.specs.declared.option.Option.{Option}
use Rattle.std.specs.Option.{option_map_or, unwrap_or}
use Rattle.std.specs.List.{AllByRecursion, IsDistinct, cons_option, filter_map}
use Rattle.std.specs.Str.{bytes_eq}
use Rattle.std.specs.Cmp.Lexicographic.{nat_list_eq_equiv}
use Rattle.std.proofs.lemmas.Map.Keys.{IsDistinct-head, IsDistinct-tail}
use Rattle.std.proofs.lemmas.Slice.Eq.{bytes_eq-Decides}
use Rattle.gql_registry_meta.specs.Parts.{Text, at_text, is_among, name_of}
use Rattle.gql_registry.specs.Registry.{Contents, with_name, implements_listed, with_all_implements}
use Rattle.gql_registry.specs.Additions.{made, all_made}
use Rattle.gql_registry.proofs.Changes.{all_at_once, listed-with_list, other-list}
use Rattle.gql_dynamic.specs.SchemaTypes.{TypeParts, type_name, type_meta, interfaces}
use Rattle.gql_check.specs.Recorded.{type_step}
use Rattle.gql_check.proofs.Keys.{AreFree, free_alike}
use Rattle.gql_check.proofs.RegistrySteps.{name_of-type_meta}
use Rattle.gql_text.specs.declared.document.Definition.{Definition}
use Rattle.gql_text.specs.declared.document.Definition.TheVariants as definition
use Rattle.gql_publish_document.specs.Types.{type_in, is_upload, is_root, scalar_parts, subscription_parts, object_parts}
use Rattle.gql_publish_document.specs.Document.{entry_of}
use Rattle.gql_publish_document.specs.Clean.{IsCleanDefinition}
use Rattle.gql_dynamic.specs.SchemaTypes as built

-- ---- names that are noted in turn

none_more : (names : List Text) (k : Text) (others : List Text) → AllByRecursion (λ n. bytes_eq k n ≡ false) names
    → AllByRecursion (λ n. is_among n others ≡ false) names → AllByRecursion (λ n. is_among n (k ∷ others) ≡ false) names
none_more [] k others apart h = tt
none_more (n ∷ ns) k others apart h = (ap (λ b. b || is_among n others) (nat_list_eq_equiv.symm n k ∙ apart.0) ∙ h.0, none_more ns k others apart.1 h.1)

are_free : (names others : List Text) → IsDistinct bytes_eq names → AllByRecursion (λ n. is_among n others ≡ false) names → AreFree names others
are_free [] others distinct h = tt
are_free (n ∷ ns) others distinct h = (
  h.0,
  are_free ns (n ∷ others) (IsDistinct-tail bytes_eq n ns distinct) (none_more ns n others (IsDistinct-head bytes_eq n ns distinct) h.1),
)

none_of_none : (names : List Text) → AllByRecursion (λ n. is_among n [] ≡ false) names
none_of_none [] = tt
none_of_none (n ∷ ns) = (refl, none_of_none ns)

or-swap : (a b c : Bool) → a || (b || c) ≡ b || (a || c)
or-swap true true c = refl
or-swap true false c = refl
or-swap false b c = refl

among-last : (m n : Text) (done : List Text) → is_among m (done ++ n ∷ []) ≡ is_among m (n ∷ done)
among-last m n [] = refl
among-last m n (x ∷ done) = ap (λ b. bytes_eq m x || b) (among-last m n done) ∙ or-swap (bytes_eq m x) (bytes_eq m n) (is_among m done)

fold-names : (names done : List Text) → AreFree names done → fold with_name done names ≡ done ++ names
fold-names [] done free = sym (append-nil done)
fold-names (n ∷ ns) done free =
    ap (λ b. fold with_name (if b then done else done ++ n ∷ []) ns) free.0
    ∙ fold-names ns (done ++ n ∷ []) (free_alike ns (n ∷ done) (done ++ n ∷ []) (λ m. among-last m n done) free.1)
    ∙ append_assoc done (n ∷ []) ns

distinct-noted : (names : List Text) → IsDistinct bytes_eq names → fold with_name [] names ≡ names
distinct-noted names distinct = fold-names names [] (are_free names [] distinct (none_of_none names))

-- ---- lists of types

not_same : (other n : Text) → bytes_eq other n ≡ false → other ≡ n → ⊥
not_same other n apart same =
    let yes : bytes_eq other n ≡ true = (bytes_eq-Decides other n).1 same in
    cc (sym yes ∙ apart)

listed-other : (n other : Text) (lists : List (Text × List Text)) (names : List Text) → bytes_eq other n ≡ false → implements_listed other (with_all_implements n lists names) ≡ implements_listed other lists
listed-other n other lists [] apart = refl
listed-other n other lists (i ∷ is) apart =
    ap (implements_listed other) (all_at_once n lists i is)
    ∙ ap (λ o. unwrap_or o []) (other-list n other lists (fold with_name (implements_listed n lists) (i ∷ is)) (not_same other n apart))

listed-own : (n : Text) (lists : List (Text × List Text)) (names : List Text) → implements_listed n lists ≡ [] → IsDistinct bytes_eq names → implements_listed n (with_all_implements n lists names) ≡ names
listed-own n lists [] none distinct = none
listed-own n lists (i ∷ is) none distinct =
    ap (implements_listed n) (all_at_once n lists i is)
    ∙ listed-with_list n lists (fold with_name (implements_listed n lists) (i ∷ is))
    ∙ ap (λ done. fold with_name done (i ∷ is)) none
    ∙ distinct-noted (i ∷ is) distinct

still_none : (t : TypeParts) (names : List Text) (before : Contents) → AllByRecursion (λ n. bytes_eq (type_name t) n ≡ false) names
    → AllByRecursion (λ n. implements_listed n before.implements ≡ []) names → AllByRecursion (λ n. implements_listed n (made before (type_step t)).implements ≡ []) names
still_none t [] before apart h = tt
still_none t (n ∷ ns) before apart h = (
  listed-other (name_of (type_meta t)) n before.implements (interfaces t) (ap (bytes_eq n) (name_of-type_meta t) ∙ nat_list_eq_equiv.symm n (type_name t) ∙ apart.0) ∙ h.0,
  still_none t ns before apart.1 h.1,
)

module _ (name : Text) where
  pub none_named : (types : List TypeParts) → AllByRecursion (λ n. bytes_eq name n ≡ false) (map type_name types) → at_text name (map entry_of types) ≡ None
  none_named [] apart = refl
  none_named (t ∷ ts) apart = ap (λ b. cond b (Some t) (at_text name (map entry_of ts))) apart.0 ∙ none_named ts apart.1

  -- each type has its list, and what stood under other names stays
  pub implements_added : (types : List TypeParts) (before : Contents) → IsDistinct bytes_eq (map type_name types)
      → AllByRecursion (λ n. implements_listed n before.implements ≡ []) (map type_name types) → AllByRecursion (λ t. IsDistinct bytes_eq (interfaces t)) types
      → implements_listed name (all_made before (map type_step types)).implements ≡ option_map_or interfaces (at_text name (map entry_of types)) (implements_listed name before.implements)
  unfolding all_made
  implements_added [] before distinct none each = refl
  implements_added (t ∷ ts) before distinct none each =
      implements_added ts (made before (type_step t)) (IsDistinct-tail bytes_eq (type_name t) (map type_name ts) distinct) (still_none t (map type_name ts) before (IsDistinct-head bytes_eq (type_name t) (map type_name ts) distinct) none.1) each.1
      ∙ by (bytes_eq name (type_name t)) refl
    where
      by : (b : Bool) → bytes_eq name (type_name t) ≡ b
          → option_map_or interfaces (at_text name (map entry_of ts)) (implements_listed name (made before (type_step t)).implements)
          ≡ option_map_or interfaces (cond b (Some t) (at_text name (map entry_of ts))) (implements_listed name before.implements)
      by true p =
          let same : name ≡ type_name t = (bytes_eq-Decides name (type_name t)).0 p in
          let apart = subst (λ k. AllByRecursion (λ n. bytes_eq k n ≡ false) (map type_name ts)) (sym same) (IsDistinct-head bytes_eq (type_name t) (map type_name ts) distinct) in
          ap (λ o. option_map_or interfaces o (implements_listed name (made before (type_step t)).implements)) (none_named ts apart)
          ∙ ap (λ n. implements_listed n (made before (type_step t)).implements) same
          ∙ ap (λ n. implements_listed (type_name t) (with_all_implements n before.implements (interfaces t))) (name_of-type_meta t)
          ∙ listed-own (type_name t) before.implements (interfaces t) none.0 each.0
      by false p = ap (option_map_or interfaces (at_text name (map entry_of ts)))
          (listed-other (name_of (type_meta t)) name before.implements (interfaces t) (ap (bytes_eq name) (name_of-type_meta t) ∙ p))

  -- where nothing stood before
  pub none_listed : (before : Contents) → before.implements ≡ [] → (names : List Text) → AllByRecursion (λ n. implements_listed n before.implements ≡ []) names
  none_listed before e [] = tt
  none_listed before e (n ∷ ns) = (ap (implements_listed n) e, none_listed before e ns)

-- ---- the types of a clean document

abbrev HasDistinct : Option TypeParts → Type 0
HasDistinct None = Unit {0}
HasDistinct (Some type) = IsDistinct bytes_eq (interfaces type)

distinct_in : (subscription : Option Text) (d : Definition) → IsCleanDefinition d → HasDistinct (type_in subscription d)
unfolding IsDistinct
distinct_in s (definition.SchemaBlock roots at) h = tt
distinct_in s (definition.Scalar head) h = by (is_upload head)
  where
    by : (b : Bool) → IsDistinct bytes_eq (interfaces (cond b built.upload (scalar_parts head)))
    by true = tt
    by false = tt
distinct_in s (definition.Object head implements fields) h = by (is_root s head.name)
  where
    by : (b : Bool) → IsDistinct bytes_eq (interfaces (cond b (subscription_parts head fields) (object_parts head implements fields)))
    by true = tt
    by false = h.1
distinct_in s (definition.Interface head implements fields) h = h.1
distinct_in s (definition.Union head members) h = tt
distinct_in s (definition.Enum head values) h = tt
distinct_in s (definition.Input head fields) h = tt
distinct_in s (definition.Directive directive) h = tt

distinct-cons : (o : Option TypeParts) (types : List TypeParts) → HasDistinct o → AllByRecursion (λ t. IsDistinct bytes_eq (interfaces t)) types → AllByRecursion (λ t. IsDistinct bytes_eq (interfaces t)) (cons_option o types)
distinct-cons None types h all = all
distinct-cons (Some t) types h all = (h, all)

-- no type declares an interface twice
pub distinct_interfaces : (subscription : Option Text) (ds : List Definition) → AllByRecursion IsCleanDefinition ds → AllByRecursion (λ t. IsDistinct bytes_eq (interfaces t)) (filter_map (type_in subscription) ds)
distinct_interfaces s [] h = tt
distinct_interfaces s (d ∷ ds) h = distinct-cons (type_in s d) (filter_map (type_in s) ds) (distinct_in s d h.0) (distinct_interfaces s ds h.1)
