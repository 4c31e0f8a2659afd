-- What is left where the types that nothing leads to are removed: each that is left is needed still.
use Rattle.std.proofs.Common.{◌⊎◌, inl, inr, ◌≡◌, Bool, true, false, ◌&&◌, ◌||◌, cond, List, [], ◌∷◌, ◌++◌, map, flat_map, filter, refl, ap, sym, ◌∙◌, Some, None}
use Rattle.std.proofs.lemmas.Bool.{false≢true, or_cases}
use Rattle.std.proofs.lemmas.List.Folds.{list_any-append}
use Rattle.std.proofs.lemmas.Slice.Eq.{bytes_eq-Decides}
use Rattle.std.specs.List.{AllByRecursion}
use Rattle.std.specs.Map.{values_of}
use Rattle.std.specs.Str.{bytes_eq}
use Rattle.gql_registry_meta.specs.Parts.{Text, at_text, is_among, Meta}
use Rattle.gql_registry_closures.specs.Links.{Link, Parts, plain_link, has_key, keyed_links, directive_links, starts_of}
use Rattle.gql_registry_closures.specs.Reached.{every_rule, Used, Needed, LeadsTo, IsShownType, Reached, at_start, onward, names_led_to, is_open, is_system_name}
use Rattle.gql_registry_closures.specs.Answers.{Tells}
use Rattle.gql_registry_closures.proofs.Places.{same_text}
use Rattle.gql_registry_closures.proofs.Kept.{or_left, or_right}

-- ---- entries that pass a test of their names

module _ {X : Type 0} (test : Text → Bool) (name : Text) (passes : test name ≡ true) where
  -- what stands under a name that passes
  pub stays : (es : List (Text × X)) → at_text name (filter (λ entry. test entry.0) es) ≡ at_text name es
  stays [] = refl
  stays (e ∷ es) = by (test e.0) (bytes_eq name e.0) refl refl (stays es)
    where
      by : (b s : Bool) → test e.0 ≡ b → bytes_eq name e.0 ≡ s → at_text name (filter (λ entry. test entry.0) es) ≡ at_text name es
          → at_text name (cond b (e ∷ filter (λ entry. test entry.0) es) (filter (λ entry. test entry.0) es)) ≡ at_text name (e ∷ es)
      by true s t p ih = ap (λ o. cond (bytes_eq name e.0) (Some e.1) o) ih
      by false true t p ih = absurd (false≢true (sym t ∙ ap test (sym (same_text name e.0 p)) ∙ passes))
      by false false t p ih = ih ∙ sym (ap (λ s. cond s (Some e.1) (at_text name es)) p)

-- the names that entries lead to as keyed types, in front of those of the others
first_keyed : (e : Text × Meta) (es : List (Text × Meta)) (b : Bool) → has_key e.1 ≡ b
    → names_led_to every_rule (flat_map keyed_links (e ∷ es)) ≡ cond b (e.0 ∷ names_led_to every_rule (flat_map keyed_links es)) (names_led_to every_rule (flat_map keyed_links es))
first_keyed e es true k = ap (λ b. names_led_to every_rule (cond b (plain_link e.0 ∷ []) [] ++ flat_map keyed_links es)) k
first_keyed e es false k = ap (λ b. names_led_to every_rule (cond b (plain_link e.0 ∷ []) [] ++ flat_map keyed_links es)) k

module _ (test : Text → Bool) (name : Text) (passes : test name ≡ true) where
  -- a keyed type of a name that passes is a start still
  pub keyed_stays : (es : List (Text × Meta)) → LeadsTo every_rule (flat_map keyed_links es) name → LeadsTo every_rule (flat_map keyed_links (filter (λ entry. test entry.0) es)) name
  keyed_stays [] h = h
  keyed_stays (e ∷ es) h = by (has_key e.1) (test e.0) refl refl (keyed_stays es) h
    where
      rest : List (Text × Meta)
      rest = filter (λ entry. test entry.0) es

      Later : Type 0
      Later = LeadsTo every_rule (flat_map keyed_links es) name → LeadsTo every_rule (flat_map keyed_links rest) name

      keyed : (t : Bool) → Later → has_key e.1 ≡ true → test e.0 ≡ t → (bytes_eq name e.0 ≡ true) ⊎ (is_among name (names_led_to every_rule (flat_map keyed_links es)) ≡ true)
          → LeadsTo every_rule (flat_map keyed_links (cond t (e ∷ rest) rest)) name
      keyed true later k t (inl s) = ap (is_among name) (first_keyed e rest true k) ∙ or_left (bytes_eq name e.0) (is_among name (names_led_to every_rule (flat_map keyed_links rest))) s
      keyed true later k t (inr r) = ap (is_among name) (first_keyed e rest true k) ∙ or_right (bytes_eq name e.0) (is_among name (names_led_to every_rule (flat_map keyed_links rest))) (later r)
      keyed false later k t (inl s) = absurd (false≢true (sym t ∙ ap test (sym (same_text name e.0 s)) ∙ passes))
      keyed false later k t (inr r) = later r

      by : (b t : Bool) → has_key e.1 ≡ b → test e.0 ≡ t → Later → LeadsTo every_rule (flat_map keyed_links (e ∷ es)) name → LeadsTo every_rule (flat_map keyed_links (cond t (e ∷ rest) rest)) name
      by true t k p later l = keyed t later k p (or_cases (bytes_eq name e.0) (is_among name (names_led_to every_rule (flat_map keyed_links es))) (sym (ap (is_among name) (first_keyed e es true k)) ∙ l))
      by false true k p later l = ap (is_among name) (first_keyed e rest false k) ∙ later (sym (ap (is_among name) (first_keyed e es false k)) ∙ l)
      by false false k p later l = later (sym (ap (is_among name) (first_keyed e es false k)) ∙ l)

-- ---- chains

led_append : (xs ys : List Link) → names_led_to every_rule (xs ++ ys) ≡ names_led_to every_rule xs ++ names_led_to every_rule ys
led_append [] ys = refl
led_append (x ∷ xs) ys = by (is_open every_rule x) (led_append xs ys)
  where
    by : (b : Bool) → names_led_to every_rule (xs ++ ys) ≡ names_led_to every_rule xs ++ names_led_to every_rule ys
        → map (λ (link : Link). link.name) (cond b (x ∷ filter (is_open every_rule) (xs ++ ys)) (filter (is_open every_rule) (xs ++ ys)))
        ≡ map (λ (link : Link). link.name) (cond b (x ∷ filter (is_open every_rule) xs) (filter (is_open every_rule) xs)) ++ names_led_to every_rule ys
    by true h = ap (λ l. x.name ∷ l) h
    by false h = h

-- a start among the first of two lists of links, or among the second
leads_first : (xs ys : List Link) (name : Text) → LeadsTo every_rule xs name → LeadsTo every_rule (xs ++ ys) name
leads_first xs ys name h =
    ap (is_among name) (led_append xs ys) ∙ list_any-append (bytes_eq name) (names_led_to every_rule xs) (names_led_to every_rule ys)
    ∙ or_left (is_among name (names_led_to every_rule xs)) (is_among name (names_led_to every_rule ys)) h

leads_second : (xs ys : List Link) (name : Text) → LeadsTo every_rule ys name → LeadsTo every_rule (xs ++ ys) name
leads_second xs ys name h =
    ap (is_among name) (led_append xs ys) ∙ list_any-append (bytes_eq name) (names_led_to every_rule xs) (names_led_to every_rule ys)
    ∙ or_right (is_among name (names_led_to every_rule xs)) (is_among name (names_led_to every_rule ys)) h

leads_cases : (xs ys : List Link) (name : Text) → LeadsTo every_rule (xs ++ ys) name → LeadsTo every_rule xs name ⊎ LeadsTo every_rule ys name
leads_cases xs ys name h =
    or_cases (is_among name (names_led_to every_rule xs)) (is_among name (names_led_to every_rule ys))
    (sym (ap (is_among name) (led_append xs ys) ∙ list_any-append (bytes_eq name) (names_led_to every_rule xs) (names_led_to every_rule ys)) ∙ h)

-- the parts with those of their types alone whose names pass a test
abbrev pub parts_that : (Text → Bool) → Parts → Parts
parts_that test parts = record parts { types = filter (λ entry. test entry.0) parts.types }

module _ (parts : Parts) (test : Text → Bool) (tells : Tells test (Needed parts)) where
  used_passes : (name : Text) → Used parts name → test name ≡ true
  used_passes name u = (tells name).1 (inr u)

  start_stays : (name : Text) → test name ≡ true → LeadsTo every_rule (starts_of parts) name → LeadsTo every_rule (starts_of (parts_that test parts)) name
  start_stays name p h =
      let d = flat_map directive_links (values_of parts.directives) in
      let r = map plain_link parts.roots in
      let k = flat_map keyed_links parts.types in
      let left = flat_map keyed_links (filter (λ (entry : Text × Meta). test entry.0) parts.types) in
      elim (leads_cases d (r ++ k) name h) [
        | inl x ↦ leads_first d (r ++ left) name x
        | inr y ↦ leads_second d (r ++ left) name (elim (leads_cases r k name y) [
          | inl x ↦ leads_first r left name x
          | inr z ↦ leads_second r left name (keyed_stays test name p parts.types z)
        ])
      ]

  shown_stays : (name : Text) → test name ≡ true → IsShownType every_rule parts.types name → IsShownType every_rule (filter (λ entry. test entry.0) parts.types) name
  shown_stays name p s = record { type = s.type; stands = stays test name p parts.types ∙ s.stands; shown = s.shown }

  -- a type that is used is used still
  pub used_still : (name : Text) → Used parts name → Used (parts_that test parts) name
  used_still name (at_start _ leads shown) =
      let p = used_passes name (at_start name leads shown) in
      at_start name (start_stays name p leads) (shown_stays name p shown)
  used_still name (onward from type _ before stands leads shown) =
      let p = used_passes name (onward from type name before stands leads shown) in
      onward from type name (used_still from before) (stays test from (used_passes from before) parts.types ∙ stands) leads (shown_stays name p shown)

  -- and what was kept is kept still
  pub kept_still : (name : Text) → test name ≡ true → Needed (parts_that test parts) name
  kept_still name p = elim ((tells name).0 p) [ inl s ↦ inl s | inr u ↦ inr (used_still name u) ]
