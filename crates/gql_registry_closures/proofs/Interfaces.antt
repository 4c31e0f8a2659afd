-- Interfaces that are added to what is marked, over names.
use Rattle.std.proofs.Common.{arith, ◌⊎◌, inl, inr, ◌≡◌, ◌<◌, ◌≤◌, ◌+◌, ℕ, zero, suc, Bool, true, false, not, ◌&&◌, ◌||◌, List, [], ◌∷◌, ◌++◌, take, length, get_or, refl, ap, sym, ◌∙◌, subst, Option, Some, None}
use Rattle.std.proofs.lemmas.Bool.{false≢true, and_from, and_parts, or_cases}
use Rattle.std.proofs.lemmas.List.{get_or-map, take_more, length-map}
use Rattle.std.specs.List.{list_any, IsDistinct}
use Rattle.std.specs.Map.{keys_of, values_of}
use Rattle.std.specs.Option.{option_map_or}
use Rattle.std.specs.Str.{bytes_eq}
use Rattle.gql_registry_meta.specs.Parts.{Text, Meta, is_among}
use Rattle.gql_registry_meta.specs.Kinds.{is_shown}
use Rattle.gql_registry_closures.specs.Links.{Parts, plain_link, starts_of}
use Rattle.gql_registry_closures.specs.Reached.{LeadsTo, Reached, implementers_of, Joins, with_joined, with_all_joined, Visible}
use Rattle.gql_registry_closures.specs.Answers.{Tells}
use Rattle.gql_registry_closures.specs.Table.{place_of, places_of, one_or_none, all_implementers, all_rules, lists, IsTableOf}
use Rattle.gql_registry_closures.specs.Walk.{Among, is_marked, Chain, here, further, MarksExactly, MarksJoined, joins, steps_of, targets, JoinsUpTo, none_yet, one_more, JoinsAll, is_name_marked, next_of}
use Rattle.gql_registry_closures.specs.declared.table.Table.{Table}
use Rattle.gql_registry_closures.proofs.Places.{same_text, text_same, place_own, StandsAt, stands_at}
use Rattle.gql_registry_closures.proofs.Walks.{mapped_chain, marked_within}
use Rattle.gql_registry_closures.proofs.Chains.{steps, FromLinks, target_led, led_target, chain_reached, reached_chain, tells_by, tells_reached}

-- ---- names among names

module _ (p : Text → Bool) where
  pub some_passes : (xs : List Text) → list_any p xs ≡ true → (x : Text) × (is_among x xs ≡ true) × (p x ≡ true)
  some_passes [] e = absurd (false≢true e)
  some_passes (x ∷ xs) e = pick (some_passes xs) (or_cases (p x) (list_any p xs) e)
    where
      pick : (list_any p xs ≡ true → (y : Text) × (is_among y xs ≡ true) × (p y ≡ true)) → (p x ≡ true) ⊎ (list_any p xs ≡ true) → (y : Text) × (is_among y (x ∷ xs) ≡ true) × (p y ≡ true)
      pick ih (inl k) = (x, ap (λ b. b || is_among x xs) (text_same x x refl), k)
      pick ih (inr k) = let r = ih k in (r.0, or_right (bytes_eq r.0 x) (is_among r.0 xs) r.1, r.2)
        where
          or_right : (a b : Bool) → b ≡ true → (a || b) ≡ true
          or_right true b e = refl
          or_right false b e = e

  pub passes_some : (xs : List Text) (x : Text) → is_among x xs ≡ true → p x ≡ true → list_any p xs ≡ true
  passes_some [] x a e = absurd (false≢true a)
  passes_some (y ∷ ys) x a e = pick (passes_some ys x) (or_cases (bytes_eq x y) (is_among x ys) a)
    where
      pick : (is_among x ys ≡ true → p x ≡ true → list_any p ys ≡ true) → (bytes_eq x y ≡ true) ⊎ (is_among x ys ≡ true) → (p y || list_any p ys) ≡ true
      pick ih (inl k) = ap (λ b. b || list_any p ys) (ap p (sym (same_text x y k)) ∙ e)
      pick ih (inr k) = or_right (p y) (list_any p ys) (ih k e)
        where
          or_right : (a b : Bool) → b ≡ true → (a || b) ≡ true
          or_right true b e = refl
          or_right false b e = e

-- one of the places is marked where one of the names is
any_named : (names : List Text) (marks : List Bool) (others : List Text) → list_any (is_marked marks) (places_of names others) ≡ list_any (is_name_marked names marks) others
any_named names marks [] = refl
any_named names marks (name ∷ others) = pick (any_named names marks others) (place_of name names)
  where
    pick : list_any (is_marked marks) (places_of names others) ≡ list_any (is_name_marked names marks) others → (q : Option ℕ) → list_any (is_marked marks) (one_or_none (λ place. place) q ++ places_of names others) ≡ (option_map_or (λ place. is_marked marks place) q false || list_any (is_name_marked names marks) others)
    pick ih None = ih
    pick ih (Some x) = ap (λ b. is_marked marks x || b) ih

-- a name that is marked has a place that is marked
marked_place : (names : List Text) (marks : List Bool) (name : Text) → is_name_marked names marks name ≡ true → (x : ℕ) × (place_of name names ≡ Some x) × (is_marked marks x ≡ true)
marked_place names marks name e = pick (place_of name names) refl e
  where
    pick : (q : Option ℕ) → place_of name names ≡ q → option_map_or (λ place. is_marked marks place) q false ≡ true → (x : ℕ) × (place_of name names ≡ Some x) × (is_marked marks x ≡ true)
    pick None p d = absurd (false≢true d)
    pick (Some x) p d = (x, p, d)

named_at : (names : List Text) (marks : List Bool) (name : Text) (x : ℕ) → place_of name names ≡ Some x → is_name_marked names marks name ≡ is_marked marks x
named_at names marks name x e = ap (λ q. option_map_or (λ place. is_marked marks place) q false) e

not_true : (b : Bool) → not b ≡ true → b ≡ true → ⊥
not_true true e f = false≢true e
not_true false e f = false≢true f

not_from : (b : Bool) → (b ≡ true → ⊥) → not b ≡ true
not_from true f = absurd (f refl)
not_from false f = refl

-- ---- one interface

module _ (holds : ℕ → Bool) (types : List (Text × Meta)) (distinct : IsDistinct bytes_eq (keys_of types)) where
  abbrev names : List Text
  names = keys_of types

  abbrev rules : List (Option ℕ)
  rules = all_rules types

  abbrev implementers : List (List ℕ)
  implementers = all_implementers (keys_of types) types

  module _ (before : List Bool) (S : Text → Type 0) (tells : Tells (is_name_marked (keys_of types) before) S) (place : ℕ) (e : Text × Meta) (at : place_of e.0 (keys_of types) ≡ Some place) (stands : StandsAt types e.0 place e.1) where
    implementers_at : get_or implementers place [] ≡ places_of names (implementers_of e.1)
    implementers_at = get_or-map (λ t. places_of names (implementers_of t)) (values_of types) place e.1 [] stands.within ∙ ap (λ t. places_of names (implementers_of t)) (stands.value e.1)

    any_at : list_any (is_marked before) (get_or implementers place []) ≡ list_any (is_name_marked names before) (implementers_of e.1)
    any_at = ap (list_any (is_marked before)) implementers_at ∙ any_named names before (implementers_of e.1)

    joins_sound : joins holds rules implementers before place ≡ true → Joins S e.0 e.1 × (is_shown holds (get_or rules place None) ≡ true)
    joins_sound j =
        let parts = and_parts (not (is_marked before place) && is_shown holds (get_or rules place None)) (list_any (is_marked before) (get_or implementers place [])) j in
        let more = and_parts (not (is_marked before place)) (is_shown holds (get_or rules place None)) parts.0 in
        let some = some_passes (is_name_marked names before) (implementers_of e.1) (sym any_at ∙ parts.1) in (
          record {
            absent = λ s. not_true (is_marked before place) more.0 (sym (named_at names before e.0 place at) ∙ (tells e.0).1 s);
            implementer = some.0;
            possible = some.1;
            present = (tells some.0).0 some.2;
          },
          more.1,
        )

    joins_complete : Joins S e.0 e.1 → is_shown holds (get_or rules place None) ≡ true → joins holds rules implementers before place ≡ true
    joins_complete j s = and_from (not (is_marked before place) && is_shown holds (get_or rules place None)) (list_any (is_marked before) (get_or implementers place []))
        (and_from (not (is_marked before place)) (is_shown holds (get_or rules place None)) (not_from (is_marked before place) (λ d. j.absent ((tells e.0).0 (named_at names before e.0 place at ∙ d)))) s)
        (any_at ∙ passes_some (is_name_marked names before) (implementers_of e.1) j.implementer j.possible ((tells j.implementer).1 j.present))

    plain_led : LeadsTo holds (plain_link e.0 ∷ []) e.0
    plain_led = ap (λ b. b || false) (text_same e.0 e.0 refl)

    from_place : is_shown holds (get_or rules place None) ≡ true → (y : ℕ) → y ≡ place → FromLinks holds types (plain_link e.0 ∷ []) y
    from_place s y q = subst (FromLinks holds types (plain_link e.0 ∷ [])) (sym q) (led_target holds rules names (plain_link e.0 ∷ []) e.0 place plain_led at s)

    only_name : (name : Text) → LeadsTo holds (plain_link e.0 ∷ []) name → name ≡ e.0
    only_name name l = elim (or_cases (bytes_eq name e.0) false l) [ inl k ↦ same_text name e.0 k | inr k ↦ absurd (false≢true k) ]

    to_place : (y : ℕ) → FromLinks holds types (plain_link e.0 ∷ []) y → (y ≡ place) × (is_shown holds (get_or rules place None) ≡ true)
    to_place y m =
        let l = target_led holds rules names (plain_link e.0 ∷ []) y m in
        let q : y ≡ place = cc (sym l.place ∙ ap (λ n. place_of n names) (only_name l.name l.leads) ∙ at) in
        (q, ap (λ k. is_shown holds (get_or rules k None)) (sym q) ∙ l.shown)

    based : (x : ℕ) → Chain (steps holds types) (FromLinks holds types (plain_link e.0 ∷ [])) x → is_shown holds (get_or rules place None) ≡ true
    based x (here _ m) = (to_place x m).1
    based x (further a _ c m) = based a c

    abbrev Marked : ℕ → Type 0
    Marked x = (is_marked before x ≡ true) ⊎ ((joins holds rules implementers before place ≡ true) × Chain (steps holds types) (λ y. y ≡ place) x)

    sound : ((x : ℕ) → is_marked before x ≡ true → x < length names) → (x : ℕ) → Marked x → (name : Text) × (place_of name names ≡ Some x) × with_joined holds types S e name
    sound within x (inl d) =
        let own = place_own names x distinct (within x d) in
        (get_or names x [], own, inl ((tells (get_or names x [])).0 (named_at names before (get_or names x []) x own ∙ d)))
    sound within x (inr j) =
        let joined = joins_sound j.0 in
        let r = chain_reached holds types (plain_link e.0 ∷ []) x (mapped_chain (steps holds types) _ _ (from_place joined.1) x j.1) in
        (r.0, r.1, inr (joined.0, r.2))

    complete : (name : Text) → with_joined holds types S e name → (x : ℕ) × (place_of name names ≡ Some x) × Marked x
    complete name (inl s) = let m = marked_place names before name ((tells name).1 s) in (m.0, m.1, inl m.2)
    complete name (inr j) =
        let c = reached_chain holds types (plain_link e.0 ∷ []) name j.1 in
        (c.0, c.1, inr (joins_complete j.0 (based c.0 c.2), mapped_chain (steps holds types) _ _ (λ y m. (to_place y m).0) c.0 c.2))

    pub joined_tells : (new : List Bool) → ((x : ℕ) → is_marked before x ≡ true → x < length names) → MarksJoined (joins holds rules implementers before place) (steps holds types) place before new → Tells (is_name_marked names new) (with_joined holds types S e)
    joined_tells new within joined = tells_by holds types new Marked (with_joined holds types S e) joined (sound within) complete

-- ---- all interfaces

module _ (holds : ℕ → Bool) (types : List (Text × Meta)) (e : Text × Meta) where
  last_joined : (xs : List (Text × Meta)) (S : Text → Type 0) (name : Text) → with_all_joined holds types S (xs ++ e ∷ []) name → with_joined holds types (with_all_joined holds types S xs) e name
  unfolding with_all_joined
  last_joined [] S name h = h
  last_joined (x ∷ xs) S name h = last_joined xs (with_joined holds types S x) name h

  joined_last : (xs : List (Text × Meta)) (S : Text → Type 0) (name : Text) → with_joined holds types (with_all_joined holds types S xs) e name → with_all_joined holds types S (xs ++ e ∷ []) name
  unfolding with_all_joined
  joined_last [] S name h = h
  joined_last (x ∷ xs) S name h = joined_last xs (with_joined holds types S x) name h

none_joined : (holds : ℕ → Bool) (types : List (Text × Meta)) (S : Text → Type 0) (test : Text → Bool) → Tells test S → Tells test (with_all_joined holds types S [])
unfolding with_all_joined
none_joined holds types S test tells = tells

-- the entry at a place
entry_at : (types : List (Text × Meta)) (k : ℕ) → k < length types → (e : Text × Meta) × ((d : Text × Meta) → get_or types k d ≡ e)
entry_at [] k l = absurd (omega arith)
entry_at (t ∷ types) zero l = (t, λ d. refl)
entry_at (t ∷ types) (suc k) l = entry_at types k (omega arith)

module _ (holds : ℕ → Bool) (parts : Parts) (table : Table) (t : IsTableOf parts table) (distinct : IsDistinct bytes_eq (keys_of parts.types)) where
  -- by what the table stands for
  by_parts : (before new : List Bool) (place : ℕ) → MarksJoined (joins holds table.rules.items (lists table.implementers.items) before place) (steps_of holds table) place before new → MarksJoined (joins holds (all_rules parts.types) (all_implementers (keys_of parts.types) parts.types) before place) (steps holds parts.types) place before new
  by_parts before new place j =
      let rules = subst (λ r. MarksJoined (joins holds r (lists table.implementers.items) before place) (next_of holds r (lists table.edges.items)) place before new) t.rules j in
      let edges = subst (λ es. MarksJoined (joins holds (all_rules parts.types) (lists table.implementers.items) before place) (next_of holds (all_rules parts.types) es) place before new) t.edges rules in
      subst (λ is. MarksJoined (joins holds (all_rules parts.types) is before place) (steps holds parts.types) place before new) t.implementers edges

  -- the entry of a type, at the place of its name
  entry_place : (k : ℕ) (e : Text × Meta) → k < length parts.types → ((d : Text × Meta) → get_or parts.types k d ≡ e) → (place_of e.0 (keys_of parts.types) ≡ Some k) × StandsAt parts.types e.0 k e.1
  entry_place k e l is =
      let name : get_or (keys_of parts.types) k [] ≡ e.0 = get_or-map (λ (x : Text × Meta). x.0) parts.types k e [] l ∙ ap (λ (x : Text × Meta). x.0) (is e) in
      let at : place_of e.0 (keys_of parts.types) ≡ Some k = subst (λ n. place_of n (keys_of parts.types) ≡ Some k) name (place_own (keys_of parts.types) k distinct (omega (arith, l, length-map parts.types (λ (x : Text × Meta). x.0)))) in
      let s = stands_at parts.types e.0 k at in
      let type : s.0 ≡ e.1 = sym (s.1.value e.1) ∙ get_or-map (λ (x : Text × Meta). x.1) parts.types k e e.1 l ∙ ap (λ (x : Text × Meta). x.1) (is e) in
      (at, subst (StandsAt parts.types e.0 k) type s.1)

  last_tells : (S : Text → Type 0) (k : ℕ) (e : Text × Meta) (test : Text → Bool) → k < length parts.types → ((d : Text × Meta) → get_or parts.types k d ≡ e) → Tells test (with_joined holds parts.types (with_all_joined holds parts.types S (take k parts.types)) e) → Tells test (with_all_joined holds parts.types S (take (k + 1) parts.types))
  last_tells S k e test l is tells name =
      let seam : take (k + 1) parts.types ≡ take k parts.types ++ e ∷ [] = take_more parts.types k e l ∙ ap (λ x. take k parts.types ++ x ∷ []) (is e) in (
        λ d. subst (λ xs. with_all_joined holds parts.types S xs name) (sym seam) (joined_last holds parts.types e (take k parts.types) S name ((tells name).0 d)),
        λ h. (tells name).1 (last_joined holds parts.types e (take k parts.types) S name (subst (λ xs. with_all_joined holds parts.types S xs name) seam h)),
      )

  joined_up_to : (S : Text → Type 0) (old : List Bool) → length old ≡ length parts.types → Tells (is_name_marked (keys_of parts.types) old) S → (count : ℕ) (new : List Bool) → count ≤ length parts.types → JoinsUpTo holds table old count new → Tells (is_name_marked (keys_of parts.types) new) (with_all_joined holds parts.types S (take count parts.types)) × (length new ≡ length parts.types)
  joined_up_to S old size tells count new l (none_yet _ _ z q) = (
    subst (λ k. Tells (is_name_marked (keys_of parts.types) new) (with_all_joined holds parts.types S (take k parts.types))) (sym z)
        (subst (λ ms. Tells (is_name_marked (keys_of parts.types) ms) (with_all_joined holds parts.types S [])) (sym q) (none_joined holds parts.types S (is_name_marked (keys_of parts.types) old) tells)),
    ap length q ∙ size,
  )
  joined_up_to S old size tells count new l (one_more place _ before _ c h same j) = go (joined_up_to S old size tells place before (omega (arith, c, l)) h) (entry_at parts.types place (omega (arith, c, l)))
    where
      go : Tells (is_name_marked (keys_of parts.types) before) (with_all_joined holds parts.types S (take place parts.types)) × (length before ≡ length parts.types) → (e : Text × Meta) × ((d : Text × Meta) → get_or parts.types place d ≡ e) → Tells (is_name_marked (keys_of parts.types) new) (with_all_joined holds parts.types S (take count parts.types)) × (length new ≡ length parts.types)
      go ih e =
          let k : place < length parts.types = omega (arith, c, l) in
          let own = entry_place place e.0 k e.1 in
          let within : (x : ℕ) → is_marked before x ≡ true → x < length (keys_of parts.types) = λ x d. omega (arith, marked_within before x d, ih.1, length-map parts.types (λ (y : Text × Meta). y.0)) in
          let now = joined_tells holds parts.types distinct before (with_all_joined holds parts.types S (take place parts.types)) ih.0 place e.0 own.0 own.1 new within (by_parts before new place j) in
          (subst (λ n. Tells (is_name_marked (keys_of parts.types) new) (with_all_joined holds parts.types S (take n parts.types))) (sym c) (last_tells S place e.0 (is_name_marked (keys_of parts.types) new) k e.1 now), same ∙ ih.1)

  -- marked are, in the end, the visible types
  pub all_joined : (old new : List Bool) → length old ≡ length parts.types → Tells (is_name_marked (keys_of parts.types) old) (Reached holds parts.types (starts_of parts)) → JoinsAll holds table old new → Tells (is_name_marked (keys_of parts.types) new) (Visible holds parts)
  all_joined old new size tells joined name =
      let r = (joined_up_to (Reached holds parts.types (starts_of parts)) old size tells (length old) new (omega (arith, size)) joined).0 name in
      let whole : take (length old) parts.types ≡ parts.types = ap (λ n. take n parts.types) size ∙ take_whole parts.types in (
        λ d. subst (λ xs. with_all_joined holds parts.types (Reached holds parts.types (starts_of parts)) xs name) whole (r.0 d),
        λ h. r.1 (subst (λ xs. with_all_joined holds parts.types (Reached holds parts.types (starts_of parts)) xs name) (sym whole) h),
      )
    where
      take_whole : (xs : List (Text × Meta)) → take (length xs) xs ≡ xs
      take_whole [] = refl
      take_whole (x ∷ xs) = ap (λ l. x ∷ l) (take_whole xs)

  -- and at first those that the starts reach
  pub starts_reached : (marks : List Bool) → MarksExactly marks (Chain (steps_of holds table) (λ x. Among x (targets holds table.rules.items table.starts.items))) → Tells (is_name_marked (keys_of parts.types) marks) (Reached holds parts.types (starts_of parts))
  starts_reached marks exact =
      let rules = subst (λ r. MarksExactly marks (Chain (next_of holds r (lists table.edges.items)) (λ x. Among x (targets holds r table.starts.items)))) t.rules exact in
      let edges = subst (λ es. MarksExactly marks (Chain (next_of holds (all_rules parts.types) es) (λ x. Among x (targets holds (all_rules parts.types) table.starts.items)))) t.edges rules in
      let starts = subst (λ ss. MarksExactly marks (Chain (steps holds parts.types) (λ x. Among x (targets holds (all_rules parts.types) ss)))) t.starts edges in
      tells_reached holds parts.types (starts_of parts) marks starts
