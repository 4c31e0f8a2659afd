-- A walk over the table is a chain over names.
use Rattle.std.proofs.Common.{◌⊎◌, inl, inr, ◌≡◌, ℕ, Bool, true, false, ◌||◌, cond, List, [], ◌∷◌, ◌++◌, map, filter, get_or, refl, ap, sym, ◌∙◌, subst, Option, Some, None}
use Rattle.std.proofs.lemmas.Bool.{false≢true, and_from, and_parts, or_cases}
use Rattle.std.proofs.lemmas.List.{get_or-map}
use Rattle.std.specs.Map.{keys_of, values_of}
use Rattle.std.specs.Option.{option_map_or}
use Rattle.std.specs.Str.{bytes_eq}
use Rattle.gql_registry_meta.specs.Parts.{Text, Meta, at_text, is_among}
use Rattle.gql_registry_meta.specs.Kinds.{visible_of, is_shown}
use Rattle.gql_registry_closures.specs.Links.{Link, links_of}
use Rattle.gql_registry_closures.specs.Reached.{is_open, names_led_to, LeadsTo, IsShownType, Reached, at_start, onward}
use Rattle.gql_registry_closures.specs.Answers.{Tells}
use Rattle.gql_registry_closures.specs.Table.{place_of, edge_to, one_or_none, edges_of, all_edges, all_rules}
use Rattle.gql_registry_closures.specs.Walk.{passes, targets, next_of, Among, is_marked, Chain, here, further, MarksExactly, is_name_marked}
use Rattle.gql_registry_closures.specs.declared.edges.Edge.{Edge}
use Rattle.gql_registry_closures.proofs.Places.{same_text, text_same, place_same, StandsAt, stands_at, has_place}

-- ---- links

led-by : (name : Text) (link : Link) (led : List Text) (b : Bool) → is_among name (map (λ (l : Link). l.name) (cond b (link ∷ []) []) ++ led) ≡ true → ((b ≡ true) × (name ≡ link.name)) ⊎ (is_among name led ≡ true)
led-by name link led true e = elim (or_cases (bytes_eq name link.name) (is_among name led) e) [ inl k ↦ inl (refl, same_text name link.name k) | inr k ↦ inr k ]
led-by name link led false e = inr e

led-cond : (holds : ℕ → Bool) (link : Link) (links : List Link) (b : Bool) → is_open holds link ≡ b → names_led_to holds (link ∷ links) ≡ map (λ (l : Link). l.name) (cond b (link ∷ []) []) ++ names_led_to holds links
led-cond holds link links true e = ap (λ b. map (λ (l : Link). l.name) (cond b (link ∷ filter (is_open holds) links) (filter (is_open holds) links))) e
led-cond holds link links false e = ap (λ b. map (λ (l : Link). l.name) (cond b (link ∷ filter (is_open holds) links) (filter (is_open holds) links))) e

-- where a list of links leads
led_split : (holds : ℕ → Bool) (link : Link) (links : List Link) (name : Text) → LeadsTo holds (link ∷ links) name → ((is_open holds link ≡ true) × (name ≡ link.name)) ⊎ LeadsTo holds links name
led_split holds link links name e = led-by name link (names_led_to holds links) (is_open holds link) (sym (ap (is_among name) (led-cond holds link links (is_open holds link) refl)) ∙ e)

led_first : (holds : ℕ → Bool) (link : Link) (links : List Link) → is_open holds link ≡ true → LeadsTo holds (link ∷ links) link.name
led_first holds link links o = ap (is_among link.name) (led-cond holds link links true o) ∙ ap (λ b. b || is_among link.name (names_led_to holds links)) (text_same link.name link.name refl)

or_more : (a b : Bool) → b ≡ true → (a || b) ≡ true
or_more true b e = refl
or_more false b e = e

led-later : (name : Text) (link : Link) (led : List Text) (b : Bool) → is_among name led ≡ true → is_among name (map (λ (l : Link). l.name) (cond b (link ∷ []) []) ++ led) ≡ true
led-later name link led true e = or_more (bytes_eq name link.name) (is_among name led) e
led-later name link led false e = e

led_more : (holds : ℕ → Bool) (link : Link) (links : List Link) (name : Text) → LeadsTo holds links name → LeadsTo holds (link ∷ links) name
led_more holds link links name e = ap (is_among name) (led-cond holds link links (is_open holds link) refl) ∙ led-later name link (names_led_to holds links) (is_open holds link) e

-- ---- edges

module _ (holds : ℕ → Bool) (rules : List (Option ℕ)) where
  target-by : (edge : Edge) (rest : List ℕ) (edges : List Edge) (y : ℕ) (b : Bool) → rest ≡ targets holds rules edges → Among y (map (λ (e : Edge). e.to) (cond b (edge ∷ filter (passes holds rules) edges) (filter (passes holds rules) edges))) → ((b ≡ true) × (y ≡ edge.to)) ⊎ Among y (targets holds rules edges)
  target-by edge rest edges y true r m = elim m [ inl q ↦ inl (refl, q) | inr k ↦ inr k ]
  target-by edge rest edges y false r m = inr m

  target_split : (edge : Edge) (edges : List Edge) (y : ℕ) → Among y (targets holds rules (edge ∷ edges)) → ((passes holds rules edge ≡ true) × (y ≡ edge.to)) ⊎ Among y (targets holds rules edges)
  target_split edge edges y m = target-by edge (targets holds rules edges) edges y (passes holds rules edge) refl m

  target-first : (edge : Edge) (edges : List Edge) (b : Bool) → b ≡ true → Among edge.to (map (λ (e : Edge). e.to) (cond b (edge ∷ filter (passes holds rules) edges) (filter (passes holds rules) edges)))
  target-first edge edges true e = inl refl
  target-first edge edges false e = absurd (false≢true e)

  target-later : (edge : Edge) (edges : List Edge) (y : ℕ) (b : Bool) → Among y (targets holds rules edges) → Among y (map (λ (e : Edge). e.to) (cond b (edge ∷ filter (passes holds rules) edges) (filter (passes holds rules) edges)))
  target-later edge edges y true m = inr m
  target-later edge edges y false m = m

  -- a link leads to a name at a place, where a type is shown
  pub record LeadsAt (names : List Text) (links : List Link) (y : ℕ) : Type 0 where
    pub name : Text
    pub leads : LeadsTo holds links name
    pub place : place_of name names ≡ Some y
    pub shown : is_shown holds (get_or rules y None) ≡ true

  leads-later : (names : List Text) (link : Link) (links : List Link) (y : ℕ) → LeadsAt names links y → LeadsAt names (link ∷ links) y
  leads-later names link links y h = record { name = h.name; leads = led_more holds link links h.name h.leads; place = h.place; shown = h.shown }

  leads-first : (names : List Text) (link : Link) (links : List Link) (p y : ℕ) → place_of link.name names ≡ Some p → passes holds rules (edge_to link p) ≡ true → y ≡ p → LeadsAt names (link ∷ links) y
  leads-first names link links p y e o q =
      let parts = and_parts (is_open holds link) (is_shown holds (get_or rules p None)) o in
      record {
        name = link.name;
        leads = led_first holds link links parts.0;
        place = e ∙ ap Some (sym q);
        shown = ap (λ k. is_shown holds (get_or rules k None)) q ∙ parts.1;
      }

  pub target_led : (names : List Text) (links : List Link) (y : ℕ) → Among y (targets holds rules (edges_of names links)) → LeadsAt names links y
  target_led names [] y m = absurd m
  target_led names (link ∷ links) y m = pick (target_led names links y) (place_of link.name names) refl m
    where
      pick : (Among y (targets holds rules (edges_of names links)) → LeadsAt names links y) → (p : Option ℕ) → place_of link.name names ≡ p → Among y (targets holds rules (one_or_none (edge_to link) p ++ edges_of names links)) → LeadsAt names (link ∷ links) y
      pick ih None e k = leads-later names link links y (ih k)
      pick ih (Some p) e k = elim (target_split (edge_to link p) (edges_of names links) y k) [
        | inl f ↦ leads-first names link links p y e f.0 f.1
        | inr r ↦ leads-later names link links y (ih r)
      ]

  pub led_target : (names : List Text) (links : List Link) (name : Text) (y : ℕ) → LeadsTo holds links name → place_of name names ≡ Some y → is_shown holds (get_or rules y None) ≡ true → Among y (targets holds rules (edges_of names links))
  led_target names [] name y e p s = absurd (false≢true e)
  led_target names (link ∷ links) name y e p s = elim (led_split holds link links name e) [
    | inl f ↦ first (place_of link.name names) (ap (λ n. place_of n names) (sym f.1) ∙ p) f.0
    | inr k ↦ later (place_of link.name names) (led_target names links name y k p s)
  ]
    where
      first : (q : Option ℕ) → q ≡ Some y → is_open holds link ≡ true → Among y (targets holds rules (one_or_none (edge_to link) q ++ edges_of names links))
      first q r o =
          subst (λ z. Among y (targets holds rules (one_or_none (edge_to link) z ++ edges_of names links))) (sym r)
          (target-first (edge_to link y) (edges_of names links) (passes holds rules (edge_to link y))
          (and_from (is_open holds link) (is_shown holds (get_or rules y None)) o s))

      later : (q : Option ℕ) → Among y (targets holds rules (edges_of names links)) → Among y (targets holds rules (one_or_none (edge_to link) q ++ edges_of names links))
      later None k = k
      later (Some q) k = target-later (edge_to link q) (edges_of names links) y (passes holds rules (edge_to link q)) k

-- ---- chains

module _ (holds : ℕ → Bool) (types : List (Text × Meta)) where
  abbrev names : List Text
  names = keys_of types

  abbrev pub steps : ℕ → List ℕ
  steps = next_of holds (all_rules types) (all_edges (keys_of types) types)

  -- from the targets of links
  abbrev pub FromLinks : List Link → ℕ → Type 0
  FromLinks links y = Among y (targets holds (all_rules types) (edges_of (keys_of types) links))

  edges_at : (name : Text) (x : ℕ) (type : Meta) → StandsAt types name x type → get_or (all_edges names types) x [] ≡ edges_of names (links_of type)
  edges_at name x type h = get_or-map (λ t. edges_of names (links_of t)) (values_of types) x type [] h.within ∙ ap (λ t. edges_of names (links_of t)) (h.value type)

  pub rule_at : (name : Text) (x : ℕ) (type : Meta) → StandsAt types name x type → get_or (all_rules types) x None ≡ visible_of type
  rule_at name x type h = get_or-map visible_of (values_of types) x type None h.within ∙ ap visible_of (h.value type)

  shown_type : (name : Text) (x : ℕ) → place_of name names ≡ Some x → is_shown holds (get_or (all_rules types) x None) ≡ true → IsShownType holds types name
  shown_type name x p s =
      let t = stands_at types name x p in
      record { type = t.0; stands = t.1.at; shown = ap (is_shown holds) (sym (rule_at name x t.0 t.1)) ∙ s }

  -- one name of the place is reached
  pub chain_reached : (links : List Link) (x : ℕ) → Chain steps (FromLinks links) x → (name : Text) × (place_of name names ≡ Some x) × Reached holds types links name
  chain_reached links x (here _ m) =
      let l = target_led holds (all_rules types) names links x m in
      (l.name, l.place, at_start l.name l.leads (shown_type l.name x l.place l.shown))
  chain_reached links x (further a _ c m) = go (chain_reached links a c)
    where
      go : (from : Text) × (place_of from names ≡ Some a) × Reached holds types links from → (name : Text) × (place_of name names ≡ Some x) × Reached holds types links name
      go r =
          let t = stands_at types r.0 a r.1 in
          let l = target_led holds (all_rules types) names (links_of t.0) x (subst (λ es. Among x (targets holds (all_rules types) es)) (edges_at r.0 a t.0 t.1) m) in
          (l.name, l.place, onward r.0 t.0 l.name r.2 t.1.at l.leads (shown_type l.name x l.place l.shown))

  same_type : (name : Text) (a b : Meta) → at_text name types ≡ Some a → at_text name types ≡ Some b → a ≡ b
  same_type name a b p q = cc (p, q)

  -- where a type is shown, the rule at its place is met
  shown_place : (name : Text) (x : ℕ) → place_of name names ≡ Some x → IsShownType holds types name → is_shown holds (get_or (all_rules types) x None) ≡ true
  shown_place name x p s =
      let t = stands_at types name x p in
      ap (is_shown holds) (rule_at name x t.0 t.1 ∙ ap visible_of (same_type name t.0 s.type t.1.at s.stands)) ∙ s.shown

  pub reached_chain : (links : List Link) (name : Text) → Reached holds types links name → (x : ℕ) × (place_of name names ≡ Some x) × Chain steps (FromLinks links) x
  reached_chain links name (at_start _ l s) =
      let p = has_place types name s.type s.stands in
      (p.0, p.1, here p.0 (led_target holds (all_rules types) names links name p.0 l p.1 (shown_place name p.0 p.1 s)))
  reached_chain links name (onward from type _ r at l s) = go (reached_chain links from r)
    where
      go : (x : ℕ) × (place_of from names ≡ Some x) × Chain steps (FromLinks links) x → (x : ℕ) × (place_of name names ≡ Some x) × Chain steps (FromLinks links) x
      go c =
          let p = has_place types name s.type s.stands in
          let t = stands_at types from c.0 c.1 in
          let e : get_or (all_edges names types) c.0 [] ≡ edges_of names (links_of type) = edges_at from c.0 t.0 t.1 ∙ ap (λ m. edges_of names (links_of m)) (same_type from t.0 type t.1.at at) in
          (p.0, p.1, further c.0 p.0 c.2 (subst (λ es. Among p.0 (targets holds (all_rules types) es)) (sym e) (led_target holds (all_rules types) names (links_of type) name p.0 l p.1 (shown_place name p.0 p.1 s))))

  -- ---- marks

  -- what is marked at places tells what holds of names
  pub tells_by : (marks : List Bool) (P : ℕ → Type 0) (S : Text → Type 0) → MarksExactly marks P → ((x : ℕ) → P x → (name : Text) × (place_of name names ≡ Some x) × S name) → ((name : Text) → S name → (x : ℕ) × (place_of name names ≡ Some x) × P x) → Tells (is_name_marked names marks) S
  tells_by marks P S exact sound complete name = pick (place_of name names) refl
    where
      pick : (p : Option ℕ) → place_of name names ≡ p → (option_map_or (λ place. is_marked marks place) p false ≡ true → S name) × (S name → option_map_or (λ place. is_marked marks place) p false ≡ true)
      pick None e = (λ f. absurd (false≢true f), λ s. none (complete name s))
        where
          none : (x : ℕ) × (place_of name names ≡ Some x) × P x → false ≡ true
          none c = cc (sym e ∙ c.1)
      pick (Some x) e = (
        λ d. some (sound x ((exact x).0 d)),
        λ s. found (complete name s),
      )
        where
          some : (other : Text) × (place_of other names ≡ Some x) × S other → S name
          some c = subst S (place_same c.0 name names x c.1 e) c.2

          found : (y : ℕ) × (place_of name names ≡ Some y) × P y → is_marked marks x ≡ true
          found c = (exact x).1 (subst P (cc (sym c.1 ∙ e)) c.2)

  pub tells_reached : (links : List Link) (marks : List Bool) → MarksExactly marks (Chain steps (FromLinks links)) → Tells (is_name_marked names marks) (Reached holds types links)
  tells_reached links marks exact = tells_by marks (Chain steps (FromLinks links)) (Reached holds types links) exact (chain_reached links) (reached_chain links)
