-- The table of the code: the types by their places in name order, and what each leads to.
use Rattle.std.specs.Prelude.{◌≡◌, ◌<◌, ℕ, suc, List, [], ◌∷◌, map, flat_map, length, get_or, if◌then◌else◌, Option, Some, None, Vec}
use Rattle.std.specs.Option.{option_map, option_map_or}
use Rattle.std.specs.List.{AllByRecursion}
use Rattle.std.specs.Map.{keys_of, values_of}
use Rattle.std.specs.Str.{bytes_eq}
use Rattle.std.specs.declared.alloc.Global.{Global}
use Rattle.gql_registry_meta.specs.Parts.{Text, Meta}
use Rattle.gql_registry_meta.specs.Kinds.{visible_of}
use Rattle.gql_registry_closures.specs.Links.{Link, links_of, Parts, starts_of}
use Rattle.gql_registry_closures.specs.Reached.{implementers_of}
use Rattle.gql_registry_closures.specs.declared.edges.Edge.{Edge}
use Rattle.gql_registry_closures.specs.declared.table.Table.{Table}

-- the place of a name among names
abbrev pub place_of : Text → List Text → Option ℕ
place_of name [] = None
place_of name (first ∷ names) = if bytes_eq name first then Some 0 else option_map suc (place_of name names)

-- the link as an edge to the type at a place
abbrev pub edge_to : Link → ℕ → Edge
edge_to link place = record { outer = link.outer; inner = link.inner; to = place }

-- one of these, or none
abbrev pub one_or_none : {X : Type 0} → (ℕ → X) → Option ℕ → List X
one_or_none f place = option_map_or (λ p. f p ∷ []) place []

-- the links as edges, those left out under whose names no type stands
abbrev pub edges_of : List Text → List Link → List Edge
edges_of names links = flat_map (λ link. one_or_none (edge_to link) (place_of link.name names)) links

-- the places of names, those left out that are not among them
abbrev pub places_of : List Text → List Text → List ℕ
places_of names others = flat_map (λ name. one_or_none (λ place. place) (place_of name names)) others

-- the edges of each type
abbrev pub all_edges : List Text → List (Text × Meta) → List (List Edge)
all_edges names types = map (λ type. edges_of names (links_of type)) (values_of types)

-- the possible types of each interface
abbrev pub all_implementers : List Text → List (Text × Meta) → List (List ℕ)
all_implementers names types = map (λ type. places_of names (implementers_of type)) (values_of types)

-- the rules that show the types
abbrev pub all_rules : List (Text × Meta) → List (Option ℕ)
all_rules types = map visible_of (values_of types)

-- a vector of vectors as a list of lists
abbrev pub lists : {A : Type 0} → List (Vec A Global) → List (List A)
lists vs = map (λ v. v.items) vs

-- the table is that of the parts of a schema
pub record IsTableOf (parts : Parts) (table : Table) : Type 0 where
  pub starts : table.starts.items ≡ edges_of (keys_of parts.types) (starts_of parts)
  pub rules : table.rules.items ≡ all_rules parts.types
  pub edges : lists table.edges.items ≡ all_edges (keys_of parts.types) parts.types
  pub implementers : lists table.implementers.items ≡ all_implementers (keys_of parts.types) parts.types

-- each of the edges leads to one of so many types
abbrev pub AreWithin : ℕ → List Edge → Type 0
AreWithin count edges = AllByRecursion (λ (edge : Edge). edge.to < count) edges

-- what the table has for a type, and where the starts lead
pub record IsWhole (table : Table) : Type 0 where
  pub edges : length table.edges.items ≡ length table.rules.items
  pub implementers : length table.implementers.items ≡ length table.rules.items
  pub starts_within : AreWithin (length table.rules.items) table.starts.items
  pub edges_within : (x : ℕ) → AreWithin (length table.rules.items) (get_or (lists table.edges.items) x [])
  pub implementers_within : (x : ℕ) → AllByRecursion (λ place. place < length table.rules.items) (get_or (lists table.implementers.items) x [])
