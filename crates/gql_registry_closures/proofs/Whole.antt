-- A table has a row for each type, and leads to types alone.
use Rattle.std.proofs.Common.{◌≡◌, ◌<◌, ℕ, zero, suc, List, [], ◌∷◌, ◌++◌, map, length, get_or, refl, ap, sym, ◌∙◌, subst, Option, Some, None}
use Rattle.std.proofs.lemmas.List.{length-map}
use Rattle.std.specs.List.{AllByRecursion}
use Rattle.std.specs.Map.{keys_of, values_of}
use Rattle.gql_registry_meta.specs.Parts.{Text, Meta}
use Rattle.gql_registry_meta.specs.Kinds.{visible_of}
use Rattle.gql_registry_closures.specs.Links.{Link, links_of, Parts, starts_of}
use Rattle.gql_registry_closures.specs.Reached.{implementers_of}
use Rattle.gql_registry_closures.specs.Table.{place_of, edge_to, one_or_none, edges_of, places_of, all_edges, all_implementers, AreWithin, IsTableOf, IsWhole}
use Rattle.gql_registry_closures.specs.declared.table.Table.{Table}
use Rattle.gql_registry_closures.proofs.Places.{place_within}

edges_within : (names : List Text) (links : List Link) → AreWithin (length names) (edges_of names links)
edges_within names [] = tt
edges_within names (link ∷ links) = pick (edges_within names links) (place_of link.name names) refl
  where
    pick : AreWithin (length names) (edges_of names links) → (p : Option ℕ) → place_of link.name names ≡ p → AreWithin (length names) (one_or_none (edge_to link) p ++ edges_of names links)
    pick ih None e = ih
    pick ih (Some x) e = (place_within link.name names x e, ih)

places_within : (names others : List Text) → AllByRecursion (λ (place : ℕ). place < length names) (places_of names others)
places_within names [] = tt
places_within names (name ∷ others) = pick (places_within names others) (place_of name names) refl
  where
    pick : AllByRecursion (λ (place : ℕ). place < length names) (places_of names others) → (p : Option ℕ) → place_of name names ≡ p → AllByRecursion (λ (place : ℕ). place < length names) (one_or_none (λ place. place) p ++ places_of names others)
    pick ih None e = ih
    pick ih (Some x) e = (place_within name names x e, ih)

-- what holds of each row holds at each number
each_row : {X A : Type 0} (P : A → Type 0) (f : X → List A) → ((x : X) → AllByRecursion P (f x)) → (xs : List X) (k : ℕ) → AllByRecursion P (get_or (map f xs) k [])
each_row P f h [] k = tt
each_row P f h (x ∷ xs) zero = h x
each_row P f h (x ∷ xs) (suc k) = each_row P f h xs k

-- the table of a schema is whole
pub whole_table : (parts : Parts) (table : Table) → IsTableOf parts table → IsWhole table
whole_table parts table t =
    let count : length table.rules.items ≡ length (values_of parts.types) = ap length t.rules ∙ length-map (values_of parts.types) visible_of in
    let names : length (keys_of parts.types) ≡ length table.rules.items = length-map parts.types (λ (e : Text × Meta). e.0) ∙ sym (length-map parts.types (λ (e : Text × Meta). e.1)) ∙ sym count in
    record {
      edges = sym (length-map table.edges.items (λ v. v.items)) ∙ ap length t.edges ∙ length-map (values_of parts.types) (λ type. edges_of (keys_of parts.types) (links_of type)) ∙ sym count;
      implementers = sym (length-map table.implementers.items (λ v. v.items)) ∙ ap length t.implementers ∙ length-map (values_of parts.types) (λ type. places_of (keys_of parts.types) (implementers_of type)) ∙ sym count;
      starts_within = subst (AreWithin (length table.rules.items)) (sym t.starts) (subst (λ n. AreWithin n (edges_of (keys_of parts.types) (starts_of parts))) names (edges_within (keys_of parts.types) (starts_of parts)));
      edges_within = λ x. subst (λ es. AreWithin (length table.rules.items) (get_or es x [])) (sym t.edges)
          (subst (λ n. AreWithin n (get_or (all_edges (keys_of parts.types) parts.types) x [])) names
          (each_row _ (λ type. edges_of (keys_of parts.types) (links_of type)) (λ type. edges_within (keys_of parts.types) (links_of type)) (values_of parts.types) x));
      implementers_within = λ x. subst (λ es. AllByRecursion (λ (place : ℕ). place < length table.rules.items) (get_or es x [])) (sym t.implementers)
          (subst (λ n. AllByRecursion (λ (place : ℕ). place < n) (get_or (all_implementers (keys_of parts.types) parts.types) x [])) names
          (each_row _ (λ type. places_of (keys_of parts.types) (implementers_of type)) (λ type. places_within (keys_of parts.types) (implementers_of type)) (values_of parts.types) x));
    }

-- the table has a row for each name
pub rules_count : (parts : Parts) (table : Table) → IsTableOf parts table → length table.rules.items ≡ length parts.types
rules_count parts table t = ap length t.rules ∙ length-map (values_of parts.types) visible_of ∙ length-map parts.types (λ (e : Text × Meta). e.1)
