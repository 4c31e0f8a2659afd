-- Which types of a schema are used, and which are visible to a reader for whom some rules hold.
use Rattle.std.specs.Prelude.{◌≡◌, ◌⊎◌, ◌&&◌, ◌||◌, ℕ, Bool, true, List, [], ◌∷◌, map, filter, Some, codes}
use Rattle.gql_text_lexer.specs.Forms.{is_reserved}
use Rattle.gql_registry_meta.specs.Parts.{Text, at_text, is_among, Meta, interface}
use Rattle.gql_registry_meta.specs.Kinds.{visible_of, is_shown}
use Rattle.gql_registry_closures.specs.Links.{Link, plain_link, links_of, Parts, starts_of}

-- ---- chains

-- both parts on the way are shown where these rules hold
abbrev pub is_open : (ℕ → Bool) → Link → Bool
is_open holds link = is_shown holds link.outer && is_shown holds link.inner

-- the names to which the links lead whose parts are shown
abbrev pub names_led_to : (ℕ → Bool) → List Link → List Text
names_led_to holds links = map (λ link. link.name) (filter (is_open holds) links)

-- one of the links leads to the name by parts that are shown
abbrev pub LeadsTo : (ℕ → Bool) → List Link → Text → Type 0
LeadsTo holds links name = is_among name (names_led_to holds links) ≡ true

-- a type that is shown stands under the name
pub record IsShownType (holds : ℕ → Bool) (types : List (Text × Meta)) (name : Text) : Type 0 where
  pub type : Meta
  pub stands : at_text name types ≡ Some type
  pub shown : is_shown holds (visible_of type) ≡ true

-- A chain of links from a start ends in the name, where a type stands; each part and each type on it is shown.
pub data Reached (holds : ℕ → Bool) (types : List (Text × Meta)) (starts : List Link) : Text → Type 0 where
  at_start : (name : Text) → LeadsTo holds starts name → IsShownType holds types name → Reached holds types starts name
  onward : (from : Text) (type : Meta) (name : Text) → Reached holds types starts from → at_text from types ≡ Some type → LeadsTo holds (links_of type) name → IsShownType holds types name → Reached holds types starts name

-- ---- used types

-- every rule holds, so that each part is shown
abbrev pub every_rule : ℕ → Bool
every_rule rule = true

-- a chain from a start ends in it, by whatever parts
abbrev pub Used : Parts → Text → Type 0
Used parts name = Reached every_rule parts.types (starts_of parts) name

-- A name that begins with two underscores, or that of a scalar that every schema has: sections 2.1.9, 3.5.
abbrev pub is_system_name : Text → Bool
is_system_name name =
    is_reserved name
    || is_among name (codes "Boolean" ∷ codes "Int" ∷ codes "Float" ∷ codes "String" ∷ codes "ID" ∷ [])

-- what a schema needs: system types and used types
abbrev pub Needed : Parts → Text → Type 0
Needed parts name = (is_system_name name ≡ true) ⊎ Used parts name

-- ---- visible types

-- the possible types of an interface
abbrev pub implementers_of : Meta → List Text
implementers_of (interface type) = type.possible_types
implementers_of _ = []

-- the type is an interface that is not in the set, and has a possible type in it
pub record Joins (set : Text → Type 0) (name : Text) (type : Meta) : Type 0 where
  pub absent : set name → ⊥
  pub implementer : Text
  pub possible : is_among implementer (implementers_of type) ≡ true
  pub present : set implementer

-- the set after one of the types: an interface that joins it comes with all that it reaches
abbrev pub with_joined : (ℕ → Bool) → List (Text × Meta) → (Text → Type 0) → Text × Meta → Text → Type 0
with_joined holds types set entry name =
    set name ⊎ (Joins set entry.0 entry.1 × Reached holds types (plain_link entry.0 ∷ []) name)

-- the set after each of these types in turn
unfoldable pub with_all_joined : (ℕ → Bool) → List (Text × Meta) → (Text → Type 0) → List (Text × Meta) → Text → Type 0
with_all_joined holds types set [] = set
with_all_joined holds types set (entry ∷ more) = with_all_joined holds types (with_joined holds types set entry) more

-- A type is visible that a chain of shown parts from a start reaches, or that comes with an interface, where the
-- interfaces are taken in name order.
abbrev pub Visible : (ℕ → Bool) → Parts → Text → Type 0
Visible holds parts name = with_all_joined holds parts.types (Reached holds parts.types (starts_of parts)) parts.types name

-- what a reader may see: system types and visible types
abbrev pub Shown : (ℕ → Bool) → Parts → Text → Type 0
Shown holds parts name = (is_system_name name ≡ true) ⊎ Visible holds parts name
