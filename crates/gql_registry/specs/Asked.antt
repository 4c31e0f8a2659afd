-- What a registry is asked: the types that are used, and those that a reader may see.
use Rattle.std.specs.Prelude.{◌≡◌, Bool, List, [], ◌∷◌, ◌++◌, filter, Option}
use Rattle.std.specs.Option.{option_map_or}
use Rattle.gql_registry_meta.specs.Parts.{Text}
use Rattle.gql_registry_closures.specs.Links.{Parts}
use Rattle.gql_registry_closures.specs.Reached.{Needed}
use Rattle.gql_registry_closures.specs.Answers.{Tells}
use Rattle.gql_registry.specs.Registry.{Contents}

-- the root, where there is one
abbrev pub root_listed : Option Text → List Text
root_listed root = option_map_or (λ name. name ∷ []) root []

-- the names of the roots: section 3.3.1
abbrev pub roots_of : Contents → List Text
roots_of contents = contents.query ∷ (root_listed contents.mutation ++ root_listed contents.subscription)

-- the parts from which types are reached
abbrev pub parts_in : Contents → Parts
parts_in contents = record {
  types = contents.types;
  directives = contents.directives;
  roots = roots_of contents;
}

-- the registry with those of its types alone whose names pass a test
abbrev pub with_types_that : (Text → Bool) → Contents → Contents
with_types_that test before = record before { types = filter (λ entry. test entry.0) before.types }

-- The registry without the types that are neither system types nor used; all else stays.
abbrev pub KeepsUsed : Contents → Contents → Type 0
KeepsUsed before after = (test : Text → Bool) × Tells test (Needed (parts_in before)) × (after ≡ with_types_that test before)
