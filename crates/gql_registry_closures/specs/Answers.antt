-- What the searches answer.
use Rattle.std.specs.Prelude.{◌≡◌, Bool, true, not, Decides, List, map, filter}
use Rattle.std.specs.BTreeMap.{BTreeMap}
use Rattle.std.specs.BTreeSet.{BTreeSet}
use Rattle.std.specs.declared.string.String.{String}
use Rattle.std.specs.declared.alloc.Global.{Global}
use Rattle.gql_registry_meta.specs.Parts.{Text, is_among}
use Rattle.gql_registry_meta.specs.Views.{text_of, entries_of, meta_of, directive_of}
use Rattle.gql_registry_meta.specs.declared.meta_type.MetaType.{MetaType}
use Rattle.gql_registry_meta.specs.declared.directive.MetaDirective.{MetaDirective}
use Rattle.gql_registry_closures.specs.Links.{Parts}

-- the parts that the maps hold, with the names of the roots
abbrev pub parts_of : {x g : _} → BTreeMap (String Global) (MetaType x g) → BTreeMap (String Global) MetaDirective → List Text → Parts
parts_of types directives roots = record {
  types = entries_of meta_of types.entries;
  directives = entries_of directive_of directives.entries;
  roots = roots;
}

-- the test tells of each name whether it has the property
abbrev pub Tells : (Text → Bool) → (Text → Type 0) → Type 0
Tells test P = (name : Text) → Decides (test name) (P name)

-- those of the names that have the property, in their order, and no others
abbrev pub Selects : (Text → Type 0) → List Text → List Text → Type 0
Selects P names chosen = (test : Text → Bool) × Tells test P × (chosen ≡ filter test names)

-- those of the names that have not the property, in their order, and no others
abbrev pub Leaves : (Text → Type 0) → List Text → List Text → Type 0
Leaves P names left = (test : Text → Bool) × Tells test P × (left ≡ filter (λ name. not (test name)) names)

-- the texts of a set, in order
abbrev pub set_names : BTreeSet (String Global) → List Text
set_names set = map text_of set.keys

-- exactly those of the names that have the property are in the set
abbrev pub HoldsExactly : (Text → Type 0) → List Text → List Text → Type 0
HoldsExactly P names set = (name : Text) → Decides (is_among name set) ((is_among name names ≡ true) × P name)
