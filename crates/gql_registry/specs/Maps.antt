-- What the maps of a registry stand for.
use Rattle.std.specs.Prelude.{◌≡◌, List}
use Rattle.std.specs.List.{AllByRecursion}
use Rattle.std.specs.BTreeMap.{BTreeMap}
use Rattle.std.specs.declared.string.String.{String}
use Rattle.std.specs.declared.alloc.Global.{Global}
use Rattle.indexmap.specs.IndexSet.{IndexSet}
use Rattle.gql_registry_meta.specs.Parts.{Text, Meta, name_of, Directive}
use Rattle.gql_registry_meta.specs.Views.{entries_of, names_of, meta_of, directive_of}
use Rattle.gql_registry_meta.specs.declared.meta_type.MetaType.{MetaType}
use Rattle.gql_registry_meta.specs.declared.directive.MetaDirective.{MetaDirective}

-- the types, each under the name that it is kept under, in name order
abbrev pub types_in : {x g : _} → BTreeMap (String Global) (MetaType x g) → List (Text × Meta)
types_in types = entries_of meta_of types.entries

-- the definitions of directives, in the same way
abbrev pub directives_in : BTreeMap (String Global) MetaDirective → List (Text × Directive)
directives_in directives = entries_of directive_of directives.entries

-- the names that types implement, in the same way
abbrev pub lists_in : {S : Type 0} → BTreeMap (String Global) (IndexSet (String Global) S) → List (Text × List Text)
lists_in lists = entries_of names_of lists.entries

-- each of the values stands under its own name
abbrev pub StandUnderOwnNames : {X : Type 0} → (X → Text) → List (Text × X) → Type 0
StandUnderOwnNames name entries = AllByRecursion (λ entry. name entry.1 ≡ entry.0) entries

-- each type stands under its own name
abbrev pub HaveOwnNames : List (Text × Meta) → Type 0
HaveOwnNames types = StandUnderOwnNames name_of types

-- each definition of a directive stands under its own name
abbrev pub DirectivesHaveOwnNames : List (Text × Directive) → Type 0
DirectivesHaveOwnNames directives = StandUnderOwnNames (λ directive. directive.name) directives
