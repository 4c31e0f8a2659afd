-- The text of each part of a registry.
use Rattle.std.specs.Prelude.{List, ◌++◌, codes}
use Rattle.std.specs.List.{filter, flat_map}
use Rattle.gql_registry_meta.specs.Parts.{Text, Meta, name_of, Directive}
use Rattle.gql_registry.specs.Registry.{Contents, implements_listed}
use Rattle.gql_sdl_view.specs.Options.{Layout, Choice}
use Rattle.gql_sdl_view.specs.View.{is_shown, viewed_type, viewed_directive, needed}
use Rattle.gql_sdl_view.specs.Spelling.{type_text, directive_text}

-- the text of a type that a registry holds
abbrev pub registered_text : Layout → Choice → Contents → Meta → Text
registered_text layout choice contents type = type_text layout (implements_listed (name_of type) contents.implements) (viewed_type choice contents.subscription type)

-- those of the types that are shown
abbrev pub shown_text : Layout → Choice → Contents → List Meta → Text
shown_text layout choice contents types = flat_map (registered_text layout choice contents) (filter is_shown types)

-- the text of a directive definition, and LF
abbrev pub definition_text : Layout → Directive → Text
definition_text layout directive = directive_text layout (viewed_directive directive) ++ codes "\n"

-- those of the definitions that one of the types needs
abbrev pub needed_text : Layout → List Meta → List Directive → Text
needed_text layout types directives = flat_map (definition_text layout) (needed types directives)
