-- What a registry's view takes of types and of their fields, in their order.
use Rattle.std.specs.Prelude.{List, map}
use Rattle.std.specs.List.{filter}
use Rattle.gql_registry_meta.specs.Parts.{Text, Field, Meta, name_of}
use Rattle.gql_registry.specs.Registry.{Contents, implements_listed}
use Rattle.gql_sdl_view.specs.Options.{Options, registry_choice}
use Rattle.gql_sdl_view.specs.Ordered.{changed}
use Rattle.gql_sdl_view.specs.View.{viewed_field, is_kept, viewed_type, is_shown}

-- the fields that are kept
abbrev pub taken_fields : Options → List (Text × Field) → List (Text × Field)
taken_fields o fields = changed (viewed_field (registry_choice o)) (filter (λ field. is_kept (registry_choice o) field.1) fields)

-- the types that are shown
abbrev pub taken_types : Options → Contents → List Meta → List Meta
taken_types o contents types = map (viewed_type (registry_choice o) contents.subscription) (filter is_shown types)

-- for each of them the names that it implements
abbrev pub taken_lists : Contents → List Meta → List (List Text)
taken_lists contents types = map (λ type. implements_listed (name_of type) contents.implements) (filter is_shown types)
