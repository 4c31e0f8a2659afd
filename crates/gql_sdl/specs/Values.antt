-- What the values of the code stand for.
use Rattle.std.specs.Prelude.{map}
use Rattle.std.specs.Option.{option_map}
use Rattle.gql_registry_meta.specs.Views.{text_of, texts_of, meta_of, directive_of}
use Rattle.gql_sdl_view.specs.Options.{Options}
use Rattle.gql_sdl_view.specs.View as parts
use Rattle.gql_sdl.specs.declared.options.SDLExportOptions.{SDLExportOptions}
use Rattle.gql_sdl.specs.declared.view.View.{View}

-- the options
abbrev pub options_of : SDLExportOptions → Options
options_of options = record {
  sorted_fields = options.sorted_fields;
  sorted_arguments = options.sorted_arguments;
  sorted_enum_items = options.sorted_enum_items;
  federation = options.federation;
  prefer_single_line_descriptions = options.prefer_single_line_descriptions;
  include_specified_by = options.include_specified_by;
  compose_directive = options.compose_directive;
  use_space_ident = options.use_space_ident;
  indent_width = options.indent_width;
}

-- What a view holds. A view may have a function in one of its types; it takes two arguments more, which belong to that
-- function.
abbrev pub view_in : {x g : _} → View x g → parts.View
view_in view = record {
  query = text_of view.query;
  mutation = option_map text_of view.mutation;
  subscription = option_map text_of view.subscription;
  types = map meta_of view.types.items;
  implements = map texts_of view.implements.items;
  directives = map directive_of view.directives.items;
}
