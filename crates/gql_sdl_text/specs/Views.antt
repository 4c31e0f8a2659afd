-- What the values of the code stand for.
use Rattle.std.specs.Prelude.{string_bytes}
use Rattle.gql_sdl_view.specs.Options.{Layout, Choice}
use Rattle.gql_sdl_text.specs.declared.layout.Layout.{Layout as TextLayout}
use Rattle.gql_sdl_text.specs.declared.layout.Choice.{Choice as PartChoice}

-- how a text is laid out
abbrev pub layout_view : TextLayout → Layout
layout_view layout = record { indent = string_bytes layout.indent; single = layout.single }

-- what is taken of a schema
abbrev pub choice_view : PartChoice → Choice
choice_view choice = record {
  sorted_fields = choice.sorted_fields;
  sorted_arguments = choice.sorted_arguments;
  sorted_enum_items = choice.sorted_enum_items;
  with_reserved = choice.with_reserved;
  with_url = choice.with_url;
}
