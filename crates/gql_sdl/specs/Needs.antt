-- Which of the directives `deprecated`, `specifiedBy` and `oneOf` some type needs.
use Rattle.std.specs.Prelude.{◌||◌, List}
use Rattle.std.specs.List.{list_any}
use Rattle.gql_registry_meta.specs.Parts.{Meta}
use Rattle.gql_sdl_view.specs.View.{has_deprecated, has_url, has_one_of}
use Rattle.gql_sdl.specs.declared.needs.Needs.{Needs}

-- what one of the types needs
abbrev pub needs_of : List Meta → Needs
needs_of types = record {
  deprecated = list_any has_deprecated types;
  url = list_any has_url types;
  one_of = list_any has_one_of types;
}

-- what two lists of types need together
abbrev pub joined : Needs → Needs → Needs
joined needs others = record {
  deprecated = needs.deprecated || others.deprecated;
  url = needs.url || others.url;
  one_of = needs.one_of || others.one_of;
}
