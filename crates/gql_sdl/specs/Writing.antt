-- A text that is written type by type.
use Rattle.std.specs.Prelude.{List, [], ◌∷◌, ◌++◌, Option, map, string_bytes}
use Rattle.gql_registry_meta.specs.Parts.{Text, Meta, Directive}
use Rattle.gql_sdl_view.specs.Options.{Options, Layout, Choice, layout_of, document_choice}
use Rattle.gql_sdl_view.specs.View.{viewed_type, viewed_directive, needed}
use Rattle.gql_sdl_view.specs.Spelling.{type_text, directives_text}
use Rattle.gql_sdl_text.specs.Views.{layout_view, choice_view}
use Rattle.gql_sdl.specs.Needs.{needs_of, joined}
use Rattle.gql_sdl.specs.declared.needs.Needs.{Needs}
use Rattle.gql_sdl.specs.declared.writing.SDLWriter.{SDLWriter}

-- how the text is laid out, what is taken of a type, which definitions of directives the types need, and the text so far
pub record Written : Type 0 where
  pub layout : Layout
  pub choice : Choice
  pub needs : Needs
  pub text : Text

-- what a writer has written
abbrev pub written_by : SDLWriter → Written
written_by writer = record { layout = layout_view writer.layout; choice = choice_view writer.choice; needs = writer.needs; text = string_bytes writer.text }

-- nothing yet
abbrev pub begun : Options → Written
begun o = record { layout = layout_of o; choice = document_choice o; needs = needs_of []; text = [] }

-- a type more, which implements these names; its text is the same whatever the subscription root is
abbrev pub with_type : (subscription : Option Text) → Written → List Text → Meta → Written
with_type subscription written names type = record written {
  needs = joined written.needs (needs_of (type ∷ []));
  text = written.text ++ type_text written.layout names (viewed_type written.choice subscription type);
}

-- the definitions of directives more that one of the types needs
abbrev pub with_directives : List Meta → Written → List Directive → Written
with_directives types written directives = record written {
  text = written.text ++ directives_text written.layout (map viewed_directive (needed types directives));
}
