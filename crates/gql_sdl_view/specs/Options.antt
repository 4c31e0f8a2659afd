-- What a caller chooses of a text: which parts of a schema it has, in which order, and how it is laid out.
use Rattle.std.specs.Prelude.{ℕ, Bool, true, false, if◌then◌else◌, [], ◌∷◌, replicate}
use Rattle.gql_text_lexer.specs.Bytes.{space, tab}
use Rattle.gql_registry_meta.specs.Parts.{Text}

-- the nine options; neither a view nor its text looks at `federation` and `compose_directive`
pub record Options : Type 0 where
  pub sorted_fields : Bool
  pub sorted_arguments : Bool
  pub sorted_enum_items : Bool
  pub federation : Bool
  pub prefer_single_line_descriptions : Bool
  pub include_specified_by : Bool
  pub compose_directive : Bool
  pub use_space_ident : Bool
  pub indent_width : ℕ

-- all off, and a width of two
abbrev pub no_options : Options
no_options = record {
  sorted_fields = false;
  sorted_arguments = false;
  sorted_enum_items = false;
  federation = false;
  prefer_single_line_descriptions = false;
  include_specified_by = false;
  compose_directive = false;
  use_space_ident = false;
  indent_width = 2;
}

-- ---- what is taken of a schema

-- `sorted_fields`: fields and input fields by name; `sorted_arguments`: the arguments of fields by name;
-- `sorted_enum_items`: enum values by name; `with_reserved`: also fields whose names begin with `__`; `with_url`: also the
-- URLs of scalars
pub record Choice : Type 0 where
  pub sorted_fields : Bool
  pub sorted_arguments : Bool
  pub sorted_enum_items : Bool
  pub with_reserved : Bool
  pub with_url : Bool

-- of a document: all that it says
abbrev pub document_choice : Options → Choice
document_choice o = record {
  sorted_fields = o.sorted_fields;
  sorted_arguments = o.sorted_arguments;
  sorted_enum_items = o.sorted_enum_items;
  with_reserved = true;
  with_url = true;
}

-- of a registry: no field whose name begins with `__`, and a URL under `include_specified_by` alone
abbrev pub registry_choice : Options → Choice
registry_choice o = record {
  sorted_fields = o.sorted_fields;
  sorted_arguments = o.sorted_arguments;
  sorted_enum_items = o.sorted_enum_items;
  with_reserved = false;
  with_url = o.include_specified_by;
}

-- all, in its order
abbrev pub whole : Choice
whole = record {
  sorted_fields = false;
  sorted_arguments = false;
  sorted_enum_items = false;
  with_reserved = true;
  with_url = true;
}

-- ---- how a text is laid out

-- one indent, and whether a description of one line is written on a single line
pub record Layout : Type 0 where
  pub indent : Text
  pub single : Bool

-- an indent is one tab, or `indent_width` spaces under `use_space_ident`
abbrev pub indent_of : Options → Text
indent_of o = if o.use_space_ident then replicate o.indent_width space else tab ∷ []

-- the layout that the options ask for
abbrev pub layout_of : Options → Layout
layout_of o = record { indent = indent_of o; single = o.prefer_single_line_descriptions }
