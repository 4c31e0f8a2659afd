-- The words after the program's name: which of them are good, and what they ask for.
use Rattle.std.specs.Prelude.{◌≡◌, ◌≤◌, ℕ, Bool, true, false, List, [], ◌∷◌, length, codes, Option, Some, None, is_some, unwrap_or}
use Rattle.std.specs.Char.{is_ascii_digit}
use Rattle.std.specs.List.{list_all}
use Rattle.std.specs.Option.{option_map, option_map_or}
use Rattle.std.specs.Str.{bytes_eq}
use Rattle.std.specs.Str.Parse.{digits_value}
use Rattle.clap.specs.Walk.{Row, Rule, Text, first_of}
use Rattle.clap.specs.Simple.{App, Shape, matches_of, new_app, new_rule, on_top, with_rule}
use Rattle.clap.specs.Faults.{fault_of}
use Rattle.clap.specs.declared.builder.action.ArgAction.TheVariants.{Set, SetTrue}
use Rattle.gql_sdl_view.specs.Options.{Options, no_options}
use Rattle.gql_sdl.specs.Values.{options_of}
use Rattle.gql_publish_words.specs.declared.request.Request.{Request}
use Rattle.gql_publish_words.specs.declared.request.Request.TheVariants.{Publish, Sample}

-- ---- the command line

-- an option that takes no value: it stands there or not
abbrev pub flag_rule : Text → Rule
flag_rule name = record (new_rule name) { long = Some name; action = Some SetTrue }

-- an option that takes one value
abbrev pub value_rule : Text → Rule
value_rule name = record (new_rule name) { long = Some name; action = Some Set }

-- neither help nor the version can be asked for
abbrev pub without_help : Shape → Shape
without_help shape = record shape { disable_help_flag = true; disable_version_flag = true }

-- the program without its options
abbrev pub bare_command : App
bare_command = on_top without_help (new_app (codes "gqlsdl"))

-- what is sorted by name
abbrev pub with_orders : App → App
with_orders app = with_rule (with_rule (with_rule app (flag_rule (codes "sorted-fields"))) (flag_rule (codes "sorted-arguments"))) (flag_rule (codes "sorted-enum-items"))

-- the six options of the program
unfoldable pub the_command : App
the_command = with_rule (with_rule (with_rule (with_orders bare_command) (flag_rule (codes "single-line"))) (value_rule (codes "indent"))) (value_rule (codes "sample"))

-- the words of the command line: those after the program's name, with that name before them
abbrev pub command_line : List Text → List Text
command_line words = codes "gqlsdl" ∷ words

-- the command takes the words of a line: reading them has no fault
abbrev pub IsTakenLine : List Text → Type 0
IsTakenLine line = fault_of the_command line ≡ []

-- what the command finds in a line that it takes
abbrev pub rows_of_line : List Text → List Row
rows_of_line line = matches_of the_command line

-- whether an option without a value is there
abbrev pub is_there : Text → List Row → Bool
is_there name rows = option_map_or (λ value. bytes_eq value (codes "true")) (first_of name rows) false

-- ---- numbers

-- one to five decimal digits, without a sign
pub record IsNumber (text : Text) : Type 0 where
  pub digits : list_all is_ascii_digit text ≡ true
  pub at_least : 1 ≤ length text
  pub at_most : length text ≤ 5

-- the number that decimal digits spell
abbrev pub number_of : Text → ℕ
number_of text = digits_value 10 text

-- a number from `least` to `most`
pub record IsWithin (least most : ℕ) (text : Text) : Type 0 where
  pub number : IsNumber text
  pub at_least : least ≤ number_of text
  pub at_most : number_of text ≤ most

-- the value of an option, where it is given, is a number from `least` to `most`
abbrev pub IsAbsentOrWithin : (least most : ℕ) → Option Text → Type 0
IsAbsentOrWithin least most None = Unit {0}
IsAbsentOrWithin least most (Some text) = IsWithin least most text

-- ---- good words

-- the width of an indent: 0 to 255 spaces
abbrev pub IsGoodIndent : List Row → Type 0
IsGoodIndent rows = IsAbsentOrWithin 0 255 (first_of (codes "indent") rows)

-- the number of types of a sample: 1 to 20,000
abbrev pub IsGoodSample : List Row → Type 0
IsGoodSample rows = IsAbsentOrWithin 1 20000 (first_of (codes "sample") rows)

-- both, where they are given
pub record AreGoodRows (rows : List Row) : Type 0 where
  pub indent : IsGoodIndent rows
  pub sample : IsGoodSample rows

-- Words are good where the command takes them, and the values of `--indent` and `--sample` are numbers within their ranges.
pub record AreGood (words : List Text) : Type 0 where
  pub taken : IsTakenLine (command_line words)
  pub values : AreGoodRows (rows_of_line (command_line words))

-- ---- what good words ask for

-- the width of an indent that is asked for, in spaces
abbrev pub width_in : List Row → Option ℕ
width_in rows = option_map number_of (first_of (codes "indent") rows)

-- the number of types of the sample that is asked for
abbrev pub sample_in : List Row → Option ℕ
sample_in rows = option_map number_of (first_of (codes "sample") rows)

-- The options of a text: each of the four flags turns its option, a width asks for spaces, and the URLs of scalars are
-- always written.
abbrev pub options_with : List Row → (width : Option ℕ) → Options
options_with rows width = record no_options {
  sorted_fields = is_there (codes "sorted-fields") rows;
  sorted_arguments = is_there (codes "sorted-arguments") rows;
  sorted_enum_items = is_there (codes "sorted-enum-items") rows;
  prefer_single_line_descriptions = is_there (codes "single-line") rows;
  include_specified_by = true;
  use_space_ident = is_some width;
  indent_width = unwrap_or width 2;
}

abbrev pub options_in : List Row → Options
options_in rows = options_with rows (width_in rows)

-- the request is what was found: with `--sample` a sample, and else the text of the input
abbrev pub IsAskedIn : List Row → Request → Type 0
IsAskedIn rows (Publish options) = (sample_in rows ≡ None) × (options_of options ≡ options_in rows)
IsAskedIn rows (Sample options types) = (sample_in rows ≡ Some types) × (options_of options ≡ options_in rows)

-- the words are good, and ask for this
pub record AreWordsFor (words : List Text) (request : Request) : Type 0 where
  pub good : AreGood words
  pub asked : IsAskedIn (rows_of_line (command_line words)) request

-- a sample that is asked for has 1 to 20,000 types
abbrev pub HasGoodSize : Request → Type 0
HasGoodSize (Publish options) = Unit {0}
HasGoodSize (Sample options types) = (1 ≤ types) × (types ≤ 20000)
