-- What the words of a run ask for.
use Rattle.std.specs.Prelude.{ℕ, ◌≡◌, ◌++◌, List, map, codes, decimal, length, None, Some, string_bytes}
use Rattle.std.specs.declared.string.String.{String}
use Rattle.std.specs.declared.alloc.Global.{Global}
use Rattle.gql_text.specs.declared.document.Document.{Document}
use Rattle.gql_registry_meta.specs.Parts.{Text}
use Rattle.gql_sdl_view.specs.Options.{Options}
use Rattle.gql_publish_document.specs.Published.{canonical_text}
use Rattle.gql_publish_sample.specs.Sample.{sample}
use Rattle.gql_publish_words.specs.Words.{AreGood, command_line, options_in, rows_of_line, sample_in}

-- the words as texts
abbrev pub texts_of : List (String Global) → List Text
texts_of words = map string_bytes words

-- the words are good
abbrev pub GoodWords : List (String Global) → Type 0
GoodWords words = AreGood (texts_of words)

-- the options of the text that they ask for
abbrev pub options_asked : List (String Global) → Options
options_asked words = options_in (rows_of_line (command_line (texts_of words)))

-- the words are good, and ask for the text of the input
pub record AskForText (words : List (String Global)) : Type 0 where
  pub good : GoodWords words
  pub text : sample_in (rows_of_line (command_line (texts_of words))) ≡ None

-- the words are good, and ask for a sample with this number of types
pub record AskForSample (words : List (String Global)) (types : ℕ) : Type 0 where
  pub good : GoodWords words
  pub sample : sample_in (rows_of_line (command_line (texts_of words))) ≡ Some types

-- ---- samples

-- a number of types, and the lengths in bytes of two texts
abbrev pub summary_line : (types from to : ℕ) → Text
summary_line types from to = codes "types " ++ (decimal types ++ (codes " in " ++ (decimal from ++ (codes " out " ++ (decimal to ++ codes "\n")))))

-- of a sample with this number of types: the lengths of its text, and of the canonical text of the document that it is
abbrev pub sample_summary : Options → ℕ → Document → Text
sample_summary o types document = summary_line types (length (sample types)) (length (canonical_text o document))
