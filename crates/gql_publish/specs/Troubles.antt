-- What is known where a run did not end with its text written, and of the text where it did.
use Rattle.std.specs.Prelude.{ℕ, ◌≡◌, List, string_bytes, Ok, Err, codes, ◌++◌, ◌∷◌, []}
use Rattle.std.specs.declared.string.String.{String}
use Rattle.std.specs.declared.alloc.Global.{Global}
use Rattle.gql_streams.specs.Outside.{Input, Output}
use Rattle.gql_streams.specs.Causes.{SourceFails, SinkFails}
use Rattle.gql_streams.specs.Reading.{GivesMore}
use Rattle.gql_streams.specs.Writing.{GetsNothing}
use Rattle.gql_text.specs.declared.document.Document.{Document}
use Rattle.gql_sdl_view.specs.Options.{Options}
use Rattle.gql_sdl.specs.Values.{options_of}
use Rattle.gql_publish_document.specs.Published.{canonical_text, IsReadBack, TellsView}
use Rattle.gql_publish_document.specs.Verdict.{Refusal, HasVerdict}
use Rattle.gql_publish_load.specs.declared.error.PublishError.{PublishError}
use Rattle.gql_publish_load.specs.declared.error.PublishError.TheVariants as publish_error
use Rattle.gql_publish.specs.Lines.{refusal_line, line_of}
use Rattle.gql_publish_words.specs.Words.{AreWordsFor}
use Rattle.gql_publish_words.specs.declared.request.Request.{Request}
use Rattle.gql_publish_words.specs.declared.request.Request.TheVariants.{Publish, Sample}
use Rattle.gql_publish.specs.Requests.{GoodWords, texts_of}
use Rattle.gql_publish.specs.Endings.{IsJudged, IsUnread, Publishes, PublishesPrefix, Summarizes, SummarizesPrefix, input_limit}
use Rattle.gql_publish.specs.declared.program.Trouble.{Trouble}
use Rattle.gql_publish.specs.declared.program.Trouble.TheVariants.{Refused, BadWords, ReadFault, WriteFault, OutOfMemory, TooLong}

-- The text is the canonical one of the valid document that the bytes are. It is read again as a document with this view,
-- and tells this view.
pub record IsTextOf (o : Options) (text bytes : List ℕ) : Type 0 where
  pub document : Document
  pub valid : HasVerdict bytes (Ok document)
  pub is : text ≡ canonical_text o document
  pub read_back : IsReadBack o document
  pub one_view : TellsView o document

-- the line is that of this refusal, with its line feed
abbrev pub IsLineOf : Refusal → String Global → Type 0
IsLineOf refusal line = string_bytes line ≡ refusal_line refusal ++ 10 ∷ []

-- the trouble comes from these bytes, or is that memory ran out
abbrev pub IsTroubleWith : List ℕ → Trouble → Type 0
IsTroubleWith bytes (Refused line) = (refusal : Refusal) × HasVerdict bytes (Err refusal) × IsLineOf refusal line
IsTroubleWith bytes OutOfMemory = Unit {0}
IsTroubleWith bytes _ = ⊥

-- the line reports the error, which is not that memory ran out
abbrev pub IsRefusalLine : PublishError → List ℕ → Type 0
IsRefusalLine publish_error.OutOfMemory line = ⊥
IsRefusalLine error line = line ≡ line_of error ++ 10 ∷ []

-- the trouble reports the error, or is that memory ran out
abbrev pub ReportsError : PublishError → Trouble → Type 0
ReportsError error (Refused line) = IsRefusalLine error (string_bytes line)
ReportsError error OutOfMemory = Unit {0}
ReportsError error _ = ⊥

-- the exit status of each trouble
abbrev pub status_of : Trouble → ℕ
status_of (Refused line) = 1
status_of BadWords = 2
status_of ReadFault = 3
status_of WriteFault = 4
status_of OutOfMemory = 5
status_of TooLong = 6

-- ---- what is known of the words, the input and the output at a trouble

-- where the text of the input was asked for under these options
abbrev pub ExplainsText : Options → Input → Input → Output → Output → Trouble → Type 0
ExplainsText o before now before' now' (Refused line) =
    ((refusal : Refusal) × IsJudged before now (Err refusal) × IsLineOf refusal line) × GetsNothing before' now'
ExplainsText o before now before' now' BadWords = ⊥
ExplainsText o before now before' now' ReadFault = SourceFails before now × GetsNothing before' now'
ExplainsText o before now before' now' WriteFault =
    SinkFails before' now' × ((document : Document) × PublishesPrefix o before now before' now' document)
ExplainsText o before now before' now' OutOfMemory = GetsNothing before' now'
ExplainsText o before now before' now' TooLong = GivesMore before now input_limit × GetsNothing before' now'

-- where a sample with this number of types was asked for
abbrev pub ExplainsSample : Options → ℕ → Output → Output → Trouble → Type 0
ExplainsSample o types before' now' WriteFault =
    SinkFails before' now' × ((document : Document) × SummarizesPrefix o types before' now' document)
ExplainsSample o types before' now' OutOfMemory = GetsNothing before' now'
ExplainsSample o types before' now' _ = ⊥

-- where this was asked for
abbrev pub ExplainsRequest : Request → Input → Input → Output → Output → Trouble → Type 0
ExplainsRequest (Publish options) before now before' now' t = ExplainsText (options_of options) before now before' now' t
ExplainsRequest (Sample options types) before now before' now' t = IsUnread before now × ExplainsSample (options_of options) types before' now' t

-- what was asked for was written
abbrev pub IsAnswered : Request → Input → Input → Output → Output → Type 0
IsAnswered (Publish options) before now before' now' = (document : Document) × Publishes (options_of options) before now before' now' document
IsAnswered (Sample options types) before now before' now' =
    IsUnread before now × ((document : Document) × Summarizes (options_of options) types before' now' document)

-- the words ask for something, and it was written
abbrev pub AreAnswered : List (String Global) → Input → Input → Output → Output → Type 0
AreAnswered words before now before' now' = (request : Request) × AreWordsFor (texts_of words) request × IsAnswered request before now before' now'

-- whatever the words are
abbrev pub Explains : List (String Global) → Input → Input → Output → Output → Trouble → Type 0
Explains words before now before' now' BadWords = (GoodWords words → ⊥) × IsUnread before now × GetsNothing before' now'
Explains words before now before' now' OutOfMemory = GetsNothing before' now'
Explains words before now before' now' t =
    (request : Request) × AreWordsFor (texts_of words) request × ExplainsRequest request before now before' now' t

-- the line of a trouble, with its line feed
abbrev pub trouble_line : Trouble → List ℕ
trouble_line (Refused line) = string_bytes line
trouble_line BadWords = codes "bad words\n"
trouble_line ReadFault = codes "read fault\n"
trouble_line WriteFault = codes "write fault\n"
trouble_line OutOfMemory = codes "out of memory\n"
trouble_line TooLong = codes "input too long\n"
