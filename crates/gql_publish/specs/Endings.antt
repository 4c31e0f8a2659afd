-- How a run ends: its status, its cause, and what the streams got.
use Rattle.std.specs.Prelude.{ℕ, ◌≡◌, ◌⊎◌, ◌++◌, ◌∷◌, [], List, codes, length, Some, None, ◌≤◌, Ok, Err}
use Rattle.std.specs.declared.option.Option.{Option}
use Rattle.std.specs.declared.string.String.{String}
use Rattle.std.specs.declared.alloc.Global.{Global}
use Rattle.gql_streams.specs.Outside.{Input, Output}
use Rattle.gql_streams.specs.Causes.{SourceFails, SinkFails}
use Rattle.gql_streams.specs.Reading.{ReadsAll, GivesMore}
use Rattle.gql_streams.specs.Writing.{Gets, GetsNothing, GetsPrefix, GetsOrFails, IsFlushed}
use Rattle.gql_text.specs.declared.document.Document.{Document}
use Rattle.gql_sdl_view.specs.Options.{Options}
use Rattle.gql_publish_document.specs.Published.{canonical_text, IsReadBack, TellsView}
use Rattle.gql_publish_document.specs.Verdict.{Refusal, Verdict, HasVerdict}
use Rattle.gql_publish_sample.specs.Sample.{sample}
use Rattle.gql_publish.specs.Lines.{refusal_line}
use Rattle.gql_publish.specs.Requests.{AskForSample, AskForText, GoodWords, options_asked, sample_summary}

-- the most bytes of an input: 16 MiB
abbrev pub input_limit : ℕ
input_limit = 16777216

-- what the streams of a run say of themselves at a moment: the input, the output, and the stream of faults
pub record Streams : Type 0 where
  pub input : Input
  pub output : Output
  pub faults : Output

-- the three together
abbrev pub streams : Input → Output → Output → Streams
streams input output faults = record { input = input; output = output; faults = faults }

-- ---- the endings

-- The ending of a run. That of a refused document has its refusal, and the document is named where its text or, of a sample
-- with this number of types, its summary was to be written.
pub data Ending : Type 0 where
  done : (document : Document) → Ending
  sampled : (types : ℕ) (document : Document) → Ending
  refused : (refusal : Refusal) → Ending
  bad_words : Ending
  read_fault : Ending
  write_fault : (document : Document) → Ending
  sample_fault : (types : ℕ) (document : Document) → Ending
  out_of_memory : Ending
  too_long : Ending

-- the exit status of each ending
abbrev pub exit_status : Ending → ℕ
exit_status (done document) = 0
exit_status (sampled types document) = 0
exit_status (refused refusal) = 1
exit_status bad_words = 2
exit_status read_fault = 3
exit_status (write_fault document) = 4
exit_status (sample_fault types document) = 4
exit_status out_of_memory = 5
exit_status too_long = 6

-- the line of each ending on the stream of faults, with its line feed
abbrev pub report_line : Ending → List ℕ
report_line (done document) = []
report_line (sampled types document) = []
report_line (refused refusal) = refusal_line refusal ++ 10 ∷ []
report_line bad_words = codes "bad words\n"
report_line read_fault = codes "read fault\n"
report_line (write_fault document) = codes "write fault\n"
report_line (sample_fault types document) = codes "write fault\n"
report_line out_of_memory = codes "out of memory\n"
report_line too_long = codes "input too long\n"

-- ---- their causes

-- The source was read to its end and gave at most the limit. What it gave has this verdict, and no other.
pub record IsJudged (before now : Input) (verdict : Verdict) : Type 0 where
  pub bytes : List ℕ
  pub read : ReadsAll before now bytes
  pub within : length bytes ≤ input_limit
  pub has : HasVerdict bytes verdict
  pub only : (other : Verdict) → HasVerdict bytes other → other ≡ verdict

-- The whole input is a valid document, and the output got exactly the spelling of its view, flushed. That text is itself a
-- valid document with the same view, and each valid document has this text exactly where it has this view.
pub record Publishes (o : Options) (before now : Input) (before' now' : Output) (document : Document) : Type 0 where
  pub judged : IsJudged before now (Ok document)
  pub text : Gets before' now' (canonical_text o document)
  pub flush : IsFlushed now'
  pub read_back : IsReadBack o document
  pub one_view : TellsView o document

-- the whole input is a valid document, and the output got a prefix of the spelling of its view
pub record PublishesPrefix (o : Options) (before now : Input) (before' now' : Output) (document : Document) : Type 0 where
  pub judged : IsJudged before now (Ok document)
  pub prefix : GetsPrefix before' now' (canonical_text o document)

-- nothing was read
abbrev pub IsUnread : Input → Input → Type 0
IsUnread before now = now ≡ before

-- the sample with this number of types is a valid document, and the output got exactly its summary, flushed
pub record Summarizes (o : Options) (types : ℕ) (before' now' : Output) (document : Document) : Type 0 where
  pub valid : HasVerdict (sample types) (Ok document)
  pub text : Gets before' now' (sample_summary o types document)
  pub flush : IsFlushed now'

-- the sample is a valid document, and the output got a prefix of its summary
pub record SummarizesPrefix (o : Options) (types : ℕ) (before' now' : Output) (document : Document) : Type 0 where
  pub valid : HasVerdict (sample types) (Ok document)
  pub prefix : GetsPrefix before' now' (sample_summary o types document)

-- What holds of the words, the input and the output at each ending: its cause, and what the output got.
abbrev pub HoldsAt : List (String Global) → Input → Input → Output → Output → Ending → Type 0
HoldsAt words before now before' now' (done document) =
    AskForText words × Publishes (options_asked words) before now before' now' document
HoldsAt words before now before' now' (sampled types document) =
    AskForSample words types × IsUnread before now × Summarizes (options_asked words) types before' now' document
HoldsAt words before now before' now' (refused refusal) =
    AskForText words × IsJudged before now (Err refusal) × GetsNothing before' now'
HoldsAt words before now before' now' bad_words = (GoodWords words → ⊥) × IsUnread before now × GetsNothing before' now'
HoldsAt words before now before' now' read_fault =
    AskForText words × SourceFails before now × GetsNothing before' now'
HoldsAt words before now before' now' (write_fault document) =
    AskForText words × SinkFails before' now' × PublishesPrefix (options_asked words) before now before' now' document
HoldsAt words before now before' now' (sample_fault types document) =
    AskForSample words types × IsUnread before now × SinkFails before' now' × SummarizesPrefix (options_asked words) types before' now' document
HoldsAt words before now before' now' out_of_memory = GetsNothing before' now'
HoldsAt words before now before' now' too_long =
    AskForText words × GivesMore before now input_limit × GetsNothing before' now'

-- The run ended so: with the status of the ending, and with its cause. The stream of faults got the line of the ending or,
-- only where it failed, a prefix of the line.
pub record EndsWith (words : List (String Global)) (status : ℕ) (before now : Streams) (ending : Ending) : Type 0 where
  pub is : status ≡ exit_status ending
  pub holds : HoldsAt words before.input now.input before.output now.output ending
  pub reports : GetsOrFails before.faults now.faults (report_line ending)

-- ---- which of them comes

-- the ending of a run on an input of this verdict: the text of the document is written, or the refusal is reported
abbrev pub ending_of : Verdict → Ending
ending_of (Ok document) = done document
ending_of (Err refusal) = refused refusal

-- the source has bytes of this verdict left, at most the limit
abbrev pub HasLeft : Option (List ℕ) → Verdict → Type 0
HasLeft None verdict = ⊥
HasLeft (Some bytes) verdict = HasVerdict bytes verdict × (length bytes ≤ input_limit)

-- the words ask for the text of the input, which has this verdict and is within the limit, and neither the source nor the
-- output failed
pub record IsUndisturbed (words : List (String Global)) (before now : Streams) (verdict : Verdict) : Type 0 where
  pub asked : AskForText words
  pub input : HasLeft before.input.left verdict
  pub reads : SourceFails before.input now.input → ⊥
  pub writes : SinkFails before.output now.output → ⊥

-- The ending is that of the verdict, unless memory runs out.
abbrev pub EndsAs : List (String Global) → ℕ → Streams → Streams → Verdict → Type 0
EndsAs words status before now verdict = EndsWith words status before now (ending_of verdict) ⊎ EndsWith words status before now out_of_memory

-- A run that is asked for a sample writes its summary, unless the output fails or memory runs out. It never ends as one that
-- refuses a document.
abbrev pub EndsSampled : List (String Global) → ℕ → Streams → Streams → ℕ → Type 0
EndsSampled words status before now types =
    ((document : Document) × EndsWith words status before now (sampled types document))
    ⊎ (((document : Document) × EndsWith words status before now (sample_fault types document)) ⊎ EndsWith words status before now out_of_memory)
