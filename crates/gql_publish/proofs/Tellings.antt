-- How a run ends, from what its parts answered.
use Rattle.std.proofs.Common.{◌≡◌, List, [], ℕ, String, Result, Ok, Err, OnOk, IfOk, IfErr, refl, sym, subst, ◌∙◌, length, ◌≤◌}
use Rattle.std.specs.declared.alloc.Global.{Global}
use Rattle.gql_streams.specs.Outside.{Input, Output}
use Rattle.gql_streams.specs.Reading.{ReadsAll}
use Rattle.gql_streams.specs.Writing.{Gets, GetsNothing, GetsPrefix, GetsOrFails, IsFlushed}
use Rattle.gql_text.specs.declared.document.Document.{Document}
use Rattle.gql_sdl_view.specs.Options.{Options}
use Rattle.gql_publish_document.specs.Verdict.{Verdict, HasVerdict}
use Rattle.gql_publish_document.proofs.OneVerdict.{one_verdict}
use Rattle.gql_publish_load.specs.Canonical.{IsCanonical}
use Rattle.gql_sdl.specs.declared.options.SDLExportOptions.{SDLExportOptions}
use Rattle.gql_publish_words.specs.Words.{AreWordsFor}
use Rattle.gql_publish_words.specs.declared.request.Request.{Request}
use Rattle.gql_publish_words.specs.declared.request.Request.TheVariants.{Publish, Sample}
use Rattle.gql_publish.specs.Requests.{AskForSample, AskForText, texts_of}
use Rattle.gql_publish.specs.Endings.{IsJudged, Publishes, PublishesPrefix, Summarizes, SummarizesPrefix, EndsWith, Streams, HoldsAt, Ending, exit_status, report_line, input_limit}
use Rattle.gql_publish.specs.Endings.{done, sampled, sample_fault, refused, bad_words, read_fault, write_fault, out_of_memory, too_long}
use Rattle.gql_publish.specs.Troubles.{AreAnswered, IsTextOf, IsTroubleWith, Explains, ExplainsRequest, ExplainsText, status_of, trouble_line}
use Rattle.gql_publish.specs.declared.program.Trouble.{Trouble}
use Rattle.gql_publish.specs.declared.program.Trouble.TheVariants as trouble

-- the canonical text of a document is its text
pub text_is : (o : Options) (bytes text : List ℕ) → (d : Document) × HasVerdict bytes (Ok d) × IsCanonical o d text → IsTextOf o text bytes
text_is o bytes text (d, valid, is) = record { document = d; valid = valid; is = is.is; read_back = is.read_back; one_view = is.one_view }

-- what was read has this verdict, and so no other
judged : (before now : Input) (bytes : List ℕ) (verdict : Verdict) → ReadsAll before now bytes → length bytes ≤ input_limit → HasVerdict bytes verdict → IsJudged before now verdict
judged before now bytes verdict read within has = record { bytes = bytes; read = read; within = within; has = has; only = λ other h. one_verdict bytes other verdict h has }

-- a valid document that was read, and the text of its view that was written
pub published : (o : Options) (before now : Input) (before' now' : Output) (bytes text : List ℕ) → ReadsAll before now bytes → length bytes ≤ input_limit
    → IsTextOf o text bytes → Gets before' now' text → IsFlushed now' → (document : Document) × Publishes o before now before' now' document
published o before now before' now' bytes text read within t gets all = (
  t.document,
  record {
    judged = judged before now bytes (Ok t.document) read within t.valid;
    text = subst (Gets before' now') t.is gets;
    flush = all;
    read_back = t.read_back;
    one_view = t.one_view;
  },
)

-- a valid document that was read, and a prefix of the text of its view that was written
pub published_prefix : (o : Options) (before now : Input) (before' now' : Output) (bytes text : List ℕ) → ReadsAll before now bytes → length bytes ≤ input_limit
    → IsTextOf o text bytes → GetsPrefix before' now' text → (document : Document) × PublishesPrefix o before now before' now' document
published_prefix o before now before' now' bytes text read within t gets = (
  t.document,
  record {
    judged = judged before now bytes (Ok t.document) read within t.valid;
    prefix = subst (GetsPrefix before' now') t.is gets;
  },
)

-- a trouble with bytes that were read to their end
pub explains_text : (o : Options) (before now : Input) (output : Output) (bytes : List ℕ) (t : Trouble) → ReadsAll before now bytes → length bytes ≤ input_limit → GetsNothing output output → IsTroubleWith bytes t
    → ExplainsText o before now output output t
explains_text o before now output bytes (trouble.Refused line) read within none h = ((h.0, judged before now bytes (Err h.0) read within h.1, h.2), none)
explains_text o before now output bytes trouble.OutOfMemory read within none h = none
explains_text o before now output bytes trouble.BadWords read within none h = absurd h
explains_text o before now output bytes trouble.ReadFault read within none h = absurd h
explains_text o before now output bytes trouble.WriteFault read within none h = absurd h
explains_text o before now output bytes trouble.TooLong read within none h = absurd h

-- ---- what the words ask for

asked_text : (words : List (String Global)) (options : SDLExportOptions) → AreWordsFor (texts_of words) (Publish options) → AskForText words
asked_text words options w = record { good = w.good; text = w.asked.0 }

asked_sample : (words : List (String Global)) (options : SDLExportOptions) (types : ℕ) → AreWordsFor (texts_of words) (Sample options types) → AskForSample words types
asked_sample words options types w = record { good = w.good; sample = w.asked.0 }

-- a trouble with what the words ask for
pub explains : (words : List (String Global)) (before now : Input) (before' now' : Output) (t : Trouble) (request : Request) → AreWordsFor (texts_of words) request → ExplainsRequest request before now before' now' t
    → Explains words before now before' now' t
explains words before now before' now' (trouble.Refused line) request w h = (request, w, h)
explains words before now before' now' trouble.ReadFault request w h = (request, w, h)
explains words before now before' now' trouble.WriteFault request w h = (request, w, h)
explains words before now before' now' trouble.TooLong request w h = (request, w, h)
explains words before now before' now' trouble.OutOfMemory (Publish options) w h = h
explains words before now before' now' trouble.OutOfMemory (Sample options types) w h = h.1
explains words before now before' now' trouble.BadWords (Publish options) w h = absurd h
explains words before now before' now' trouble.BadWords (Sample options types) w h = absurd h.1

-- the ending of a run that wrote what the words ask for
pub answered : (words : List (String Global)) (before now : Input) (before' now' : Output) → AreAnswered words before now before' now'
    → (ending : Ending) × (0 ≡ exit_status ending) × (report_line ending ≡ []) × HoldsAt words before now before' now' ending
answered words before now before' now' (Publish options, w, (document, is)) =
    (done document, refl, refl, (asked_text words options w, subst (λ (o : Options). Publishes o before now before' now' document) w.asked.1 is))
answered words before now before' now' (Sample options types, w, (unread, (document, is))) =
    (sampled types document, refl, refl, (asked_sample words options types w, unread, subst (λ (o : Options). Summarizes o types before' now' document) w.asked.1 is))

-- the ending of a trouble: it has the status and the line of the trouble
pub ended_by : (words : List (String Global)) (before now : Input) (before' now' : Output) (t : Trouble) → Explains words before now before' now' t
    → (ending : Ending) × (status_of t ≡ exit_status ending) × (trouble_line t ≡ report_line ending) × HoldsAt words before now before' now' ending
ended_by words before now before' now' trouble.BadWords h = (bad_words, refl, refl, h)
ended_by words before now before' now' trouble.OutOfMemory h = (out_of_memory, refl, refl, h)
ended_by words before now before' now' (trouble.Refused line) (Publish options, w, ((refusal, is, e), none)) = (refused refusal, refl, e, (asked_text words options w, is, none))
ended_by words before now before' now' (trouble.Refused line) (Sample options types, w, h) = absurd h.1
ended_by words before now before' now' trouble.ReadFault (Publish options, w, (fails, none)) = (read_fault, refl, refl, (asked_text words options w, fails, none))
ended_by words before now before' now' trouble.ReadFault (Sample options types, w, h) = absurd h.1
ended_by words before now before' now' trouble.WriteFault (Publish options, w, (fails, (document, is))) =
    (write_fault document, refl, refl, (asked_text words options w, fails, subst (λ (o : Options). PublishesPrefix o before now before' now' document) w.asked.1 is))
ended_by words before now before' now' trouble.WriteFault (Sample options types, w, (unread, (fails, (document, is)))) =
    (sample_fault types document, refl, refl, (asked_sample words options types w, unread, fails, subst (λ (o : Options). SummarizesPrefix o types before' now' document) w.asked.1 is))
ended_by words before now before' now' trouble.TooLong (Publish options, w, (more, none)) = (too_long, refl, refl, (asked_text words options w, more, none))
ended_by words before now before' now' trouble.TooLong (Sample options types, w, h) = absurd h.1

-- a run that ended with a trouble, and reported it
pub ends : (words : List (String Global)) (before now : Streams) (status : ℕ) (line : List ℕ) (t : Trouble)
    → Explains words before.input now.input before.output now.output t → status ≡ status_of t → line ≡ trouble_line t → GetsOrFails before.faults now.faults line
    → (ending : Ending) × EndsWith words status before now ending
ends words before now status line t explained is same reports = by (ended_by words before.input now.input before.output now.output t explained)
  where
    by : (ending : Ending) × (status_of t ≡ exit_status ending) × (trouble_line t ≡ report_line ending) × HoldsAt words before.input now.input before.output now.output ending
        → (ending : Ending) × EndsWith words status before now ending
    by (ending, s, l, holds) = (
      ending,
      record {
        is = is ∙ s;
        holds = holds;
        reports = subst (GetsOrFails before.faults now.faults) (same ∙ l) reports;
      },
    )

-- a run that wrote what the words ask for
pub ends_well : (words : List (String Global)) (before now : Streams) → AreAnswered words before.input now.input before.output now.output → GetsOrFails before.faults now.faults [] → (ending : Ending) × EndsWith words 0 before now ending
ends_well words before now is reports = by (answered words before.input now.input before.output now.output is)
  where
    by : (ending : Ending) × (0 ≡ exit_status ending) × (report_line ending ≡ []) × HoldsAt words before.input now.input before.output now.output ending → (ending : Ending) × EndsWith words 0 before now ending
    by (ending, s, l, holds) = (ending, record { is = s; holds = holds; reports = subst (GetsOrFails before.faults now.faults) (sym l) reports })

-- what is known of an answer, in other words
pub on_ok : {T E : Type 0} (r : Result T E) (P Q : Type 0) → OnOk r P → (P → Q) → OnOk r Q
on_ok (Ok x) P Q h k = k h
on_ok (Err e) P Q h k = tt

pub if_ok : {T E : Type 0} (r : Result T E) (P Q : T → Type 0) → IfOk r P → ((x : T) → P x → Q x) → IfOk r Q
if_ok (Ok x) P Q h k = k x h
if_ok (Err e) P Q h k = tt

pub if_err : {T E : Type 0} (r : Result T E) (P Q : E → Type 0) → IfErr r P → ((e : E) → P e → Q e) → IfErr r Q
if_err (Ok x) P Q h k = tt
if_err (Err e) P Q h k = k e h
