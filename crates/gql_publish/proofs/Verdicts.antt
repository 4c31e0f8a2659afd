-- A run on an input of a verdict ends as the verdict says, where nothing disturbs it.
use Rattle.std.proofs.Common.{◌≡◌, inl, inr, List, ℕ, ◌++◌, String, Option, None, Some, Ok, Err, sym, ap, subst, ◌∙◌, append-nil, length, ◌≤◌, ◌<◌, arith}
use Rattle.std.proofs.lemmas.List.{length-append}
use Rattle.std.specs.declared.alloc.Global.{Global}
use Rattle.std.specs.Io.KnownBytes.{Consumes, IsAtEnd}
use Rattle.gql_streams.specs.Reading.{GivesMore}
use Rattle.gql_publish_document.specs.Verdict.{Verdict, HasVerdict}
use Rattle.gql_publish.specs.Endings.{IsJudged, EndsWith, EndsAs, IsUndisturbed, HasLeft, Streams, Ending, ending_of, input_limit}
use Rattle.gql_publish.specs.Requests.{AskForSample, AskForText}
use Rattle.gql_publish.specs.Endings.{EndsSampled, sampled, sample_fault}
use Rattle.gql_publish.specs.Endings.{done, refused, bad_words, read_fault, write_fault, out_of_memory, too_long}

-- a source that is at its end gave all that it had
all_given : (left : Option (List ℕ)) (all bytes : List ℕ) → Consumes (Some all) left bytes → IsAtEnd left → all ≡ bytes
all_given None all bytes given end = absurd given
all_given (Some rest) all bytes given end = given ∙ ap (λ (l : List ℕ). bytes ++ l) end ∙ append-nil bytes

-- the verdict on what was read is that on the input
judged_so : (left now : Option (List ℕ)) (bytes : List ℕ) (verdict one : Verdict) → HasLeft left verdict → Consumes left now bytes → IsAtEnd now
    → ((other : Verdict) → HasVerdict bytes other → other ≡ one) → verdict ≡ one
judged_so None now bytes verdict one holds given end only = absurd holds
judged_so (Some all) now bytes verdict one holds given end only = only verdict (subst (λ (l : List ℕ). HasVerdict l verdict) (all_given now all bytes given end) holds.0)

too_much : (limit : ℕ) (all bytes rest : List ℕ) → all ≡ bytes ++ rest → length all ≤ limit → limit < length bytes → ⊥
too_much limit all bytes rest given within more = omega (arith, ap length given, length-append bytes rest)

-- a source that holds no more than the limit gives no more
no_more : (left now : Option (List ℕ)) (bytes : List ℕ) (verdict : Verdict) → HasLeft left verdict → Consumes left now bytes → input_limit < length bytes → ⊥
no_more None now bytes verdict holds given more = holds
no_more (Some all) None bytes verdict holds given more = given
no_more (Some all) (Some rest) bytes verdict holds given more = too_much input_limit all bytes rest given holds.1 more

-- the same ending, of the verdict
same_ending : (words : List (String Global)) (status : ℕ) (before now : Streams) (verdict one : Verdict) → verdict ≡ one → EndsWith words status before now (ending_of one) → EndsAs words status before now verdict
same_ending words status before now verdict one e ends = inl (subst (λ (v : Verdict). EndsWith words status before now (ending_of v)) (sym e) ends)

is_same : (before now : Streams) (verdict one : Verdict) → HasLeft before.input.left verdict → IsJudged before.input now.input one → verdict ≡ one
is_same before now verdict one holds judged = judged_so before.input.left now.input.left judged.bytes verdict one holds judged.read.given judged.read.at_end judged.only

-- no words ask for both
one_request : (words : List (String Global)) (types : ℕ) → AskForText words → AskForSample words types → ⊥
one_request words types t s = let e : None ≡ Some types = sym t.text ∙ s.sample in cc

pub ends_so : (words : List (String Global)) (status : ℕ) (before now : Streams) (verdict : Verdict) → IsUndisturbed words before now verdict
    → (ending : Ending) × EndsWith words status before now ending → EndsAs words status before now verdict
ends_so words status before now verdict u (done document, e) = same_ending words status before now verdict (Ok document) (is_same before now verdict (Ok document) u.input e.holds.1.judged) e
ends_so words status before now verdict u (refused refusal, e) = same_ending words status before now verdict (Err refusal) (is_same before now verdict (Err refusal) u.input e.holds.1) e
ends_so words status before now verdict u (sampled types document, e) = absurd (one_request words types u.asked e.holds.0)
ends_so words status before now verdict u (sample_fault types document, e) = absurd (one_request words types u.asked e.holds.0)
ends_so words status before now verdict u (bad_words, e) = absurd (e.holds.0 u.asked.good)
ends_so words status before now verdict u (read_fault, e) = absurd (u.reads e.holds.1)
ends_so words status before now verdict u (write_fault document, e) = absurd (u.writes e.holds.1)
ends_so words status before now verdict u (out_of_memory, e) = inr e
ends_so words status before now verdict u (too_long, e) =
    let more : GivesMore before.input now.input input_limit = e.holds.1 in
    absurd (no_more before.input.left now.input.left more.bytes verdict u.input more.given more.more)

same_types : (words : List (String Global)) (types other : ℕ) → AskForSample words types → AskForSample words other → other ≡ types
same_types words types other a b = let e : Some other ≡ Some types = sym b.sample ∙ a.sample in cc

-- a run that is asked for a sample
pub sampled_so : (words : List (String Global)) (status : ℕ) (before now : Streams) (types : ℕ) → AskForSample words types → (ending : Ending) × EndsWith words status before now ending → EndsSampled words status before now types
sampled_so words status before now types a (done document, e) = absurd (one_request words types e.holds.0 a)
sampled_so words status before now types a (sampled other document, e) =
    inl (document, subst (λ (n : ℕ). EndsWith words status before now (sampled n document)) (same_types words types other a e.holds.0) e)
sampled_so words status before now types a (refused refusal, e) = absurd (one_request words types e.holds.0 a)
sampled_so words status before now types a (bad_words, e) = absurd (e.holds.0 a.good)
sampled_so words status before now types a (read_fault, e) = absurd (one_request words types e.holds.0 a)
sampled_so words status before now types a (write_fault document, e) = absurd (one_request words types e.holds.0 a)
sampled_so words status before now types a (sample_fault other document, e) =
    inr (inl (document, subst (λ (n : ℕ). EndsWith words status before now (sample_fault n document)) (same_types words types other a e.holds.0) e))
sampled_so words status before now types a (out_of_memory, e) = inr (inr e)
sampled_so words status before now types a (too_long, e) = absurd (one_request words types e.holds.0 a)
