use Rattle.std.proofs.Common.{[], ◌≡◌, true, refl, ap, ◌∙◌, sym, map, inl, inr}
use Rattle.clap.specs.Simple.{is_simple, matches_of}
use Rattle.clap.specs.Faults.{fault_of, is_simple_and_free}
use Rattle.clap.proofs.OnLiterals.{clap_on_literals}
use Rattle.clap.specs.Kinds.{Kinds, HasKind}
use Rattle.clap.specs.Values.{kind_of}
use Rattle.clap.specs.declared.error.Error.{Error}
use Rattle.clap.specs.declared.error.kind.ErrorKind.TheVariants as kind
use Rattle.gql_publish_words.specs.Words.{the_command}
use Rattle.gql_publish_words.proofs.command.matches_of.Goals as goal

simple : is_simple the_command ≡ true
unfolding the_command clap_on_literals
simple = refl

free : is_simple_and_free the_command ≡ true
unfolding the_command clap_on_literals
free = refl

pub returns-in-Ok-clause-rows : goal.returns-in-Ok-clause-rows
returns-in-Ok-clause-rows c =
    let same = c.in_ok-command.ensures in
    (c.in-Ok.ensures.matches (ap is_simple same ∙ simple)).0 ∙ ap (λ a. matches_of a (map (λ w. w.now) c.args.line.now)) same

pub returns-in-Ok-clause-taken : goal.returns-in-Ok-clause-taken
returns-in-Ok-clause-taken c =
    let same = c.in_ok-command.ensures in
    sym (ap (λ a. fault_of a (map (λ w. w.now) c.args.line.now)) same) ∙ c.in-Ok.ensures.kinds (ap is_simple_and_free same ∙ free)

-- an error that is not want of memory is one of the kinds, so there are some
some_kind : (e : Error) (kinds : Kinds) → HasKind kinds e → (kind_of e ≡ kind.OutOfMemory → ⊥) → kinds ≡ [] → ⊥
some_kind e kinds h other none = elim h [ inl memory ↦ other memory | inr among ↦ rw none at among ]

pub returns-in-Err-clause-bad : goal.returns-in-Err-clause-bad
returns-in-Err-clause-bad c bad taken =
    let same = c.in_ok-command.ensures in
    some_kind c.in-Err.error _ (c.in-Err.ensures.kinds (ap is_simple_and_free same ∙ free)) (c.words_error.ensures (cc bad))
    (ap (λ a. fault_of a (map (λ w. w.now) c.args.line.now)) same ∙ taken)
