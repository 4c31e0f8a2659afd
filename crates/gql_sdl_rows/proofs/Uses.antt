-- The text of uses of directives says them.
use Rattle.std.proofs.Common.{◌≡◌, ℕ, List, [], ◌∷◌, ◌++◌, map, codes, refl, sym, ap, ap₂, ◌∙◌, append_assoc, subst, Option, Some, None}
use Rattle.std.specs.List.{AllByRecursion, AllZip, join_by}
use Rattle.std.proofs.lemmas.Simd.{map-map}
use Rattle.gql_grammar.specs.Form.{many}
use Rattle.gql_text_syntax.specs.Grammar as g
use Rattle.gql_text_syntax.specs.Reads.{or_none}
use Rattle.gql_text_syntax.specs.Sorts.{code}
use Rattle.gql_text_syntax.specs.declared.sort.Sort.TheVariants.{CloseParen}
use Rattle.gql_text_syntax.specs.declared.syntax.Argument.{Argument}
use Rattle.gql_text_syntax.specs.declared.syntax.Use.{Use}
use Rattle.gql_text_values.specs.ConstValues.{value_text}
use Rattle.gql_text_values.specs.declared.const_value.ConstValue.{ConstValue}
use Rattle.gql_text.specs.DocumentOf.{argument_of, use_of}
use Rattle.gql_text.specs.declared.document.DirectiveUse.{DirectiveUse}
use Rattle.gql_registry_meta.specs.Parts.{Invocation}
use Rattle.gql_registry_meta.specs.Invocations.{argument_text, arguments_text, invocation_text}
use Rattle.gql_sdl_readback.proofs.Texts.{Says}
use Rattle.gql_sdl_readback.proofs.Says.{blank, blanks_behind, name_says, sign_says, sign_then, joined, absent, present, IsThere, mapped, weaken, many_says, some_says, SaysEach}
use Rattle.gql_sdl_readback.proofs.Lists.{separated_says}
use Rattle.gql_sdl_view.specs.Spelling.{uses_text}
use Rattle.gql_sdl_rows.specs.Bare.{bare_use}
use Rattle.gql_sdl_rows.specs.Shown.{invocation_of}
use Rattle.gql_sdl_rows.proofs.Ends.{EndsName}
use Rattle.gql_sdl_rows.proofs.Parts.{IsSoundArgument, IsSoundInvocation, AreSoundInvocations, AreSoundUses}
use Rattle.gql_sdl_rows.proofs.Values.{EndsValue, key_says, value_says}

-- ---- arguments

abbrev pub IsArgument : List ℕ × ConstValue → Argument → Type 0
IsArgument a x = argument_of x ≡ a

-- Name ":" Value
argument_says : (a : List ℕ × ConstValue) (rest : List ℕ) → IsSoundArgument a → EndsValue rest → Says g.argument (IsArgument a) (argument_text a) rest
unfolding g.argument
argument_says a rest i k =
    rw (append_assoc a.0 (codes ": ") (value_text a.1))
    (mapped (joined a.0 (codes ": " ++ value_text a.1) rest (key_says a.0 _ i.name refl) (sign_then refl refl refl (blank refl (value_says a.1 rest i.value k))))
    (λ p h. ap₂ (λ (n : List ℕ) (v : ConstValue). (n, v)) h.0 h.1))

all_arguments : (args : List (List ℕ × ConstValue)) → AllByRecursion IsSoundArgument args → SaysEach g.argument IsArgument argument_text EndsValue args
all_arguments [] a = tt
all_arguments (x ∷ xs) a = (λ rest k. argument_says x rest a.0 k, all_arguments xs a.1)

arguments_are : (args : List (List ℕ × ConstValue)) (xs : List Argument) → AllZip IsArgument args xs → map argument_of xs ≡ args
arguments_are [] [] h = refl
arguments_are [] (x ∷ xs) h = absurd h
arguments_are (a ∷ args) [] h = absurd h
arguments_are (a ∷ args) (x ∷ xs) h = ap₂ (λ (y : List ℕ × ConstValue) (ys : List (List ℕ × ConstValue)). y ∷ ys) h.0 (arguments_are args xs h.1)

abbrev AreArguments : List (List ℕ × ConstValue) → List Argument → Type 0
AreArguments args xs = map argument_of xs ≡ args

-- "(" (Name ":" Value)+ ")"
parenthesized_says : (a : List ℕ × ConstValue) (args : List (List ℕ × ConstValue)) (rest : List ℕ) → AllByRecursion IsSoundArgument (a ∷ args)
    → Says (g.parenthesized g.argument) (AreArguments (a ∷ args)) (arguments_text (a ∷ args)) rest
unfolding g.parenthesized
parenthesized_says a args rest i =
    mapped (sign_then refl refl refl (joined (join_by argument_text (codes ", ") (a ∷ args)) (codes ")") rest
    (some_says g.argument (λ h. h) (separated_says g.argument IsArgument argument_text EndsValue (codes ", ") (refl, (refl, tt)) (λ r. refl) (a ∷ args) (codes ")" ++ rest) (all_arguments (a ∷ args) i) refl))
    (sign_says 41 (code CloseParen) rest refl refl refl)))
    (λ p h. arguments_are (a ∷ args) p.1.0 h.0)

arguments_say : (args : List (List ℕ × ConstValue)) (rest : List ℕ) → AllByRecursion IsSoundArgument args → Says (g.arguments g.argument) (AreArguments args) (arguments_text args) rest
unfolding g.arguments
arguments_say [] rest i = mapped (absent (g.parenthesized g.argument) rest) (λ o h. rw h refl)
arguments_say (a ∷ args) rest i = mapped (present (parenthesized_says a args rest i)) (λ o h. by_option o h)
  where
    by_option : (o : Option (List Argument)) → IsThere (AreArguments (a ∷ args)) o → AreArguments (a ∷ args) (or_none o)
    by_option None h = absurd h
    by_option (Some xs) h = h

-- ---- uses

-- a use as it is written
abbrev pub written_use : Use → Invocation
written_use x = invocation_of (use_of x)

use_same : (u : Invocation) (name : List ℕ) (args : List (List ℕ × ConstValue)) → name ≡ u.name → args ≡ u.args → record { name = name; args = args } ≡ u
use_same u name args e f = rw (e, f) refl

-- "@" Name ("(" (Name ":" Value)+ ")")?
use_says : (u : Invocation) (rest : List ℕ) → IsSoundInvocation u → EndsName rest → Says g.directive_use (λ x. written_use x ≡ u) (invocation_text u) rest
unfolding g.directive_use
use_says u rest i k =
    mapped (sign_then refl refl refl (joined u.name (arguments_text u.args) rest (name_says u.name _ i.name (ends u.args)) (arguments_say u.args rest i.arguments)))
    (λ p h. use_same u p.1.0.text (map argument_of p.1.1) h.0 h.1)
  where
    ends : (args : List (List ℕ × ConstValue)) → EndsName (arguments_text args ++ rest)
    ends [] = k
    ends (a ∷ args) = refl

all_uses : (us : List Invocation) → AreSoundInvocations us → SaysEach g.directive_use (λ u x. written_use x ≡ u) (λ u. codes " " ++ invocation_text u) EndsName us
all_uses [] a = tt
all_uses (u ∷ us) a = (λ rest k. blank refl (use_says u rest a.0 k), all_uses us a.1)

-- uses as they are written
abbrev pub AreUses : List Invocation → List Use → Type 0
AreUses us xs = map written_use xs ≡ us

uses_are : (us : List Invocation) (xs : List Use) → AllZip (λ u x. written_use x ≡ u) us xs → AreUses us xs
uses_are [] [] h = refl
uses_are [] (x ∷ xs) h = absurd h
uses_are (u ∷ us) [] h = absurd h
uses_are (u ∷ us) (x ∷ xs) h = ap₂ (λ (y : Invocation) (ys : List Invocation). y ∷ ys) h.0 (uses_are us xs h.1)

-- any number of uses, each after a space
pub uses_say : (us : List Invocation) (rest : List ℕ) → AreSoundInvocations us → EndsName rest → Says (many g.directive_use) (AreUses us) (uses_text us) rest
uses_say us rest a k =
    weaken _ (many_says g.directive_use (λ u x. written_use x ≡ u) (λ u. codes " " ++ invocation_text u) EndsName (λ u r. refl) us rest (all_uses us a) k) (λ xs h. uses_are us xs h)

-- uses, and LF
pub uses_line : (us : List Invocation) (rest : List ℕ) → AreSoundInvocations us → Says (many g.directive_use) (AreUses us) (uses_text us ++ codes "\n") rest
uses_line us rest a = blanks_behind (uses_text us) (codes "\n") rest (refl, tt) (uses_say us (codes "\n" ++ rest) a refl)

-- ---- the uses of a document

-- a use at the place 0
abbrev at_zero : Invocation → DirectiveUse
at_zero u = record { name = u.name; args = u.args; at = 0 }

bare_are : (us : List DirectiveUse) → map bare_use us ≡ map at_zero (map invocation_of us)
bare_are us = sym (map-map at_zero invocation_of us)

-- the uses that were read are those of the document, apart from places
pub uses_same : (us : List Invocation) (given : List DirectiveUse) (xs : List Use) → map invocation_of given ≡ us → AreUses us xs → map bare_use (map use_of xs) ≡ map bare_use given
uses_same us given xs e h = bare_are (map use_of xs) ∙ ap (map at_zero) (map-map invocation_of use_of xs ∙ h ∙ sym e) ∙ sym (bare_are given)

-- uses that show sound ones are sound
pub shown_sound : (us : List Invocation) (given : List DirectiveUse) → map invocation_of given ≡ us → AreSoundUses given → AreSoundInvocations us
shown_sound us given e a = subst AreSoundInvocations e (each given a)
  where
    each : (given : List DirectiveUse) → AreSoundUses given → AreSoundInvocations (map invocation_of given)
    each [] a = tt
    each (u ∷ us) a = (a.0, each us a.1)
