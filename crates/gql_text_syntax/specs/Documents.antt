-- What a text spells, and where it stops being a document.
use Rattle.std.specs.Prelude.{◌≡◌, ◌≢◌, ◌<◌, ◌⊎◌, ◌==◌, if◌then◌else◌, ℕ, List, [], ◌∷◌, ◌++◌, map, length, drop, Option, Some, None, Result, Ok, Err}
use Rattle.gql_grammar.specs.Form.{end_of_text, no_token, Fault, Syntax, Refused, Stop, IsStop}
use Rattle.gql_text_lexer.specs.Forms.{StartsNoPiece}
use Rattle.gql_text_lexer.specs.Tokens.{Lexeme, HasTokens}
use Rattle.gql_text_syntax.specs.Sorts.{terminal_of, end_terminal, code}
use Rattle.gql_text_syntax.specs.declared.sort.Sort.TheVariants as sorts
use Rattle.gql_text_syntax.specs.Grammar.{document}
use Rattle.gql_text_syntax.specs.declared.error.ReadError.{ReadError}
use Rattle.gql_text_syntax.specs.declared.error.ReadError.TheVariants as errors
use Rattle.gql_text_syntax.specs.declared.error.What.TheVariants.{Float, Extend}
use Rattle.gql_text_syntax.specs.declared.stopped.Stopped.{Stopped}
use Rattle.gql_text_syntax.specs.declared.stopped.Stopped.TheVariants as stopped
use Rattle.gql_text_syntax.specs.declared.syntax.WrittenDefinition.{WrittenDefinition}

-- all of the text is tokens that spell these definitions
pub record SpelledBy (d : List WrittenDefinition) (text : List ℕ) : Type 0 where
  pub tokens : List Lexeme
  pub has : HasTokens text tokens (length text)
  pub spells : document.spells d (map terminal_of tokens)

-- at this place the text ends, or goes on with no token
abbrev pub Ends : List ℕ → ℕ → ℕ → Type 0
Ends text place sort = ((place ≡ length text) × (sort ≡ end_of_text)) ⊎ ((place < length text) × StartsNoPiece (drop place text) × (sort ≡ no_token))

-- what a limit refuses in a token of this sort
abbrev pub refusal : ℕ → ℕ → ReadError
refusal sort at = if sort == code sorts.Float then errors.Unsupported Float at
    else (if sort == code sorts.WordExtend then errors.Unsupported Extend at
    else (if sort == code sorts.BeyondRange then errors.NumberRange at
    else errors.TooDeep at))

-- the error of a fault at a place
abbrev pub fault_error : Fault → ℕ → ReadError
fault_error Syntax at = errors.Syntax at
fault_error (Refused sort) at = refusal sort at

-- the error of a stop
abbrev pub error_at : Stop → ReadError
error_at s = fault_error s.fault s.at

-- the tokens of the text, as far as they go, and what stands after them, have their first stop so
pub record IsStopOf (text : List ℕ) (e : ReadError) : Type 0 where
  pub tokens : List Lexeme
  pub place : ℕ
  pub sort : ℕ
  pub has : HasTokens text tokens place
  pub ends : Ends text place sort
  pub stop : Stop
  pub first : IsStop document (map terminal_of tokens ++ end_terminal sort place ∷ []) stop
  pub error : e ≡ error_at stop

-- the value, unless memory runs out
abbrev pub IsOrMemory : {A : Type 0} → A → Result A ReadError → Type 0
IsOrMemory a (Ok b) = a ≡ b
IsOrMemory a (Err e) = e ≡ errors.OutOfMemory

-- the error that stands there, unless memory runs out
abbrev pub StopsThere : {A : Type 0} → List ℕ → Result A ReadError → Type 0
StopsThere text (Ok a) = Unit {0}
StopsThere text (Err e) = e ≢ errors.OutOfMemory → IsStopOf text e

-- the answer is this error, unless memory runs out
abbrev pub IsErrorOrMemory : {A : Type 0} → ReadError → Result A ReadError → Type 0
IsErrorOrMemory e (Ok a) = ⊥
IsErrorOrMemory e (Err d) = d ≢ errors.OutOfMemory → d ≡ e

-- ---- the reader's functions

-- the error of what a reader stopped at
abbrev pub error_of : Stopped → ReadError
error_of (stopped.Syntax at) = errors.Syntax at
error_of (stopped.Refused sort at) = refusal (code sort) at
error_of stopped.OutOfMemory = errors.OutOfMemory

-- what stands after the tokens, where they stop before the end or not
abbrev pub end_sort : Option ℕ → ℕ
end_sort None = end_of_text
end_sort (Some at) = no_token
