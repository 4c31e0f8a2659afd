-- What a reader answers: what its form reads, unless memory ran out.
use Rattle.std.specs.Prelude.{◌≡◌, Bool, if◌then◌else◌, List, [], ◌∷◌, Option, Some, None, option_map, Result, Ok, Err}
use Rattle.gql_grammar.specs.Form.{Terminal, Read, Stop, Syntax, Refused}
use Rattle.gql_text_syntax.specs.declared.stopped.Stopped.{Stopped}
use Rattle.gql_text_syntax.specs.declared.stopped.Stopped.TheVariants as stopped
use Rattle.gql_text_syntax.specs.declared.cursor.Terminal as read
use Rattle.gql_text_syntax.specs.Sorts.{code}

-- the form fails so
abbrev pub Fails : {A : Type 0} → Result A Stop → Stopped → Type 0
Fails outcome (stopped.Syntax at) = outcome ≡ Err (record { fault = Syntax; at = at })
Fails outcome (stopped.Refused sort at) = outcome ≡ Err (record { fault = Refused (code sort); at = at })
Fails outcome stopped.OutOfMemory = Unit {0}

-- the form reads this value, and these terminals are left
abbrev pub Reads : {A : Type 0} → Read A → Result A Stopped → List Terminal → Type 0
Reads outcome (Ok a) new = outcome ≡ Ok (a, new)
Reads outcome (Err e) new = Fails outcome e

-- a token as the grammar sees it
abbrev pub terminal : read.Terminal → Terminal
terminal t = record { sort = code t.sort; text = t.text.now; at = t.at }

-- the same, of a terminal that borrows its text
abbrev pub ReadsTerminal : Read Terminal → Result read.Terminal Stopped → List Terminal → Type 0
ReadsTerminal outcome (Ok a) new = outcome ≡ Ok (terminal a, new)
ReadsTerminal outcome (Err e) new = Fails outcome e

-- the same, of a terminal that may be missing
abbrev pub ReadsOptional : Read (Option Terminal) → Option read.Terminal → List Terminal → Type 0
ReadsOptional outcome found new = outcome ≡ Ok (option_map terminal found, new)

-- the same, of a whole text
abbrev pub Gives : {A : Type 0} → Result A Stop → Result A Stopped → Type 0
Gives outcome (Ok a) = outcome ≡ Ok a
Gives outcome (Err e) = Fails outcome e

-- ---- what some readers read

-- the next terminal, where it is to be taken
abbrev pub one_if : Bool → List Terminal → Read Terminal
one_if there [] = Err (record { fault = Syntax; at = 0 })
one_if there (t ∷ ts) = if there then Ok (t, ts) else Err (record { fault = Syntax; at = t.at })

-- nothing stands for an empty list
abbrev pub or_none : {A : Type 0} → Option (List A) → List A
or_none None = []
or_none (Some a) = a
