-- Forms of a grammar: which tokens spell a value of the form, which begin one, which token breaks a limit, and how the
-- form is read with one token of sight. A grammar is a list of forms, one for each of its rules, made of each other by
-- the combinators below. That they agree is `Exact` of proofs/Stops: what a form reads is what the tokens spell, the only
-- value that they spell, and a fault stands at the first token with which they begin none.
use Rattle.std.specs.Prelude.{◌≡◌, ◌<◌, ◌≤◌, ℕ, zero, suc, ◌+◌, Bool, true, false, not, ◌||◌, ◌&&◌, if◌then◌else◌, ◌==◌, nat_lt, List, [], ◌∷◌, ◌++◌, length, Option, Some, None, Result, Ok, Err, ◌⊎◌}

-- a token as a grammar sees it: its sort, its text and its place
pub record Terminal : Type 0 where
  pub sort : ℕ
  pub text : List ℕ
  pub at : ℕ

-- After the tokens of a text stands one more terminal, of one of two sorts that no form takes.
-- the sort of the end of a text
abbrev pub end_of_text : ℕ
end_of_text = 0

-- the sort of a place where the text goes on and no token stands
abbrev pub no_token : ℕ
no_token = 1

-- the sort is one of the two
abbrev pub is_end : ℕ → Bool
is_end sort = nat_lt sort 2

-- what is wrong at a token: the grammar has no such token there, or it is one of this sort that a limit refuses
pub data Fault : Type 0 where
  Syntax : Fault
  Refused : ℕ → Fault

-- a fault and its place
pub record Stop : Type 0 where
  pub fault : Fault
  pub at : ℕ

-- the place of the next token
abbrev pub place : List Terminal → ℕ
place [] = 0
place (t ∷ ts) = t.at

-- what reading gives: a value and the tokens after it, or a stop
abbrev pub Read : Type 0 → Type 0
Read A = Result (A × List Terminal) Stop

infixl 10 ◌>>=◌
-- the second of the value of the first, or the stop of the first
abbrev pub ◌>>=◌ : {A B : Type 0} → Result A Stop → (A → Result B Stop) → Result B Stop
(Ok x) >>= f = f x
(Err e) >>= f = Err e

-- ---- sets of sorts

-- the sort is in the set
abbrev pub among : ℕ → List ℕ → Bool
among s [] = false
among s (x ∷ xs) = (s == x) || among s xs

-- no sort is in both sets
abbrev pub apart : List ℕ → List ℕ → Bool
apart [] ys = true
apart (x ∷ xs) ys = not (among x ys) && apart xs ys

-- the next token is of one of these sorts
abbrev pub starts : List ℕ → List Terminal → Bool
starts set [] = false
starts set (t ∷ ts) = among t.sort set

-- ---- forms

pub record Form (A : Type 0) : Type 1 where
  -- the sorts that a spelling begins with
  pub first : List ℕ
  -- the sorts that may go on after a whole spelling
  pub more : List ℕ
  -- whether no token at all is a spelling
  pub empty : Bool
  -- the tokens are a spelling of the value
  pub spells : A → List Terminal → Type 0
  -- the tokens are the prefix of a spelling, or of one up to a token that breaks a limit
  pub begins : List Terminal → Type 0
  -- after these tokens the token breaks a limit of the form
  pub breaks : List Terminal → Terminal → Type 0
  -- the value that a prefix spells and the tokens after it, or where there is none
  pub read : List Terminal → Read A

-- the next token, where it is of one of these sorts
abbrev pub one_at : List ℕ → List Terminal → Read Terminal
one_at set [] = Err (record { fault = Syntax; at = 0 })
one_at set (t ∷ ts) = if among t.sort set then Ok (t, ts) else Err (record { fault = Syntax; at = t.at })

-- one token of these sorts
abbrev pub one : List ℕ → Form Terminal
one set = record {
  first = set;
  more = [];
  empty = false;
  spells = λ t ts. (among t.sort set ≡ true) × (ts ≡ t ∷ []);
  begins = λ ts. (ts ≡ []) ⊎ ((t : Terminal) × (among t.sort set ≡ true) × (ts ≡ t ∷ []));
  breaks = λ ts t. ⊥;
  read = one_at set;
}

-- what reads the one and then the other
abbrev pub seq_read : {A B : Type 0} → (List Terminal → Read A) → (List Terminal → Read B) → List Terminal → Read (A × B)
seq_read f g ts = f ts >>= λ x. g x.1 >>= λ y. Ok ((x.0, y.0), y.1)

-- one form, and then another
abbrev pub seq : {A B : Type 0} → Form A → Form B → Form (A × B)
seq {A} {B} f g = record {
  first = if f.empty then f.first ++ g.first else f.first;
  more = if g.empty then f.more ++ g.more else g.more;
  empty = f.empty && g.empty;
  spells = λ p ts. (u : List Terminal) × (v : List Terminal) × f.spells p.0 u × g.spells p.1 v × (ts ≡ u ++ v);
  begins = λ ts. f.begins ts ⊎ ((a : A) × (u : List Terminal) × (v : List Terminal) × f.spells a u × g.begins v × (ts ≡ u ++ v));
  breaks = λ ts t. f.breaks ts t ⊎ ((a : A) × (u : List Terminal) × (v : List Terminal) × f.spells a u × g.breaks v t × (ts ≡ u ++ v));
  read = seq_read f.read g.read;
}

-- no tokens for none, and what spells the value for some
abbrev pub opt_spells : {A : Type 0} → (A → List Terminal → Type 0) → Option A → List Terminal → Type 0
opt_spells spells None ts = ts ≡ []
opt_spells spells (Some a) ts = spells a ts

-- what reads a value where the next token is of the first sorts
abbrev pub opt_read : {A : Type 0} → List ℕ → (List Terminal → Read A) → List Terminal → Read (Option A)
opt_read first read ts = if starts first ts then (read ts >>= λ x. Ok (Some x.0, x.1)) else Ok (None, ts)

-- a form or nothing
abbrev pub opt : {A : Type 0} → Form A → Form (Option A)
opt f = record {
  first = f.first;
  more = f.first ++ f.more;
  empty = true;
  spells = opt_spells f.spells;
  begins = f.begins;
  breaks = f.breaks;
  read = opt_read f.first f.read;
}

-- the tokens of each value, one after the other
abbrev pub many_spell : {A : Type 0} → (A → List Terminal → Type 0) → List A → List Terminal → Type 0
many_spell spells [] ts = ts ≡ []
many_spell spells (a ∷ rest) ts = (u : List Terminal) × (v : List Terminal) × spells a u × many_spell spells rest v × (ts ≡ u ++ v)

-- what reads one, as often as the next token is one of the first sorts; the number bounds the turns
abbrev pub many_from : {A : Type 0} → List ℕ → (List Terminal → Read A) → ℕ → List Terminal → Read (List A)
many_from first read zero ts = Ok ([], ts)
many_from first read (suc n) ts = if starts first ts then (read ts >>= λ x. many_from first read n x.1 >>= λ y. Ok (x.0 ∷ y.0, y.1)) else Ok ([], ts)

-- the same, with a number of turns that suffices
unfoldable pub many_read : {A : Type 0} → List ℕ → (List Terminal → Read A) → List Terminal → Read (List A)
many_read first read ts = many_from first read (length ts) ts

-- any number of one form
abbrev pub many : {A : Type 0} → Form A → Form (List A)
many {A} f = record {
  first = f.first;
  more = f.first ++ f.more;
  empty = true;
  spells = many_spell f.spells;
  begins = λ ts. (whole : List A) × (u : List Terminal) × (v : List Terminal) × many_spell f.spells whole u × f.begins v × (ts ≡ u ++ v);
  breaks = λ ts t. (whole : List A) × (u : List Terminal) × (v : List Terminal) × many_spell f.spells whole u × f.breaks v t × (ts ≡ u ++ v);
  read = many_read f.first f.read;
}

-- one form or another, of one kind of value
abbrev pub alt : {A : Type 0} → Form A → Form A → Form A
alt f g = record {
  first = f.first ++ g.first;
  more = f.more ++ g.more;
  empty = f.empty || g.empty;
  spells = λ a ts. f.spells a ts ⊎ g.spells a ts;
  begins = λ ts. f.begins ts ⊎ g.begins ts;
  breaks = λ ts t. f.breaks ts t ⊎ g.breaks ts t;
  read = λ ts. if starts f.first ts then f.read ts else g.read ts;
}

-- what reads a value and makes the other of it
abbrev pub map_read : {A B : Type 0} → (A → B) → (List Terminal → Read A) → List Terminal → Read B
map_read h read ts = read ts >>= λ x. Ok (h x.0, x.1)

infixr 5 ◌<$>◌
-- the same tokens, for a value that is made of the other
abbrev pub ◌<$>◌ : {A B : Type 0} → (A → B) → Form A → Form B
◌<$>◌ {A} h f = record {
  first = f.first;
  more = f.more;
  empty = f.empty;
  spells = λ b ts. (a : A) × f.spells a ts × (b ≡ h a);
  begins = f.begins;
  breaks = f.breaks;
  read = map_read h f.read;
}

-- no value, and a stop at the next token: its sort is refused, or it is a syntax fault
abbrev pub refused_at : {A : Type 0} → List ℕ → List Terminal → Read A
refused_at set [] = Err (record { fault = Syntax; at = 0 })
refused_at set (t ∷ ts) = Err (record { fault = if among t.sort set then Refused t.sort else Syntax; at = t.at })

-- a token of these sorts, which a limit refuses: it may begin the form, and no spelling has it
abbrev pub refused : {A : Type 0} → List ℕ → Form A
refused set = record {
  first = set;
  more = [];
  empty = false;
  spells = λ a ts. ⊥;
  begins = λ ts. (ts ≡ []) ⊎ ((t : Terminal) × (among t.sort set ≡ true) × (ts ≡ t ∷ []));
  breaks = λ ts t. (ts ≡ []) × (among t.sort set ≡ true);
  read = refused_at set;
}

-- what reads one, and then as many as there are
abbrev pub some_read : {A : Type 0} → List ℕ → (List Terminal → Read A) → List Terminal → Read (List A)
some_read first read = map_read (λ p. p.0 ∷ p.1) (seq_read read (many_read first read))

-- at least one of a form
abbrev pub some : {A : Type 0} → Form A → Form (List A)
some f = (λ p. p.0 ∷ p.1) <$> seq f (many f)

-- the same form, whose sorts are written out
abbrev pub declared : {A : Type 0} → List ℕ → List ℕ → Bool → Form A → Form A
declared first more empty f = record { first = first; more = more; empty = empty; spells = f.spells; begins = f.begins; breaks = f.breaks; read = f.read }

-- the same form, whose limit is said in other words
abbrev pub limited : {A : Type 0} → (List Terminal → Terminal → Type 0) → Form A → Form A
limited breaks f = record { first = f.first; more = f.more; empty = f.empty; spells = f.spells; begins = f.begins; breaks = breaks; read = f.read }

-- what is read takes a token at least
abbrev pub Shortens : {A : Type 0} → (List Terminal → Read A) → Type 0
Shortens {A} read = (ts : List Terminal) (a : A) (rest : List Terminal) → read ts ≡ Ok (a, rest) → length rest < length ts

-- ---- whole texts: the last terminal stands for the end, or for the place where no token stands

-- only the end of the text is left
abbrev pub only_end : List Terminal → Bool
only_end [] = false
only_end (t ∷ ts) = t.sort == end_of_text

-- the value, where only the end of the text is left after it
abbrev pub all_read : {A : Type 0} → (List Terminal → Read A) → List Terminal → Result A Stop
all_read read ts = read ts >>= λ x. if only_end x.1 then Ok x.0 else Err (record { fault = Syntax; at = place x.1 })

-- ---- where reading stops

-- A syntax fault stands at a token with which the tokens before begin no spelling, and at the end where they are none.
-- A token that a limit refuses is one that breaks a limit after the tokens before.
abbrev pub Stands : {A : Type 0} → Form A → Fault → List Terminal → Terminal → Type 0
Stands {A} f Syntax before here = ¬ (f.begins (before ++ here ∷ [])) × (here.sort ≡ end_of_text → (a : A) → ¬ (f.spells a before))
Stands f (Refused sort) before here = (sort ≡ here.sort) × f.breaks before here

-- the tokens before this place begin a spelling, and the fault stands there
pub record StopsAt {A : Type 0} (f : Form A) (ts : List Terminal) (s : Stop) : Type 0 where
  pub before : List Terminal
  pub here : Terminal
  pub after : List Terminal
  pub parts : ts ≡ before ++ here ∷ after
  pub at : s.at ≡ here.at
  pub begun : f.begins before
  pub stands : Stands f s.fault before here

-- the first stop: none has a lesser place
pub record IsStop {A : Type 0} (f : Form A) (ts : List Terminal) (s : Stop) : Type 0 where
  pub stops : StopsAt f ts s
  pub least : (other : Stop) → StopsAt f ts other → s.at ≤ other.at

-- the places of the terminals rise, from this one on
abbrev pub ArePlaced : ℕ → List Terminal → Type 0
ArePlaced from [] = Unit {0}
ArePlaced from (t ∷ ts) = (from ≤ t.at) × ArePlaced (t.at + 1) ts
