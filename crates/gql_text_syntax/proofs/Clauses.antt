-- The clauses of reading a text, from what the form of a document reads of its tokens.
use Rattle.std.proofs.Common.{◌≡◌, ℕ, ◌<◌, ◌≤◌, true, false, List, [], ◌∷◌, ◌++◌, length, map, drop, Option, Some, None, Result, Ok, Err, IfSome, refl, sym, ap, subst, ◌∙◌, arith, inl, inr}
use Rattle.std.specs.Prelude.{◌≢◌}
use Rattle.gql_grammar.specs.Form.{Terminal, end_of_text, no_token, Syntax, Refused, Stop, all_read, is_end, among, starts, IsStop}
use Rattle.gql_grammar.proofs.Whole.{all_found, all_only, all_first, none_stops, one_stop}
use Rattle.gql_text_lexer.specs.Forms.{IsPiece, StartsNoPiece}
use Rattle.gql_text_lexer.specs.Tokens.{Lexeme, HasTokens, place_of}
use Rattle.gql_text_lexer.specs.declared.token.TokenKind.{TokenKind}
use Rattle.gql_text_lexer.specs.declared.token.TokenKind.TheVariants as kind
use Rattle.gql_text_lexer.specs.declared.token.Shape.TheVariants as shape
use Rattle.gql_text_syntax.specs.Cursor.{FitsKind}
use Rattle.gql_text_syntax.specs.Documents.{SpelledBy, Ends, IsStopOf, IsErrorOrMemory, StopsThere, error_at, error_of, end_sort}
use Rattle.gql_text_syntax.specs.Grammar.{document}
use Rattle.gql_text_syntax.proofs.GrammarLawful.{document_lawful, document_ends}
use Rattle.gql_text_syntax.specs.Reads.{Gives}
use Rattle.gql_text_syntax.specs.Sorts.{terminal_of, end_terminal, code, ends}
use Rattle.gql_text_lexer.proofs.Lists.{one_list}
use Rattle.gql_text_syntax.specs.declared.error.ReadError.{ReadError}
use Rattle.gql_text_syntax.specs.declared.error.ReadError.TheVariants as errors
use Rattle.gql_text_syntax.specs.declared.stopped.Stopped.{Stopped}
use Rattle.gql_text_syntax.specs.declared.stopped.Stopped.TheVariants as stopped
use Rattle.gql_text_syntax.specs.declared.syntax.WrittenDefinition.{WrittenDefinition}
use Rattle.gql_text_syntax.proofs.Places.{placed, no_end_here, one_end}

-- a token has a text of the form of its kind
pub fit : (k : TokenKind) (text after : List ℕ) → IsPiece (shape.Token k) text after → FitsKind k text
fit kind.Name text after p = p.0
fit kind.Punctuator text after p = tt
fit kind.Whole text after p = p.0
fit kind.Float text after p = tt
fit kind.Quoted text after p = tt
fit kind.Block text after p = tt

module _ (text : List ℕ) (tokens : List Lexeme) (stop : Option ℕ) (has : HasTokens text tokens (place_of stop text)) where
  abbrev ts : List Terminal
  ts = map terminal_of tokens

  abbrev end : Terminal
  end = end_terminal (end_sort stop) (place_of stop text)

  ends_so : (o : Option ℕ) → is_end (end_sort o) ≡ true
  ends_so None = refl
  ends_so (Some at) = refl

  quiet : (o : Option ℕ) → starts document.more (end_terminal (end_sort o) (place_of o text) ∷ []) ≡ false
  quiet None = document_ends end_of_text refl
  quiet (Some at) = document_ends no_token refl

  no_stop : (o : Option ℕ) → end_sort o ≡ end_of_text → o ≡ None
  no_stop None e = refl
  no_stop (Some at) e = absurd (omega (arith, e))

  pub found_by : (d : List WrittenDefinition) → all_read document.read (ts ++ end ∷ []) ≡ Ok d → SpelledBy d text
  found_by d e =
      let f = all_found document document_lawful ts end (no_end_here tokens) (ends_so stop) (quiet stop) d e in
      record { tokens = tokens; has = subst (λ (o : Option ℕ). HasTokens text tokens (place_of o text)) (no_stop stop f.1) has; spells = f.0 }

  pub ended : (o : Option ℕ) → IfSome o (λ at. (at < length text) × StartsNoPiece (drop at text)) → Ends text (place_of o text) (end_sort o)
  ended None s = inl (refl, refl)
  ended (Some at) s = inr (s.0, s.1, refl)

  error_is : (outcome : Result (List WrittenDefinition) Stop) (e : Stopped) → Gives outcome (Err e) → error_of e ≢ errors.OutOfMemory → (s : Stop) × (outcome ≡ Err s) × (error_of e ≡ error_at s)
  error_is outcome (stopped.Syntax at) g n = (record { fault = Syntax; at = at }, g, refl)
  error_is outcome (stopped.Refused sort at) g n = (record { fault = Refused (code sort); at = at }, g, refl)
  error_is outcome stopped.OutOfMemory g n = absurd (n refl)

  pub stop_by : IfSome stop (λ at. (at < length text) × StartsNoPiece (drop at text)) → (e : Stopped) → Gives (all_read document.read (ts ++ end ∷ [])) (Err e) → StopsThere {A = List WrittenDefinition} text (Err (error_of e))
  stop_by s e g n =
      let x = error_is (all_read document.read (ts ++ end ∷ [])) e g n in
      record {
        tokens = tokens;
        place = place_of stop text;
        sort = end_sort stop;
        has = has;
        ends = ended stop s;
        stop = x.0;
        first = all_first document document_lawful ts end (no_end_here tokens) (ends_so stop) (quiet stop) (placed text tokens (place_of stop text) (end_sort stop) has) x.0 x.1;
        error = x.2;
      }

  -- where all of the text is tokens, there is no stop, and they are these
  whole : (o : Option ℕ) → IfSome o (λ at. (at < length text) × StartsNoPiece (drop at text)) → length text ≤ place_of o text → o ≡ None
  whole None s l = refl
  whole (Some at) s l = absurd (omega (arith, s.0))

  pub only_by : IfSome stop (λ at. (at < length text) × StartsNoPiece (drop at text)) → ((others : List Lexeme) → HasTokens text others (place_of stop text) → others ≡ tokens) → ((others : List Lexeme) (place : ℕ) → HasTokens text others place → place ≤ place_of stop text)
      → (d : List WrittenDefinition) → SpelledBy d text → all_read document.read (ts ++ end ∷ []) ≡ Ok d
  only_by s only far d h =
      let n = whole stop s (far h.tokens (length text) h.has) in
      let same : h.tokens ≡ tokens = only h.tokens (subst (λ (o : Option ℕ). HasTokens text h.tokens (place_of o text)) (sym n) h.has) in
      all_only document document_lawful ts end (no_end_here tokens) (ends_so stop) (quiet stop) d (rw n refl) (subst (λ (l : List Lexeme). document.spells d (map terminal_of l)) same h.spells)

abbrev pub done : List WrittenDefinition → Result (List WrittenDefinition) Stop
done d = Ok d

pub is_or_memory : (outcome : Result (List WrittenDefinition) Stop) (d : List WrittenDefinition) → outcome ≡ Ok d → (e : Stopped) → Gives outcome (Err e) → error_of e ≡ errors.OutOfMemory
is_or_memory outcome d h (stopped.Syntax at) g = absurd cc
is_or_memory outcome d h (stopped.Refused sort at) g = absurd cc
is_or_memory outcome d h stopped.OutOfMemory g = refl

pub same_value : (outcome : Result (List WrittenDefinition) Stop) (d e : List WrittenDefinition) → outcome ≡ Ok d → outcome ≡ Ok e → d ≡ e
same_value outcome d e h k = cc

-- ---- a text has one stop

ending : (text : List ℕ) (place sort : ℕ) → Ends text place sort → among sort ends ≡ true
ending text place sort (inl h) = rw h.1 refl
ending text place sort (inr h) = rw h.2 refl

is_ending : (text : List ℕ) (place sort : ℕ) → Ends text place sort → is_end sort ≡ true
is_ending text place sort (inl h) = rw h.1 refl
is_ending text place sort (inr h) = rw h.2 refl

-- the terminals of a text, by any tokens of it
pub same_terminals : (text : List ℕ) (ts us : List Lexeme) (p q s t : ℕ) → HasTokens text ts p → Ends text p s → HasTokens text us q → Ends text q t → map terminal_of us ++ end_terminal t q ∷ [] ≡ map terminal_of ts ++ end_terminal s p ∷ []
same_terminals text ts us p q s t h e k f =
    let one = one_end text ts us p q s t h e k f in
    let same : us ≡ ts = one_list text us ts q k (subst (HasTokens text ts) one.0 h) in
    rw (same, one.0, one.1) refl

same_error : (text : List ℕ) (a b : ReadError) (x : IsStopOf text a) (y : IsStopOf text b) → a ≡ b
same_error text a b x y =
    let same = same_terminals text x.tokens y.tokens x.place y.place x.sort y.sort x.has x.ends y.has y.ends in
    let one = one_stop document document_lawful (map terminal_of x.tokens) (end_terminal x.sort x.place) (no_end_here x.tokens) (is_ending text x.place x.sort x.ends) (document_ends x.sort (ending text x.place x.sort x.ends))
    (placed text x.tokens x.place x.sort x.has) x.stop y.stop x.first (subst (λ (l : List Terminal). IsStop document l y.stop) same y.first) in
    x.error ∙ ap error_at one ∙ sym y.error

pub stops_by_error : (text : List ℕ) (d e : ReadError) → IsStopOf text e → StopsThere {A = List WrittenDefinition} text (Err d) → IsErrorOrMemory {A = List WrittenDefinition} e (Err d)
stops_by_error text d e x s n = same_error text d e (s n) x

pub no_stop_by : (text : List ℕ) (ts : List Lexeme) (p s : ℕ) → HasTokens text ts p → Ends text p s → (d : List WrittenDefinition) → all_read document.read (map terminal_of ts ++ end_terminal s p ∷ []) ≡ Ok d → (e : ReadError) → IsStopOf text e → ⊥
no_stop_by text ts p s h en d r e x =
    let same = same_terminals text ts x.tokens p x.place s x.sort h en x.has x.ends in
    let first = subst (λ (l : List Terminal). IsStop document l x.stop) same x.first in
    none_stops document document_lawful (map terminal_of ts) (end_terminal s p) (no_end_here ts) (is_ending text p s en) (document_ends s (ending text p s en)) d r x.stop first.stops
