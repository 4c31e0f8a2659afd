-- The terminals that are cut one by one are those of the tokens of the text.
use Rattle.std.proofs.Common.{◌≡◌, ℕ, ◌<◌, ◌≤◌, Bool, true, false, List, [], ◌∷◌, ◌++◌, length, map, drop, Option, Some, None, IfSome, refl, sym, subst, arith}
use Rattle.std.specs.Prelude.{nat_lt, if◌then◌else◌}
use Rattle.std.proofs.lemmas.Bool.Decides.{nat_tests}
use Rattle.gql_grammar.specs.Form.{end_of_text, no_token}
use Rattle.gql_text_lexer.specs.Forms.{StartsNoPiece}
use Rattle.gql_text_lexer.specs.Left.{left_at}
use Rattle.gql_text_lexer.specs.Tokens.{Lexeme, HasTokens, place_of}
use Rattle.gql_text_lexer.proofs.Left.{left_tokens, left_ends}
use Rattle.gql_text_lexer.proofs.Lists.{one_list}
use Rattle.gql_text_syntax.specs.Cursor.{terminals_at}
use Rattle.gql_text_syntax.specs.Documents.{Ends, end_sort}
use Rattle.gql_text_syntax.specs.Sorts.{terminal_of, end_terminal}
use Rattle.gql_text_syntax.proofs.Places.{rest_of, not_beyond}

abbrev pub tokens_of : List ℕ → List Lexeme
tokens_of text = (left_at text 0).0

abbrev stop_by : Bool → ℕ → Option ℕ
stop_by b p = if b then Some p else None

abbrev pub stop_of : List ℕ → Option ℕ
stop_of text = stop_by (nat_lt (left_at text 0).1 (length text)) (left_at text 0).1

within : (text : List ℕ) → (left_at text 0).1 ≤ length text
within text = omega (arith, (left_tokens text).up_to)

here : (b : Bool) (text : List ℕ) (p : ℕ) → nat_lt p (length text) ≡ b → p ≤ length text → place_of (stop_by b p) text ≡ p
here true text p e w = refl
here false text p e w = grind (arith, nat_tests)

pub place_is : (text : List ℕ) → place_of (stop_of text) text ≡ (left_at text 0).1
place_is text = here (nat_lt (left_at text 0).1 (length text)) text (left_at text 0).1 refl (within text)

sort_is : (b : Bool) (p : ℕ) → (if b then no_token else end_of_text) ≡ end_sort (stop_by b p)
sort_is true p = refl
sort_is false p = refl

pub terminals_are : (text : List ℕ) → terminals_at text 0 ≡ map terminal_of (tokens_of text) ++ end_terminal (end_sort (stop_of text)) (place_of (stop_of text) text) ∷ []
terminals_are text = rw (place_is text, sort_is (nat_lt (left_at text 0).1 (length text)) (left_at text 0).1) refl

pub has : (text : List ℕ) → HasTokens text (tokens_of text) (place_of (stop_of text) text)
has text = subst (HasTokens text (tokens_of text)) (sym (place_is text)) (left_tokens text)

no_piece : (text : List ℕ) → StartsNoPiece (drop (left_at text 0).1 text)
no_piece text = subst StartsNoPiece (sym (rest_of text (tokens_of text) (left_at text 0).1 (left_tokens text))) (left_ends text)

stops_by : (b : Bool) (text : List ℕ) (p : ℕ) → nat_lt p (length text) ≡ b → StartsNoPiece (drop p text) → IfSome (stop_by b p) (λ at. (at < length text) × StartsNoPiece (drop at text))
stops_by true text p e n = (grind (arith, nat_tests), n)
stops_by false text p e n = tt

pub stops : (text : List ℕ) → IfSome (stop_of text) (λ at. (at < length text) × StartsNoPiece (drop at text))
stops text = stops_by (nat_lt (left_at text 0).1 (length text)) text (left_at text 0).1 refl (no_piece text)

pub only : (text : List ℕ) (others : List Lexeme) → HasTokens text others (place_of (stop_of text) text) → others ≡ tokens_of text
only text others h = one_list text others (tokens_of text) (place_of (stop_of text) text) h (has text)

pub farthest : (text : List ℕ) → Ends text (place_of (stop_of text) text) (end_sort (stop_of text)) → (others : List Lexeme) (place : ℕ) → HasTokens text others place → place ≤ place_of (stop_of text) text
farthest text e others place h = not_beyond text (tokens_of text) others (place_of (stop_of text) text) place (end_sort (stop_of text)) (has text) e h
