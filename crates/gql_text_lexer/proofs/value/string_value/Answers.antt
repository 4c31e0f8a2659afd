use Rattle.std.proofs.Common.{◌≡◌, ◌↔◌, sym, ◌∙◌, inl, inr, rules}
use Rattle.std.specs.Prelude.{List, ℕ, Option, Some, None, Result, Ok, Err, String, string_bytes, option_map, IfOk, IfSome, IsSome, ◌⊎◌}
use Rattle.gql_text_lexer.specs.Forms.{IsQuoted, IsBlock}
use Rattle.gql_text_lexer.specs.Values.{HasValue, Quoted, Block, string_value}
use Rattle.gql_text_lexer.proofs.Values.{string_value_sound, string_value_complete, valued}
use Rattle.gql_text_lexer.proofs.value.string_value.Goals as goal

found : {E : Type 0} {Z : Type 0} (text : List ℕ) (r : Result (Option (String Z)) E) → IfOk r (λ o. option_map string_bytes o ≡ string_value text) → IfOk r (λ o. IfSome o (λ s. HasValue text (string_bytes s)))
found text (Err e) h = tt
found text (Ok None) h = tt
found text (Ok (Some s)) h = string_value_sound text (string_bytes s) (sym h)

only : {E : Type 0} {Z : Type 0} (text : List ℕ) (r : Result (Option (String Z)) E) → IfOk r (λ o. option_map string_bytes o ≡ string_value text) → IfOk r (λ o. (value : List ℕ) → HasValue text value → option_map string_bytes o ≡ Some value)
only text (Err e) h = tt
only text (Ok o) h = λ value v. h ∙ string_value_complete text value v

has_string : (text value : List ℕ) → HasValue text value → IsQuoted text ⊎ IsBlock text
has_string text value (Quoted parts is e) = inl (parts, is)
has_string text value (Block parts is e) = inr (parts, is)

is_some : {Z : Type 0} (o : Option (String Z)) (value : List ℕ) → option_map string_bytes o ≡ Some value → IsSome o
is_some None value e = absurd cc
is_some (Some s) value e = search rules

string : {E : Type 0} {Z : Type 0} (text : List ℕ) (r : Result (Option (String Z)) E) → IfOk r (λ o. option_map string_bytes o ≡ string_value text) → IfOk r (λ o. IsSome o ↔ (IsQuoted text ⊎ IsBlock text))
string text (Err e) h = tt
string {E = E} {Z = Z} text (Ok None) h =
    ((λ i. absurd (search rules)), (λ q. let v = valued text q in is_some {Z = Z} None v.0 (h ∙ string_value_complete text v.0 v.1)))
string text (Ok (Some s)) h = (
  (λ i. has_string text (string_bytes s) (string_value_sound text (string_bytes s) (sym h))),
  (λ q. search rules),
)

pub returns-clause-string : goal.returns-clause-string
returns-clause-string c = string c.args.token.now.text.now c.text_value.result c.text_value.ensures

pub returns-clause-found : goal.returns-clause-found
returns-clause-found c = found c.args.token.now.text.now c.text_value.result c.text_value.ensures

pub returns-clause-only : goal.returns-clause-only
returns-clause-only c = only c.args.token.now.text.now c.text_value.result c.text_value.ensures
