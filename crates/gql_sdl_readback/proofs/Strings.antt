-- A quoted text is one string token, whose value is the text.
use Rattle.std.proofs.Common.{◌≡◌, ℕ, Bool, true, false, List, [], ◌∷◌, length, refl, sym, ap, add-zero, inl}
use Rattle.std.specs.Prelude.{◌==◌}
use Rattle.std.proofs.lemmas.List.{append-nil}
use Rattle.gql_grammar.specs.Form.{one}
use Rattle.gql_text_lexer.specs.Bytes.{quotation_mark, ends_before}
use Rattle.gql_text_lexer.specs.Forms.{IsQuoted, IsBlock}
use Rattle.gql_text_lexer.specs.Quoting.{quote}
use Rattle.gql_text_lexer.specs.Tokens.{Lexeme, Piece, HasTokens}
use Rattle.gql_text_lexer.specs.Values.{HasValue, Quoted, Block, string_text}
use Rattle.gql_text_lexer.specs.declared.token.Shape.TheVariants.{Token}
use Rattle.gql_text_lexer.specs.declared.token.TokenKind.{TokenKind}
use Rattle.gql_text_lexer.specs.declared.token.TokenKind.TheVariants as kind
use Rattle.gql_text_lexer.proofs.Lists.{one_list}
use Rattle.gql_text_lexer.proofs.Quotes.{quote_value, quote_token}
use Rattle.gql_text_lexer.proofs.Values.{string_text_exact}
use Rattle.gql_text_syntax.specs.Sorts as s
use Rattle.gql_text_syntax.specs.Sorts.{code}
use Rattle.gql_text_syntax.specs.declared.sort.Sort.TheVariants as sorts
use Rattle.gql_sdl_readback.proofs.Texts.{Says}

-- ---- one token

-- a quoted string of this value, where `""` ends before a quote
pub quoted_token : (text value rest : List ℕ) → IsQuoted text → HasValue text value → ends_before (λ b. b == quotation_mark) rest ≡ true → Says (one s.strings) (λ t. string_text t.text ≡ value) text rest
quoted_token text value rest q v k = record {
  pieces = record { shape = Token kind.Quoted; bytes = text } ∷ [];
  runs = (rest, refl, (q, λ _. k), refl);
  tree = λ at. (record { sort = code sorts.Quoted; text = text; at = at }, (refl, refl), sym ((string_text_exact text value (inl q)).0 v));
}

-- a block string of this value
pub block_token : (text value rest : List ℕ) → IsBlock text → string_text text ≡ value → Says (one s.strings) (λ t. string_text t.text ≡ value) text rest
block_token text value rest b v = record {
  pieces = record { shape = Token kind.Block; bytes = text } ∷ [];
  runs = (rest, refl, b, refl);
  tree = λ at. (record { sort = code sorts.Block; text = text; at = at }, (refl, refl), v);
}

-- ---- quoted texts

abbrev is_block : TokenKind → Bool
is_block kind.Block = true
is_block _ = false

abbrev begins_block : List Lexeme → Bool
begins_block [] = false
begins_block (l ∷ ls) = is_block l.kind

-- a text has one list of tokens
no_block : (text : List ℕ) → IsBlock (quote text) → ⊥
no_block text b =
    let block : Lexeme = record { kind = kind.Block; text = quote text; at = 0 } in
    let quoted : Lexeme = record { kind = kind.Quoted; text = quote text; at = 0 } in
    let p : Piece = record { shape = Token kind.Block; bytes = quote text } in
    let h : HasTokens (quote text) (block ∷ []) (length (quote text)) = record { pieces = p ∷ []; rest = []; runs = ([], sym (append-nil (quote text)), b, refl); listed = refl; up_to = add-zero _ } in
    let same : block ∷ [] ≡ quoted ∷ [] = one_list (quote text) (block ∷ []) (quoted ∷ []) (length (quote text)) h (quote_token text) in
    let told : true ≡ false = ap begins_block same in
    absurd cc

quoted_is : (text : List ℕ) → IsQuoted (quote text)
quoted_is text = by_value (quote_value text)
  where
    by_value : HasValue (quote text) text → IsQuoted (quote text)
    by_value (Quoted parts i e) = (parts, i)
    by_value (Block parts i e) = absurd (no_block text (parts, i))

-- the text in quotes, where no quote follows
pub quoted_says : (text rest : List ℕ) → ends_before (λ b. b == quotation_mark) rest ≡ true → Says (one s.strings) (λ t. string_text t.text ≡ text) (quote text) rest
quoted_says text rest k = quoted_token (quote text) text rest (quoted_is text) (quote_value text) k
