-- The permitted block string of a text is one string token, whose value is the text.
use Rattle.std.proofs.Common.{◌≡◌, ℕ, Bool, true, false, List, [], ◌∷◌, ◌++◌, Some, refl, sym, ap, subst, ◌∙◌, append_assoc, arith}
use Rattle.std.specs.Prelude.{◌||◌, ◌&&◌, not, ◌==◌}
use Rattle.std.specs.Cmp.Lexicographic.{bytes_decides}
use Rattle.std.specs.Str.{bytes_eq}
use Rattle.std.proofs.lemmas.Bool.Decides.{nat_tests}
use Rattle.std.proofs.lemmas.List.{append-nil}
use Rattle.gql_grammar.specs.Form.{one}
use Rattle.gql_text_lexer.specs.Bytes.{is_blank, is_source, all_of, quotes_at}
use Rattle.gql_text_lexer.specs.Forms.{IsBlock}
use Rattle.gql_text_lexer.specs.Lines.{block_value}
use Rattle.gql_text_lexer.specs.Scan.{closed, piece, string}
use Rattle.gql_text_lexer.specs.Values.{parts_of, unescaped, string_value, string_text}
use Rattle.gql_text_lexer.specs.declared.token.Shape.TheVariants.{Token}
use Rattle.gql_text_lexer.specs.declared.token.TokenKind.TheVariants as kind
use Rattle.gql_text_lexer.proofs.Pieces.{piece_sound}
use Rattle.gql_text_syntax.specs.Sorts as s
use Rattle.gql_sdl_readback.proofs.Texts.{Says}
use Rattle.gql_sdl_readback.specs.Descriptions.{three_quotes, indented, block_inside, block_text, has_three_quotes, is_permitted}
use Rattle.gql_sdl_readback.proofs.Lists.{AreBlank}
use Rattle.gql_sdl_readback.proofs.Strings.{block_token}

-- ---- the last byte

abbrev EndsBlank : List ℕ → Type 0
EndsBlank [] = ⊥
EndsBlank (b ∷ []) = is_blank b ≡ true
EndsBlank (b ∷ c ∷ text) = EndsBlank (c ∷ text)

ends_blank : (front : List ℕ) (b : ℕ) (blanks : List ℕ) → is_blank b ≡ true → AreBlank blanks → EndsBlank (front ++ b ∷ blanks)
ends_blank [] b [] h a = h
ends_blank [] b (c ∷ blanks) h a = ends_blank [] c blanks a.0 a.1
ends_blank (x ∷ []) b blanks h a = ends_blank [] b blanks h a
ends_blank (x ∷ y ∷ front) b blanks h a = ends_blank (y ∷ front) b blanks h a

inside_ends : (indent text : List ℕ) → AreBlank indent → EndsBlank (block_inside indent text)
inside_ends indent text a = subst EndsBlank (append_assoc (10 ∷ indent) (indented indent text) (10 ∷ indent)) (ends_blank ((10 ∷ indent) ++ indented indent text) 10 indent refl a)

-- ---- no quotes close the string before its end

both : (a b : Bool) → (a && b) ≡ true → (a ≡ true) × (b ≡ true)
both true b e = (refl, e)
both false b e = absurd cc

neither : (a b : Bool) → (a || b) ≡ false → (a ≡ false) × (b ≡ false)
neither true b e = absurd cc
neither false b e = (refl, e)

false_behind : (a b : Bool) → b ≡ false → (a && b) ≡ false
false_behind true b e = e
false_behind false b e = refl

blank_plain : (b : ℕ) → is_blank b ≡ true → ((b == 34) ≡ false) × ((b == 92) ≡ false)
blank_plain b h = (grind (arith, nat_tests), grind (arith, nat_tests))

stays_open : (text : List ℕ) → has_three_quotes text ≡ false → EndsBlank text → quotes_at 0 (text ++ three_quotes) ≡ false
stays_open [] n e = absurd e
stays_open (a ∷ []) n e = rw (blank_plain a e).0 refl
stays_open (a ∷ b ∷ []) n e = rw ((blank_plain b e).0, false_behind (a == 34) false refl) refl
stays_open (a ∷ b ∷ c ∷ text) n e = (neither (quotes_at 0 (a ∷ b ∷ c ∷ text)) (has_three_quotes (b ∷ c ∷ text)) n).0

-- the front byte stands for itself
record IsPlain (b : ℕ) (text : List ℕ) : Type 0 where
  unclosed : quotes_at 0 (b ∷ text) ≡ false
  whole : (b == 92 && quotes_at 0 text) ≡ false
  source : is_source b ≡ true

-- each byte stands for itself, where the closing quotes follow
data ArePlain : List ℕ → Type 0 where
  none : ArePlain []
  more : (b : ℕ) (text : List ℕ) → IsPlain b (text ++ three_quotes) → ArePlain text → ArePlain (b ∷ text)

inside_plain : (text : List ℕ) → all_of is_source text ≡ true → has_three_quotes text ≡ false → EndsBlank text → ArePlain text
inside_plain [] a n e = absurd e
inside_plain (b ∷ []) a n e = more b [] (record { unclosed = stays_open (b ∷ []) n e; whole = rw (blank_plain b e).1 refl; source = (both (is_source b) true a).0 }) none
inside_plain (b ∷ c ∷ text) a n e =
    let behind : List ℕ = c ∷ text in
    let source = both (is_source b) (all_of is_source behind) a in
    let quotes = (neither (quotes_at 0 (b ∷ behind)) (has_three_quotes behind) n).1 in
    more b behind (record { unclosed = stays_open (b ∷ behind) n e; whole = false_behind (b == 92) _ (stays_open behind quotes e); source = source.0 }) (inside_plain (c ∷ text) source.1 quotes e)

-- the reader finds the closing quotes after such bytes
plain_closed : (text : List ℕ) → ArePlain text → closed true (text ++ three_quotes) 0 ≡ Some []
unfolding closed
plain_closed _ none = refl
plain_closed _ (more b text p more_plain) = rw (p.unclosed, p.whole, p.source) (plain_closed text more_plain)

-- and takes them as they stand
plain_unescaped : (text : List ℕ) → ArePlain text → unescaped true (text ++ three_quotes) ≡ text
unfolding parts_of
plain_unescaped _ none = refl
plain_unescaped _ (more b text p more_plain) = rw (p.unclosed, p.whole, p.source) (ap (λ (l : List ℕ). b ∷ l) (plain_unescaped text more_plain))

block_read : (inside : List ℕ) → ArePlain inside → piece (three_quotes ++ (inside ++ three_quotes)) ≡ Some (Token kind.Block, [])
unfolding piece string
block_read inside p = rw (plain_closed inside p) refl

block_is : (inside : List ℕ) → ArePlain inside → IsBlock (three_quotes ++ (inside ++ three_quotes))
block_is inside p =
    let text : List ℕ = three_quotes ++ (inside ++ three_quotes) in
    let r = piece_sound text (Token kind.Block, []) (block_read inside p) in
    subst IsBlock (sym (r.1 ∙ append-nil r.0)) r.2

-- a block string of such bytes has their value by the rules for lines
block_string : (inside : List ℕ) → ArePlain inside → string_text (three_quotes ++ (inside ++ three_quotes)) ≡ block_value inside
unfolding string_value
block_string inside p = rw (block_read inside p, plain_unescaped inside p) refl

-- the block string is one, and its value is the text
pub record IsPermitted (indent text : List ℕ) : Type 0 where
  pub source : all_of is_source (block_inside indent text) ≡ true
  pub quotes : has_three_quotes (block_inside indent text) ≡ false
  pub value : block_value (block_inside indent text) ≡ text

pub permitted : (indent text : List ℕ) → is_permitted indent text ≡ true → IsPermitted indent text
permitted indent text e =
    let inside : List ℕ = block_inside indent text in
    let p = both (all_of is_source inside && not (has_three_quotes inside)) (bytes_eq (block_value inside) text) e in
    let q = both (all_of is_source inside) (not (has_three_quotes inside)) p.0 in
    record { source = q.0; quotes = not_true (has_three_quotes inside) q.1; value = (bytes_decides (block_value inside) text).0 p.1 }
  where
    not_true : (t : Bool) → not t ≡ true → t ≡ false
    not_true true e = absurd cc
    not_true false e = refl

-- the permitted block string of a text, whatever follows
pub block_says : (indent text rest : List ℕ) → AreBlank indent → IsPermitted indent text → Says (one s.strings) (λ t. string_text t.text ≡ text) (block_text indent text) rest
block_says indent text rest a p =
    let plain = inside_plain (block_inside indent text) p.source p.quotes (inside_ends indent text a) in
    block_token (block_text indent text) text rest (block_is (block_inside indent text) plain) (block_string (block_inside indent text) plain ∙ p.value)
