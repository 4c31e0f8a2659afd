-- A description says its text.
use Rattle.std.proofs.Common.{◌≡◌, ℕ, Bool, true, false, List, [], ◌++◌, codes, Option, Some, None, refl, ap}
use Rattle.std.specs.Prelude.{if◌then◌else◌, ◌&&◌, ◌==◌, not}
use Rattle.gql_grammar.specs.Form.{one}
use Rattle.gql_text_lexer.specs.Bytes.{quotation_mark, ends_before}
use Rattle.gql_text_lexer.specs.Quoting.{quote}
use Rattle.gql_text_lexer.specs.Values.{string_text}
use Rattle.gql_text_syntax.specs.Grammar as g
use Rattle.gql_text_syntax.specs.Sorts as s
use Rattle.gql_text_syntax.specs.declared.syntax.Description.{Description}
use Rattle.gql_text.specs.DocumentOf.{description_of}
use Rattle.gql_sdl_readback.proofs.Texts.{Says}
use Rattle.gql_sdl_readback.proofs.Says.{blanks_behind, absent, present, IsThere, mapped, weaken}
use Rattle.gql_sdl_readback.proofs.Blocks.{permitted, block_says}
use Rattle.gql_sdl_readback.proofs.Lists.{AreBlank, blanks}
use Rattle.gql_sdl_readback.proofs.Strings.{quoted_says}
use Rattle.gql_sdl_readback.specs.Descriptions.{block_text, is_permitted, has_line_feed, string_of, description_text}
use Rattle.gql_sdl_view.specs.Descriptions.{described}

-- the string of a text, quoted or as a block, where no quote follows
string_says : (single : Bool) (indent text rest : List ℕ) → AreBlank indent → ends_before (λ b. b == quotation_mark) rest ≡ true → Says (one s.strings) (λ t. string_text t.text ≡ text) (string_of single indent text) rest
string_says single indent text rest a k = by_tests (single && not (has_line_feed text)) (is_permitted indent text) refl
  where
    by_tests : (line block : Bool) → is_permitted indent text ≡ block → Says (one s.strings) (λ t. string_text t.text ≡ text) (if line then quote text else (if block then block_text indent text else quote text)) rest
    by_tests true block e = quoted_says text rest k
    by_tests false true e = block_says indent text rest a (permitted indent text e)
    by_tests false false e = quoted_says text rest k

-- a description on lines of its own, whatever follows
description_says : (single : Bool) (indent text rest : List ℕ) → AreBlank indent → Says g.description (IsThere (λ d. d.text ≡ text)) (description_text single indent text) rest
unfolding g.description g.described
description_says single indent text rest a =
    blanks indent a (blanks_behind (string_of single indent text) (codes "\n") rest (refl, tt)
    (present (mapped (string_says single indent text (codes "\n" ++ rest) a refl) (λ t h. h))))

-- what is read is this description, or none
abbrev pub Describes : Option (List ℕ) → Option Description → Type 0
Describes o d = description_of d ≡ o

-- the text says the description, whatever follows
abbrev pub SaysDescription : List ℕ → Option (List ℕ) → Type 0
SaysDescription text o = (rest : List ℕ) → Says g.description (Describes o) text rest

pub no_description : SaysDescription [] None
unfolding g.description
no_description rest = weaken _ (absent g.described rest) (λ o h. rw h refl)

-- a description on lines of its own, or nothing
pub described_says : (single : Bool) (indent : List ℕ) (o : Option (List ℕ)) → AreBlank indent → SaysDescription (described single indent o) o
described_says single indent None a rest = no_description rest
described_says single indent (Some text) a rest = weaken _ (description_says single indent text rest a) (λ d h. by_option d h)
  where
    by_option : (d : Option Description) → IsThere (λ x. x.text ≡ text) d → description_of d ≡ Some text
    by_option None h = absurd h
    by_option (Some x) h = ap (λ (t : List ℕ). Some t) h

-- blanks after it
pub then_blanks : (text bytes : List ℕ) (o : Option (List ℕ)) → AreBlank bytes → SaysDescription text o → SaysDescription (text ++ bytes) o
then_blanks text bytes o a d rest = blanks_behind text bytes rest a (d (bytes ++ rest))
