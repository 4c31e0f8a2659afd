-- A sample text is UTF-8, and says its definitions.
use Rattle.std.proofs.Common.{◌≡◌, ℕ, zero, suc, ◌-◌, ◌<◌, ◌^◌, true, List, [], ◌∷◌, ◌++◌, codes, refl, arith}
use Rattle.std.specs.Str.{IsUtf8}
use Rattle.gql_grammar.specs.Form.{many}
use Rattle.gql_text_lexer.specs.Bytes.{all_of}
use Rattle.gql_text_lexer.specs.Forms.{IsName}
use Rattle.gql_text_syntax.specs.Grammar as g
use Rattle.gql_text_syntax.specs.declared.syntax.WrittenDefinition.{WrittenDefinition}
use Rattle.gql_text.specs.declared.document.Definition.{Definition}
use Rattle.gql_registry_meta.specs.Parts.{Text}
use Rattle.gql_sdl_readback.proofs.Bytes.{name_unquoted, unquoted-append, unquoted_utf8}
use Rattle.gql_sdl_readback.proofs.Texts.{Says, is_unquoted}
use Rattle.gql_sdl_readback.proofs.Says.{weaken, none, IsCons, cons_says, some_says}
use Rattle.gql_sdl_readback.proofs.Whole.{spelled_by}
use Rattle.gql_sdl_rows.proofs.Definitions.{IsDefinition}
use Rattle.gql_sdl_rows.proofs.Documents.{AreDefinitions, IsTreeOf}
use Rattle.gql_publish_sample.specs.Sample.{Kind, object, interface, enum, input, kind_at, name_at, line_of, lines, sample}
use Rattle.gql_publish_sample.proofs.Definitions.{root, types, definitions}
use Rattle.gql_publish_sample.proofs.Lines.{type_line, root_line}
use Rattle.gql_publish_sample.proofs.Names.{is_name}

-- ---- bytes

-- the text is ASCII, and has no quotation mark
abbrev IsUnquoted : Text → Type 0
IsUnquoted text = all_of is_unquoted text ≡ true

around : (front name back : Text) → IsUnquoted front → IsName name → IsUnquoted back → IsUnquoted (front ++ (name ++ back))
around front name back f n b = unquoted-append front (name ++ back) f (unquoted-append name back (name_unquoted name n) b)

line_unquoted : (k : Kind) (i : ℕ) → IsName (name_at i) → IsName (name_at (i - 1)) → IsUnquoted (line_of k i)
line_unquoted object i n m = around (codes "type ") (name_at i) (codes "{b:Int a:Query}\n") refl n refl
line_unquoted interface i n m = around (codes "interface ") (name_at i) (codes "{a:Query}\n") refl n refl
line_unquoted enum i n m = around (codes "enum ") (name_at i) (codes "{B A}\n") refl n refl
line_unquoted input i n m = around (codes "input ") (name_at i) _ refl n (around (codes "{b:") (name_at (i - 1)) (codes "! a:Int=-1}\n") refl m refl)

lines_unquoted : (n : ℕ) → n < 2 ^ 64 → IsUnquoted (lines n)
unfolding lines
lines_unquoted zero l = refl
lines_unquoted (suc i) l =
    unquoted-append (line_of (kind_at i) i) (lines i) (line_unquoted (kind_at i) i (is_name i (omega arith)) (is_name (i - 1) (omega arith))) (lines_unquoted i (omega arith))

pub sample_utf8 : (n : ℕ) → n < 2 ^ 64 → IsUtf8 (sample n)
sample_utf8 n l = unquoted_utf8 (sample n) (unquoted-append (codes "type Query{v:Int}\n") (lines n) refl (lines_unquoted n l))

-- ---- definitions

abbrev SaysAll : List Definition → Text → Text → Type 0
SaysAll cs text rest = Says (many g.definition) (AreDefinitions cs) text rest

one_more : (c : Definition) (cs : List Definition) (text more rest : Text) → Says g.definition (IsDefinition c) text (more ++ rest) → SaysAll cs more rest → SaysAll (c ∷ cs) (text ++ more) rest
one_more c cs text more rest s r = weaken _ (cons_says text more rest s r) (λ xs h. by_list xs h)
  where
    by_list : (xs : List WrittenDefinition) → IsCons (IsDefinition c) (AreDefinitions cs) xs → AreDefinitions (c ∷ cs) xs
    by_list [] h = absurd h
    by_list (x ∷ xs) h = h

no_more : (rest : Text) → SaysAll [] [] rest
no_more rest = weaken _ (none g.definition rest) (λ xs h. by_list xs h)
  where
    by_list : (xs : List WrittenDefinition) → xs ≡ [] → AreDefinitions [] xs
    by_list [] e = tt
    by_list (x ∷ xs) e = cc

types_say : (n : ℕ) (rest : Text) → n < 2 ^ 64 → SaysAll (types n) (lines n) rest
unfolding types lines
types_say zero rest l = no_more rest
types_say (suc i) rest l =
    one_more _ (types i) (line_of (kind_at i) i) (lines i) rest (type_line (kind_at i) i (lines i ++ rest) (is_name i (omega arith)) (is_name (i - 1) (omega arith))) (types_say i rest (omega arith))

all_say : (n : ℕ) (rest : Text) → n < 2 ^ 64 → Says g.document (AreDefinitions (definitions n)) (sample n) rest
unfolding g.document
all_say n rest l = some_says g.definition (λ h. h) (one_more root (types n) (codes "type Query{v:Int}\n") (lines n) rest (root_line (lines n ++ rest)) (types_say n rest l))

-- the text spells a tree of these definitions, apart from places
pub sample_tree : (n : ℕ) → n < 2 ^ 64 → IsTreeOf (definitions n) (sample n)
sample_tree n l =
    let read = spelled_by (AreDefinitions (definitions n)) (sample n) (all_say n [] l) in
    record { tree = read.0; spelled = read.1; definitions = read.2 }
