-- A whole text that says a document spells it, and no other.
use Rattle.std.proofs.Common.{◌≡◌, ℕ, List, [], length, map, Ok, refl, sym, ap, subst, ◌∙◌, arith}
use Rattle.std.proofs.lemmas.List.{append-nil}
use Rattle.gql_grammar.specs.Form.{Terminal, Read}
use Rattle.gql_grammar.proofs.Laws.{ok_is}
use Rattle.gql_text_lexer.specs.Tokens.{Runs, Lexeme, tokens_at}
use Rattle.gql_text_lexer.proofs.Lists.{one_list}
use Rattle.gql_text_syntax.specs.Documents.{SpelledBy}
use Rattle.gql_text_syntax.specs.Grammar.{document}
use Rattle.gql_text_syntax.proofs.GrammarLawful.{document_lawful}
use Rattle.gql_text_syntax.specs.Sorts.{terminal_of}
use Rattle.gql_text_syntax.specs.declared.syntax.WrittenDefinition.{WrittenDefinition}
use Rattle.gql_sdl_readback.proofs.Texts.{Says}

abbrev Tree : Type 0
Tree = List WrittenDefinition

-- what the text says is spelled by it
pub spelled_by : (Is : Tree → Type 0) (text : List ℕ) → Says document Is text [] → (d : Tree) × SpelledBy d text × Is d
spelled_by Is text s =
    let x = s.tree 0 in
    let runs : Runs s.pieces text [] = subst (λ (t : List ℕ). Runs s.pieces t []) (append-nil text) s.runs in
    (x.0, record { tokens = tokens_at 0 s.pieces; has = record { pieces = s.pieces; rest = []; runs = runs; listed = refl; up_to = omega arith }; spells = x.1 }, x.2)

same_read : (d e : Tree) (rest : List Terminal) (r : Read Tree) → r ≡ Ok (d, rest) → r ≡ Ok (e, rest) → d ≡ e
same_read d e rest r h k =
    let x : Tree × List Terminal = (d, rest) in
    let y : Tree × List Terminal = (e, rest) in
    ap (λ (p : Tree × List Terminal). p.0) (ok_is x y (sym h ∙ k))

-- a text spells one tree
pub one_tree : (text : List ℕ) (d e : Tree) → SpelledBy d text → SpelledBy e text → d ≡ e
one_tree text d e sd se =
    let same : se.tokens ≡ sd.tokens = one_list text se.tokens sd.tokens (length text) se.has sd.has in
    let first = document_lawful.lawful.only d (map terminal_of sd.tokens) [] sd.spells refl in
    let second = document_lawful.lawful.only e (map terminal_of sd.tokens) [] (subst (λ (ts : List Lexeme). document.spells e (map terminal_of ts)) same se.spells) refl in
    same_read d e [] _ first second
