-- Texts that say trees: one token, blanks around a text, and one law for each way to make a form of others.
use Rattle.std.proofs.Common.{◌≡◌, ℕ, ◌+◌, Bool, true, List, [], ◌∷◌, ◌++◌, length, map, flat_map, Option, Some, None, refl, sym, ap, subst, ◌∙◌, append_assoc, inl, inr, add-zero, add_assoc}
use Rattle.std.specs.List.{AllByRecursion, AllZip}
use Rattle.std.proofs.lemmas.List.{append-nil, map-append}
use Rattle.gql_grammar.specs.Form.{Terminal, Form, among, one, seq, opt, many, some, many_spell, alt, ◌<$>◌, declared, limited}
use Rattle.gql_text_lexer.specs.Bytes.{goes_on_name, is_blank, is_punctuator, ends_before}
use Rattle.gql_text_lexer.specs.Forms.{IsName}
use Rattle.gql_text_lexer.specs.Tokens.{Piece, Runs, Lexeme, token_at, tokens_at}
use Rattle.gql_text_lexer.specs.declared.token.Shape.TheVariants.{Ignored, Token}
use Rattle.gql_text_lexer.specs.declared.token.TokenKind.TheVariants as kind
use Rattle.gql_text_syntax.specs.Sorts.{punctuators, code, sort_in, name_sort, names, terminal_of}
use Rattle.gql_text_syntax.specs.declared.sort.Sort.TheVariants.{CloseBrace}
use Rattle.gql_text_syntax.proofs.TokenSorts.{names_among}
use Rattle.gql_sdl_readback.proofs.Texts.{terminals_at, Says}

-- ---- two runs of pieces

size : List Piece → ℕ
size [] = 0
size (p ∷ ps) = length p.bytes + size ps

runs-append : (ps qs : List Piece) (text mid rest : List ℕ) → Runs ps text mid → Runs qs mid rest → Runs (ps ++ qs) text rest
runs-append [] qs text mid rest r s = subst (λ (t : List ℕ). Runs qs t rest) (sym r) s
runs-append (p ∷ ps) qs text mid rest (after, e, k, r) s = (after, e, k, runs-append ps qs after mid rest r s)

tokens-append : (at : ℕ) (ps qs : List Piece) → tokens_at at (ps ++ qs) ≡ tokens_at at ps ++ tokens_at (at + size ps) qs
unfolding size
tokens-append at [] qs = ap (λ (n : ℕ). tokens_at n qs) (sym (add-zero at))
tokens-append at (p ∷ ps) qs =
    let here : List Lexeme = token_at p.shape p.bytes at in
    ap (λ (l : List Lexeme). here ++ l) (tokens-append (at + length p.bytes) ps qs ∙ ap (λ (n : ℕ). tokens_at (at + length p.bytes) ps ++ tokens_at n qs) (add_assoc at (length p.bytes) (size ps)))
    ∙ sym (append_assoc here (tokens_at (at + length p.bytes) ps) (tokens_at (at + (length p.bytes + size ps)) qs))

terminals-append : (at : ℕ) (ps qs : List Piece) → terminals_at at (ps ++ qs) ≡ terminals_at at ps ++ terminals_at (at + size ps) qs
terminals-append at ps qs = ap (map terminal_of) (tokens-append at ps qs) ∙ map-append terminal_of (tokens_at at ps) (tokens_at (at + size ps) qs)

-- ---- one token

-- a name of these sorts
pub word_says : (set : List ℕ) (text rest : List ℕ) → IsName text → among (name_sort text) set ≡ true → ends_before goes_on_name rest ≡ true → Says (one set) (λ t. (t.text ≡ text) × (t.sort ≡ name_sort text)) text rest
word_says set text rest n m k = record {
  pieces = record { shape = Token kind.Name; bytes = text } ∷ [];
  runs = (rest, refl, (n, k), refl);
  tree = λ at. (record { sort = name_sort text; text = text; at = at }, (m, refl), (refl, refl));
}

-- a punctuator of this sort
pub sign_says : (b n : ℕ) (rest : List ℕ) → is_punctuator b ≡ true → sort_in punctuators (b ∷ []) (code CloseBrace) ≡ n → among n (n ∷ []) ≡ true → Says (one (n ∷ [])) (λ t. Unit {0}) (b ∷ []) rest
sign_says b n rest c e m = record {
  pieces = record { shape = Token kind.Punctuator; bytes = b ∷ [] } ∷ [];
  runs = (rest, refl, inl (c, refl), refl);
  tree = λ at. (record { sort = sort_in punctuators (b ∷ []) (code CloseBrace); text = b ∷ []; at = at }, (rw e m, refl), tt);
}

module _ {A : Type 0} {f : Form A} {Is : A → Type 0} where
  -- ---- blanks

  -- a blank before it
  pub blank : {b : ℕ} {text rest : List ℕ} → is_blank b ≡ true → Says f Is text rest → Says f Is (b ∷ text) rest
  blank {b} {text} {rest} c s = record {
    pieces = record { shape = Ignored; bytes = b ∷ [] } ∷ s.pieces;
    runs = (text ++ rest, refl, inl (c, refl), s.runs);
    tree = λ at. s.tree (at + 1);
  }

  blank_behind : (b : ℕ) (text rest : List ℕ) → is_blank b ≡ true → Says f Is text (b ∷ rest) → Says f Is (text ++ b ∷ []) rest
  blank_behind b text rest c s =
      let p : Piece = record { shape = Ignored; bytes = b ∷ [] } in
      record {
        pieces = s.pieces ++ p ∷ [];
        runs = subst (λ (t : List ℕ). Runs (s.pieces ++ p ∷ []) t rest) (sym (append_assoc text (b ∷ []) rest)) (runs-append s.pieces (p ∷ []) (text ++ b ∷ rest) (b ∷ rest) rest s.runs (rest, refl, inl (c, refl), refl));
        tree = λ at.
            let x = s.tree at in
            let e : terminals_at at (s.pieces ++ p ∷ []) ≡ terminals_at at s.pieces = terminals-append at s.pieces (p ∷ []) ∙ append-nil (terminals_at at s.pieces) in
            (x.0, subst (f.spells x.0) (sym e) x.1, x.2);
      }

  -- blanks after
  pub blanks_behind : (text blanks rest : List ℕ) → AllByRecursion (λ b. is_blank b ≡ true) blanks → Says f Is text (blanks ++ rest) → Says f Is (text ++ blanks) rest
  blanks_behind text [] rest c s = rw (append-nil text) s
  blanks_behind text (b ∷ bs) rest c s =
      subst (λ (t : List ℕ). Says f Is t rest) (append_assoc text (b ∷ []) bs) (blanks_behind (text ++ b ∷ []) bs rest c.1 (blank_behind b text (bs ++ rest) c.0 s))

  -- ---- the same tokens

  -- a condition that follows
  pub weaken : (More : A → Type 0) {text rest : List ℕ} → Says f Is text rest → ((a : A) → Is a → More a) → Says f More text rest
  weaken More s h = record { pieces = s.pieces; runs = s.runs; tree = λ at. let x = s.tree at in (x.0, x.1, h x.0 x.2) }

  pub declared_says : (first more : List ℕ) (empty : Bool) {text rest : List ℕ} → Says f Is text rest → Says (declared first more empty f) Is text rest
  declared_says first more empty s = record { pieces = s.pieces; runs = s.runs; tree = s.tree }

  pub limited_says : (breaks : List Terminal → Terminal → Type 0) {text rest : List ℕ} → Says f Is text rest → Says (limited breaks f) Is text rest
  limited_says breaks s = record { pieces = s.pieces; runs = s.runs; tree = s.tree }

-- another value
pub mapped : {A B : Type 0} {h : A → B} {f : Form A} {Is : A → Type 0} {More : B → Type 0} {text rest : List ℕ} → Says f Is text rest → ((a : A) → Is a → More (h a)) → Says (h <$> f) More text rest
mapped {A} {B} {h} s k = record { pieces = s.pieces; runs = s.runs; tree = λ at. let x = s.tree at in (h x.0, (x.0, x.1, refl), k x.0 x.2) }

-- any name
pub name_says : (text rest : List ℕ) → IsName text → ends_before goes_on_name rest ≡ true → Says (one names) (λ t. t.text ≡ text) text rest
name_says text rest n k = weaken _ (word_says names text rest n (names_among text) k) (λ t h. h.0)

-- ---- one form, and then another

module _ {A B : Type 0} {f : Form A} {g : Form B} {Is : A → Type 0} {Then : B → Type 0} where
  pub joined : (text more rest : List ℕ) → Says f Is text (more ++ rest) → Says g Then more rest → Says (seq f g) (λ p. Is p.0 × Then p.1) (text ++ more) rest
  joined text more rest sf sg = record {
    pieces = sf.pieces ++ sg.pieces;
    runs = subst (λ (t : List ℕ). Runs (sf.pieces ++ sg.pieces) t rest) (sym (append_assoc text more rest)) (runs-append sf.pieces sg.pieces (text ++ (more ++ rest)) (more ++ rest) rest sf.runs sg.runs);
    tree = λ at.
        let x = sf.tree at in
        let y = sg.tree (at + size sf.pieces) in
        ((x.0, y.0), (terminals_at at sf.pieces, terminals_at (at + size sf.pieces) sg.pieces, x.1, y.1, terminals-append at sf.pieces sg.pieces), (x.2, y.2));
  }

  -- a part without a text, and another one
  pub nothing_then : {text rest : List ℕ} → Says f Is [] (text ++ rest) → Says g Then text rest → Says (seq f g) (λ p. Is p.0 × Then p.1) text rest
  nothing_then {text} {rest} sf sg = joined [] text rest sf sg

  -- a part, and another one without a text
  pub then_nothing : {text rest : List ℕ} → Says f Is text rest → Says g Then [] rest → Says (seq f g) (λ p. Is p.0 × Then p.1) text rest
  then_nothing {text} {rest} sf sg = subst (λ (t : List ℕ). Says (seq f g) (λ p. Is p.0 × Then p.1) t rest) (append-nil text) (joined text [] rest sf sg)

-- a punctuator or a word, and more
module _ {B : Type 0} {g : Form B} {Then : B → Type 0} where
  pub sign_then : {b n : ℕ} {text rest : List ℕ} → is_punctuator b ≡ true → sort_in punctuators (b ∷ []) (code CloseBrace) ≡ n → among n (n ∷ []) ≡ true → Says g Then text rest → Says (seq (one (n ∷ [])) g) (λ p. Then p.1) (b ∷ text) rest
  sign_then {b} {n} {text} {rest} c e m s = weaken _ (joined (b ∷ []) text rest (sign_says b n (text ++ rest) c e m) s) (λ p h. h.1)

  pub word_then : (set : List ℕ) (word text : List ℕ) {rest : List ℕ} → IsName word → among (name_sort word) set ≡ true → ends_before goes_on_name (text ++ rest) ≡ true → Says g Then text rest
      → Says (seq (one set) g) (λ p. (p.0.sort ≡ name_sort word) × Then p.1) (word ++ text) rest
  word_then set word text {rest} i m k s = weaken _ (joined word text rest (word_says set word (text ++ rest) i m k) s) (λ p h. (h.0.1, h.1))

-- ---- a form that may be missing

pub absent : {A : Type 0} (f : Form A) (rest : List ℕ) → Says (opt f) (λ o. o ≡ None) [] rest
absent f rest = record { pieces = []; runs = refl; tree = λ at. (None, refl, refl) }

abbrev pub IsThere : {A : Type 0} → (A → Type 0) → Option A → Type 0
IsThere Is None = ⊥
IsThere Is (Some a) = Is a

pub present : {A : Type 0} {f : Form A} {Is : A → Type 0} {text rest : List ℕ} → Says f Is text rest → Says (opt f) (IsThere Is) text rest
present s = record { pieces = s.pieces; runs = s.runs; tree = λ at. let x = s.tree at in (Some x.0, x.1, x.2) }

-- ---- one form or another

pub left : {A : Type 0} {f : Form A} (g : Form A) {Is : A → Type 0} {text rest : List ℕ} → Says f Is text rest → Says (alt f g) Is text rest
left g s = record { pieces = s.pieces; runs = s.runs; tree = λ at. let x = s.tree at in (x.0, inl x.1, x.2) }

pub right : {A : Type 0} (f : Form A) {g : Form A} {Is : A → Type 0} {text rest : List ℕ} → Says g Is text rest → Says (alt f g) Is text rest
right f s = record { pieces = s.pieces; runs = s.runs; tree = λ at. let x = s.tree at in (x.0, inr x.1, x.2) }

-- ---- any number of one form

pub none : {A : Type 0} (f : Form A) (rest : List ℕ) → Says (many f) (λ xs. xs ≡ []) [] rest
none f rest = record { pieces = []; runs = refl; tree = λ at. ([], refl, refl) }

abbrev pub IsCons : {A : Type 0} → (A → Type 0) → (List A → Type 0) → List A → Type 0
IsCons Is More [] = ⊥
IsCons Is More (x ∷ xs) = Is x × More xs

-- one more before the others
pub cons_says : {A : Type 0} {f : Form A} {Is : A → Type 0} {More : List A → Type 0} (text more rest : List ℕ) → Says f Is text (more ++ rest) → Says (many f) More more rest → Says (many f) (IsCons Is More) (text ++ more) rest
cons_says text more rest s r = record {
  pieces = s.pieces ++ r.pieces;
  runs = subst (λ (t : List ℕ). Runs (s.pieces ++ r.pieces) t rest) (sym (append_assoc text more rest)) (runs-append s.pieces r.pieces (text ++ (more ++ rest)) (more ++ rest) rest s.runs r.runs);
  tree = λ at.
      let x = s.tree at in
      let y = r.tree (at + size s.pieces) in
      (x.0 ∷ y.0, (terminals_at at s.pieces, terminals_at (at + size s.pieces) r.pieces, x.1, y.1, terminals-append at s.pieces r.pieces), (x.2, y.2));
}

module _ {A V : Type 0} (f : Form A) (Is : V → A → Type 0) (text : V → List ℕ) (Follows : List ℕ → Type 0) where
  abbrev pub SaysEach : List V → Type 0
  SaysEach vs = AllByRecursion (λ v. (rest : List ℕ) → Follows rest → Says f (Is v) (text v) rest) vs

  zipped : (v : V) (vs : List V) (xs : List A) → IsCons (Is v) (AllZip Is vs) xs → AllZip Is (v ∷ vs) xs
  zipped v vs [] h = absurd h
  zipped v vs (x ∷ xs) h = h

  zipped_none : (xs : List A) → xs ≡ [] → AllZip Is [] xs
  zipped_none [] e = tt
  zipped_none (x ∷ xs) e = cc

  -- texts one after the other, where each begins with what may follow one
  pub many_says : (begins : (v : V) (rest : List ℕ) → Follows (text v ++ rest)) (vs : List V) (rest : List ℕ) → SaysEach vs → Follows rest → Says (many f) (AllZip Is vs) (flat_map text vs) rest
  many_says begins [] rest all k = weaken _ (none f rest) zipped_none
  many_says begins (v ∷ vs) rest all k =
      weaken _ (cons_says (text v) (flat_map text vs) rest (all.0 (flat_map text vs ++ rest) (follow_all vs)) (many_says begins vs rest all.1 k)) (λ xs h. zipped v vs xs h)
    where
      follow_all : (vs : List V) → Follows (flat_map text vs ++ rest)
      follow_all [] = k
      follow_all (v ∷ vs) = subst Follows (sym (append_assoc (text v) (flat_map text vs) rest)) (begins v (flat_map text vs ++ rest))

-- at least one
pub some_says : {A : Type 0} (f : Form A) {Is : List A → Type 0} {text rest : List ℕ} → (Is [] → ⊥) → Says (many f) Is text rest → Says (some f) Is text rest
some_says {A} f {Is} empty s = record { pieces = s.pieces; runs = s.runs; tree = λ at. let x = s.tree at in by_list x.0 (terminals_at at s.pieces) x.1 x.2 }
  where
    by_list : (xs : List A) (ts : List Terminal) → many_spell f.spells xs ts → Is xs → (a : List A) × (some f).spells a ts × Is a
    by_list [] ts m i = absurd (empty i)
    by_list (x ∷ xs) ts m i = (x ∷ xs, ((x, xs), m, refl), i)
