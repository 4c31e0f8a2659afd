-- Each form of a type and of a value keeps the laws of forms.
use Rattle.std.proofs.Common.{◌≡◌, ℕ, zero, suc, ◌-◌, ◌<◌, false, [], refl, arith}
use Rattle.gql_grammar.specs.Form.{Form, opt}
use Rattle.gql_grammar.proofs.Stops.{Exact, one_form, seq_form, opt_form, many_form, alt_form, map_form, refused_form}
use Rattle.gql_text_syntax.specs.Sorts as s
use Rattle.gql_text_syntax.specs.Sorts.{only, token}
use Rattle.gql_text_syntax.specs.declared.sort.Sort.TheVariants.{Bang, CloseBrace, CloseBracket, Colon, OpenBrace, OpenBracket, WholeNumber}
use Rattle.gql_text_syntax.specs.declared.syntax.TypeTree.{TypeTree}
use Rattle.gql_text_syntax.specs.declared.syntax.Literal.{Literal}
use Rattle.gql_text_syntax.specs.Values.{key, number, string, word, leaf, refused_number, bracketed_list, entry, object, value_with, nest_with, nested}
use Rattle.gql_text_syntax.specs.Types.{named, bracketed, plain_with, type_with, list_with}

pub named_lawful : Exact named
unfolding named
named_lawful = map_form _ _ (one_form s.names refl)

-- it begins with a bracket only, and nothing goes on with it
pub record IsBracketed (f : Form TypeTree) : Type 0 where
  pub lawful : Exact f
  pub first : f.first ≡ only OpenBracket
  pub more : f.more ≡ []
  pub solid : f.empty ≡ false

pub plain_lawful : (f : Form TypeTree) → IsBracketed f → Exact (plain_with f)
unfolding plain_with named
plain_lawful f b = alt_form named f named_lawful b.lawful refl b.solid (rw b.first refl)

pub type_lawful : (f : Form TypeTree) → IsBracketed f → Exact (type_with f)
unfolding type_with plain_with named
type_lawful f b = map_form _ _ (seq_form (plain_with f) (opt (token Bang)) (plain_lawful f b) (opt_form _ (one_form (only Bang) refl) refl) (rw b.more refl))

pub bracketed_lawful : (n : ℕ) → IsBracketed (bracketed n)
unfolding bracketed list_with type_with plain_with named
bracketed_lawful zero = record { lawful = refused_form (only OpenBracket) refl; first = refl; more = refl; solid = refl }
bracketed_lawful (suc n) =
    let b = bracketed_lawful n in
    record {
      lawful = map_form _ _ (seq_form _ _ (one_form (only OpenBracket) refl) (seq_form _ _ (type_lawful (bracketed n) b) (one_form (only CloseBracket) refl) (rw b.more refl)) (rw (b.solid, b.first) refl));
      first = refl;
      more = rw b.solid refl;
      solid = refl;
    }

pub bracketed_below : (n : ℕ) → 0 < n → bracketed n ≡ list_with (type_with (bracketed (n - 1)))
unfolding bracketed
bracketed_below zero lt = absurd (omega arith)
bracketed_below (suc n) lt = let e : suc n - 1 ≡ n = omega arith in rw e refl

-- ---- values

pub key_lawful : Exact key
unfolding key
key_lawful = map_form _ _ (one_form s.names refl)

pub number_lawful : Exact number
unfolding number
number_lawful = map_form _ _ (one_form (only WholeNumber) refl)

pub string_lawful : Exact string
unfolding string
string_lawful = map_form _ _ (one_form s.strings refl)

pub word_lawful : Exact word
unfolding word
word_lawful = map_form _ _ (one_form s.names refl)

pub leaf_lawful : Exact leaf
unfolding leaf number string word
leaf_lawful = alt_form _ _ number_lawful (alt_form _ _ string_lawful word_lawful refl refl refl) refl refl refl

pub refused_number_lawful : Exact refused_number
unfolding refused_number
refused_number_lawful = refused_form s.refused_numbers refl

pub record IsNested (f : Form Literal) : Type 0 where
  pub lawful : Exact f
  pub first : f.first ≡ s.nests
  pub more : f.more ≡ []
  pub solid : f.empty ≡ false

pub record IsValue (f : Form Literal) : Type 0 where
  pub lawful : Exact f
  pub first : f.first ≡ s.values
  pub more : f.more ≡ []
  pub solid : f.empty ≡ false

pub value_is : (f : Form Literal) → IsNested f → IsValue (value_with f)
unfolding value_with leaf number string word refused_number
value_is f b = record {
  lawful = alt_form leaf _ leaf_lawful (alt_form _ f refused_number_lawful b.lawful refl b.solid (rw b.first refl)) refl (rw b.solid refl) (rw b.first refl);
  first = rw b.first refl;
  more = rw b.more refl;
  solid = rw b.solid refl;
}

pub bracketed_list_lawful : (f : Form Literal) → IsValue f → Exact (bracketed_list f)
unfolding bracketed_list
bracketed_list_lawful f b = map_form _ _ (seq_form _ _ (one_form (only OpenBracket) refl)
    (seq_form _ _ (many_form f b.lawful b.solid (rw (b.first, b.more) refl)) (one_form (only CloseBracket) refl) (rw (b.first, b.more) refl)) (rw b.first refl))

pub entry_lawful : (f : Form Literal) → IsValue f → Exact (entry f)
unfolding entry key
entry_lawful f b = map_form _ _ (seq_form _ _ key_lawful (seq_form _ _ (one_form (only Colon) refl) b.lawful (rw b.first refl)) refl)

pub object_lawful : (f : Form Literal) → IsValue f → Exact (object f)
unfolding object entry key
object_lawful f b = map_form _ _ (seq_form _ _ (one_form (only OpenBrace) refl)
    (seq_form _ _ (many_form (entry f) (entry_lawful f b) refl (rw (b.solid, b.more) refl)) (one_form (only CloseBrace) refl) (rw (b.solid, b.more) refl)) refl)

pub nested_is : (n : ℕ) → IsNested (nested n)
unfolding nested nest_with bracketed_list object entry key
nested_is zero = record { lawful = refused_form s.nests refl; first = refl; more = refl; solid = refl }
nested_is (suc n) =
    let b = value_is (nested n) (nested_is n) in
    record {
      lawful = alt_form _ _ (bracketed_list_lawful _ b) (object_lawful _ b) refl refl refl;
      first = refl;
      more = refl;
      solid = refl;
    }

pub value_at_is : (n : ℕ) → IsValue (value_with (nested n))
value_at_is n = value_is (nested n) (nested_is n)

pub entry_solid : (f : Form Literal) → (entry f).empty ≡ false
unfolding entry key
entry_solid f = refl

pub entry_first : (f : Form Literal) → (entry f).first ≡ s.names
unfolding entry key
entry_first f = refl

pub nested_below : (n : ℕ) → 0 < n → nested n ≡ nest_with (value_with (nested (n - 1)))
unfolding nested
nested_below zero lt = absurd (omega arith)
nested_below (suc n) lt = let e : suc n - 1 ≡ n = omega arith in rw e refl
