use Rattle.std.proofs.Common.{sym, ap, ◌∙◌}
use Rattle.std.specs.Prelude.{List, ℕ, Some}
use Rattle.gql_text_lexer.specs.Values.{value_in, string_value}
use Rattle.gql_text_lexer.proofs.Utf8.{unescaped_utf8}
use Rattle.gql_text_lexer.proofs.value.text_value.Goals as goal

pub returns-in_default : goal.returns-in_default
unfolding string_value
returns-in_default c = let e = rw c.as_bytes.ensures.value at c.in_default.ensures in ap value_in e

pub value_by-requires : goal.value_by-requires
value_by-requires c =
    let e = rw c.as_bytes.ensures.value at c.in-Some.ensures in
    unescaped_utf8 c.args.text.now (c.in-Some.block, c.in-Some.inner.now) (sym e) c.utf8.text

pub returns : goal.returns
unfolding string_value
returns c = let e = rw c.as_bytes.ensures.value at c.in-Some.ensures in ap (λ (v : List ℕ). Some v) c.in_ok-value.ensures ∙ ap value_in e
