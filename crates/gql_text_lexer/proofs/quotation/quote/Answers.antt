use Rattle.std.proofs.Common.{◌∙◌, List, ℕ, subst, sym}
use Rattle.gql_text_lexer.specs.Tokens.{IsOneQuoted}
use Rattle.gql_text_lexer.specs.Values.{HasValue}
use Rattle.gql_text_lexer.proofs.Quotes.{quote_utf8, quote_token, quote_value}
use Rattle.gql_text_lexer.proofs.quotation.quote.Goals as goal

pub into_text-requires : goal.into_text-requires
into_text-requires c = rw (c.in_ok-quoted_bytes.ensures, c.as_bytes.ensures.value) (quote_utf8 c.args.text.now c.utf8.text)

pub returns-clause-token : goal.returns-clause-token
returns-clause-token c =
    let e = rw c.as_bytes.ensures.value at c.in_ok-quoted_bytes.ensures in
    subst (λ (t : List ℕ). IsOneQuoted t) (sym (c.into_text.ensures ∙ e)) (quote_token c.args.text.now)

pub returns-clause-value : goal.returns-clause-value
returns-clause-value c =
    let e = rw c.as_bytes.ensures.value at c.in_ok-quoted_bytes.ensures in
    subst (λ (t : List ℕ). HasValue t c.args.text.now) (sym (c.into_text.ensures ∙ e)) (quote_value c.args.text.now)
