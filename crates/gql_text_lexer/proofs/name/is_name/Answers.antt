use Rattle.std.proofs.Common.{sym, ◌∙◌}
use Rattle.gql_text_lexer.proofs.Names.{name_exact}
use Rattle.gql_text_lexer.proofs.name.is_name.Goals as goal

pub returns-then-begins_name : goal.returns-then-begins_name
returns-then-begins_name c =
    let begins = sym c.begins_name.ensures ∙ c.if-begins_name.true in
    rw (c.is_empty.ensures, c.after_name.ensures, sym c.as_bytes.ensures.value, c.in-Some.ensures.cases.0)
    (name_exact c.in-Some.first.now c.in-Some.more.now begins)
