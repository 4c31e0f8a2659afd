use Rattle.std.proofs.Common.{ap, ap₂, ◌∙◌}
use Rattle.clap.specs.Simple.{with_rule}
use Rattle.gql_publish_words.specs.Words.{the_command, with_orders}
use Rattle.gql_publish_words.proofs.command.command.Goals as goal

pub returns : goal.returns
unfolding the_command
returns c =
    c.in_ok-command-4.ensures
    ∙ ap₂ with_rule (c.in_ok-command-3.ensures ∙ ap₂ with_rule (c.in_ok-command-2.ensures ∙ ap₂ with_rule (c.in_ok-command.ensures ∙ ap with_orders c.bare_command.ensures) c.flag_arg.ensures.rule) c.value_arg.ensures.rule) c.value_arg-2.ensures.rule
