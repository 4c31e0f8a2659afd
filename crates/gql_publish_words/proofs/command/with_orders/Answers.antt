use Rattle.std.proofs.Common.{ap, ap₂, ◌∙◌}
use Rattle.clap.specs.Simple.{app_of, with_rule}
use Rattle.gql_publish_words.proofs.command.with_orders.Goals as goal

pub returns : goal.returns
returns c =
    c.in_ok-command-3.ensures ∙ ap₂ with_rule (c.in_ok-command-2.ensures ∙ ap₂ with_rule (c.in_ok-command.ensures ∙ ap (with_rule (app_of c.args.command)) c.flag_arg.ensures.rule) c.flag_arg-2.ensures.rule) c.flag_arg-3.ensures.rule
