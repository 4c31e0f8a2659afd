use Rattle.gql_publish_words.proofs.command.with_arg.Goals as goal

pub returns : goal.returns
returns c = c.in_ok-arg.ensures.shape c.requires
