use Rattle.std.proofs.Common.{Ok}
use Rattle.gql_publish.proofs.Explained.{memory_alone}
use Rattle.gql_publish.proofs.program.valid_text.Goals as goal

pub memory_ran_out-requires : goal.memory_ran_out-requires
memory_ran_out-requires c = memory_alone c.requires.0 c.in-Err.error (c.in-Err.ensures.exactly (Ok c.requires.0) c.requires.1)
