use Rattle.std.proofs.Common.{◌≡◌, ◌++◌, string_bytes}
use Rattle.gql_publish_sample.specs.Sample.{lines, sample}
use Rattle.gql_publish_sample.proofs.sample_text.Given as goal

abbrev pub invariant-loop-number : goal.invariant-loop-number
invariant-loop-number l = string_bytes l.text ++ lines l.number ≡ sample l.fn.types
