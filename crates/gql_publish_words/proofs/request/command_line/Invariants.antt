use Rattle.std.proofs.Common.{◌≡◌, map, take, string_bytes}
use Rattle.gql_publish_words.specs.Words.{command_line}
use Rattle.gql_publish_words.proofs.request.command_line.Given as goal

abbrev pub invariant-loop-word : goal.invariant-loop-word
invariant-loop-word l = map (λ w. w.now) l.line.items ≡ command_line (map string_bytes (take l.word-index l.words))
