use Rattle.std.proofs.Common.{◌≡◌, replicate, string_bytes}
use Rattle.gql_text_lexer.specs.Bytes.{space}
use Rattle.gql_sdl.proofs.options.spaces.Given as goal

-- the spaces so far
abbrev pub invariant-loop : goal.invariant-loop
invariant-loop l = string_bytes l.text ≡ replicate l.counter space
