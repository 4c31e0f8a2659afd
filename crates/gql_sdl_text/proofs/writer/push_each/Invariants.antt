use Rattle.std.proofs.Common.{◌≡◌, ◌++◌, string_bytes, flat_map, take}
use Rattle.gql_sdl_text.proofs.writer.push_each.Given as goal

-- what is written so far
abbrev pub invariant-loop-part : goal.invariant-loop-part
invariant-loop-part g l = string_bytes l.out ≡ string_bytes l.initial.out ++ flat_map (λ part. g.W.Writer.text l.writer part.now) (take l.part-index l.parts)
