use Rattle.std.proofs.Common.{◌≡◌, ◌++◌, string_bytes}
use Rattle.gql_sdl_readback.specs.Descriptions.{indented}
use Rattle.gql_sdl_text.proofs.descriptions.push_indented.Given as goal

abbrev pub invariant-loop-c : goal.invariant-loop-c
invariant-loop-c l =
    string_bytes l.out ++ indented l.indent l.c-iterator.rest.now ≡ string_bytes l.initial.out ++ indented l.indent l.text
