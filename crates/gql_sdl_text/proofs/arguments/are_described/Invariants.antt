use Rattle.std.proofs.Common.{◌≡◌, false, take}
use Rattle.std.specs.List.{list_any}
use Rattle.gql_registry_meta.specs.Views.{input_value_of}
use Rattle.gql_sdl_view.specs.View.{viewed_input_value}
use Rattle.gql_sdl_view.specs.Spelling.{is_described}
use Rattle.gql_sdl_text.proofs.arguments.are_described.Given as goal

-- none so far
abbrev pub invariant-loop-value : goal.invariant-loop-value
invariant-loop-value l = list_any (λ v. is_described (viewed_input_value (input_value_of v.now))) (take l.value-index l.values) ≡ false
