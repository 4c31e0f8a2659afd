use Rattle.std.proofs.lemmas.Result.{IfOk-weaker}
use Rattle.gql_sdl_view.specs.Options.{registry_choice}
use Rattle.gql_sdl.specs.Values.{options_of}
use Rattle.gql_sdl.proofs.types.viewed_type.Goals as goal

pub returns-in-Union : goal.returns-in-Union
returns-in-Union g c = rw c.in-Union.is (IfOk-weaker c.viewed_union.result _ _ (λ copy same. same (registry_choice (options_of c.args.options))) (rw c.in-Union.is at c.viewed_union.ensures))
