use Rattle.std.proofs.Common.{arith, rules, ◌<◌}
use Rattle.std.specs.List.{slice_index}
use Rattle.std.proofs.lemmas.Str.{lead_after_ascii}
use Rattle.gql_registry_meta.proofs.type_name.level_of.Goals as goal

pub range-requires-then-ends_in-2-clause-start_boundary : goal.range-requires-then-ends_in-2-clause-start_boundary
range-requires-then-ends_in-2-clause-start_boundary c =
    let open_first : slice_index c.args.type_name.now 0 < 128 = search rules in
    λ _. (omega arith, λ more high. lead_after_ascii c.args.type_name.now 0 c.utf8.type_name open_first more high)
