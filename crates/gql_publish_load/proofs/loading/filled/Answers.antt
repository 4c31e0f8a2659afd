use Rattle.std.proofs.Common.{map, sym, subst}
use Rattle.std.specs.declared.option.Option.{Option}
use Rattle.std.specs.Option.{option_copied}
use Rattle.gql_text.specs.DocumentOf.{definition_of}
use Rattle.gql_registry_meta.specs.Parts.{Text}
use Rattle.gql_check.specs.Recordings.{recorded_of}
use Rattle.gql_publish_load.specs.Loading.{AreNewTypes}
use Rattle.gql_publish_load.proofs.Recordings.{all_new, whole_built}
use Rattle.gql_publish_load.proofs.loading.filled.Goals as goal

pub with_definitions-requires-clause-new : goal.with_definitions-requires-clause-new
with_definitions-requires-clause-new g c =
    subst (λ (o : Option Text). AreNewTypes o (recorded_of c.args.builder) (map definition_of c.as_slice.result.now)) (sym c.root-subscription.ensures)
    (all_new c.as_slice.result.now c.args.document (recorded_of c.args.builder) c.as_slice.ensures c.requires.clean c.requires.begun)

pub returns : goal.returns
returns g c =
    whole_built c.as_slice.result.now c.args.document (option_copied c.root-subscription.result) (recorded_of c.args.builder) (recorded_of c.in_ok-full.full) c.as_slice.ensures c.root-subscription.ensures c.requires.begun c.in_ok-full.ensures
