use Rattle.std.proofs.Common.{◌≡◌, map, take, drop}
use Rattle.std.specs.List.{AllByRecursion}
use Rattle.std.specs.Option.{option_copied}
use Rattle.gql_text.specs.DocumentOf.{definition_of}
use Rattle.gql_check.specs.Recordings.{recorded_of}
use Rattle.gql_publish_document.specs.Clean.{IsCleanDefinition}
use Rattle.gql_publish_load.specs.Loading.{AreNewTypes, recorded_with}
use Rattle.gql_publish_load.proofs.loading.with_definitions.Given as goal

-- what is recorded so far; what is left is new and clean
abbrev pub invariant-loop-definition : goal.invariant-loop-definition
invariant-loop-definition g l = record {
  recorded : recorded_of l.full ≡ recorded_with (option_copied l.subscription) (recorded_of l.fn.builder) (map definition_of (take l.definition-index l.definitions));
  new : AreNewTypes (option_copied l.subscription) (recorded_of l.full) (map definition_of (drop l.definition-index l.definitions));
  clean : AllByRecursion IsCleanDefinition (map definition_of (drop l.definition-index l.definitions));
}
