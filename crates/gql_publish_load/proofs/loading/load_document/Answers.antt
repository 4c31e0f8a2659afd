use Rattle.std.proofs.Common.{ap}
use Rattle.gql_registry_meta.specs.Views.{entries_of}
use Rattle.gql_dynamic.specs.SchemaViews.{type_parts}
use Rattle.gql_publish_load.proofs.Recordings.{own_names, different_names}
use Rattle.gql_publish_load.proofs.loading.load_document.Goals as goal

pub invariant_of-builder-clause-own : goal.invariant_of-builder-clause-own
invariant_of-builder-clause-own g c = own_names _ (ap (λ es. entries_of type_parts es) c.new.ensures.empty)

pub invariant_of-builder-clause-different : goal.invariant_of-builder-clause-different
invariant_of-builder-clause-different g c = different_names _ (ap (λ es. entries_of type_parts es) c.new.ensures.empty)
