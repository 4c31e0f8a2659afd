use Rattle.std.proofs.Common.{◌≡◌, ap, ◌∙◌}
use Rattle.gql_registry_meta.specs.Parts.{is_among}
use Rattle.gql_registry_closures.proofs.naming.once.Goals as goal

pub returns : goal.returns
returns c = record {
  ascending = c.in_ok-names.ensures.ascending;
  same = λ text. ap (is_among text) c.in_ok-names.ensures.texts ∙ c.in_ok-set.ensures text;
}
