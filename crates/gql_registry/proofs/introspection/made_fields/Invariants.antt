use Rattle.std.proofs.Common.{◌≡◌, [], take, fold}
use Rattle.gql_registry_meta.specs.Views.{fields_in}
use Rattle.gql_registry.specs.Tables.{with_row}
use Rattle.gql_registry.proofs.introspection.made_fields.Given as goal

-- the fields of the rows so far
abbrev pub invariant-loop-row : goal.invariant-loop-row
invariant-loop-row l = fields_in l.made ≡ fold with_row [] (take l.row-index l.rows)
