use Rattle.std.proofs.Common.{rules}
use Rattle.gql_registry_meta.specs.Views.{texts_in}
use Rattle.gql_registry_closures.specs.Answers.{parts_of}
use Rattle.gql_registry_closures.specs.Table.{IsTableOf}
use Rattle.gql_registry_closures.specs.declared.table.Table.{Table}
use Rattle.gql_registry_closures.proofs.Whole.{whole_table}
use Rattle.gql_registry_closures.proofs.table.Table.new.Goals as goal

pub returns-clause-whole : goal.returns-clause-whole
returns-clause-whole g c =
    let parts = parts_of c.args.types.now c.args.directives.now (texts_in c.args.roots.now) in
    let table : Table = record { starts = c.in_ok-starts_of.field-0; rules = c.in_ok-rules_of.field-0; edges = c.in_ok-all_edges.field-0; implementers = c.in_ok-all_implementers.field-0 } in
    let t : IsTableOf parts table = search rules in
    whole_table parts table t
