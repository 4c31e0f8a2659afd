-- The rows are those of the definitions, which is found by computing both.
use Rattle.gql_registry.specs.System.{skip, include, deprecated, specified_by, one_of}
use Rattle.gql_registry.specs.Tables.{directive_at}
use Rattle.gql_registry.proofs.system.system_directive.Goals as goal

pub returns-in-Skip : goal.returns-in-Skip
unfolding directive_at skip
returns-in-Skip c = rw c.in-Skip.is c.directive.ensures

pub returns-in-Include : goal.returns-in-Include
unfolding directive_at include
returns-in-Include c = rw c.in-Include.is c.directive-in-Include.ensures

pub returns-in-Deprecated : goal.returns-in-Deprecated
unfolding directive_at deprecated
returns-in-Deprecated c = rw c.in-Deprecated.is c.directive-in-Deprecated.ensures

pub returns-in-SpecifiedBy : goal.returns-in-SpecifiedBy
unfolding directive_at specified_by
returns-in-SpecifiedBy c = rw c.in-SpecifiedBy.is c.directive-in-SpecifiedBy.ensures

pub returns-in-OneOf : goal.returns-in-OneOf
unfolding directive_at one_of
returns-in-OneOf c = rw c.in-OneOf.is c.directive-in-OneOf.ensures
