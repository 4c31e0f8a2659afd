use Rattle.std.proofs.Common.{◌≡◌, cond}
use Rattle.gql_check_rules.specs.Tests.{first_in}
use Rattle.gql_check_rules.specs.Rules.{field_fault, interface_fields_fault}
use Rattle.gql_check_code.specs.CheckedViews.{schema_of, checked_fields, declared_fault_of}
use Rattle.gql_check_code.proofs.interfaces.check_interface.Given as goal

-- what is left has the first fault of all; after the first field only fields are left
abbrev pub invariant-loop-name : goal.invariant-loop-name
invariant-loop-name g l =
    cond l.is_first (interface_fields_fault (schema_of l.types) l.ty (declared_fault_of l.types l.ty l.own) (checked_fields l.name-iterator))
    (first_in (field_fault (schema_of l.types) l.ty) (checked_fields l.name-iterator))
    ≡ interface_fields_fault (schema_of l.types) l.ty (declared_fault_of l.types l.ty l.own) (checked_fields l.initial.name-iterator)
