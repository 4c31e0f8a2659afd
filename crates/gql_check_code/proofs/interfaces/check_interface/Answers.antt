use Rattle.std.proofs.Common.{rules, ◌≡◌, ◌∷◌, Some, IfSome}
use Rattle.gql_check_rules.specs.Tests.{first_in}
use Rattle.gql_check_rules.specs.Rules.{field_fault, interface_fields_fault}
use Rattle.gql_dynamic.specs.Errors.{fault_of}
use Rattle.gql_check_code.specs.CheckedViews.{schema_of, checked_field, checked_fields, declared_fault_of}
use Rattle.gql_check_code.proofs.InterfaceFields.{broken_field}
use Rattle.gql_check_code.proofs.interfaces.check_interface.Goals as goal

pub returns-in_err-check_field : goal.returns-in_err-check_field
returns-in_err-check_field g c =
    let test = field_fault (schema_of c.args.types.now) c.args.ty.now in
    let declared = declared_fault_of c.args.types.now c.args.ty.now c.args.own.now in
    let first : c.loop-name.name-iterator ≡ (c.in-Some.name.now, c.in-Some.field.now) ∷ c.next.new.self = search rules in
    let all = interface_fields_fault (schema_of c.args.types.now) c.args.ty.now declared (checked_fields c.args.own.now.fields.entries) in
    let reported : IfSome (fault_of c.in_err-check_field.field-0.0) (λ fault. all ≡ Some fault) =
    broken_field c.loop-name.is_first (test (c.deref.result.now, checked_field c.in-Some.field.now)) declared (first_in test (checked_fields c.next.new.self)) all (fault_of c.in_err-check_field.field-0.0) (search (rules, c.loop-name.invariant, first)) c.in_err-check_field.ensures in
    search (rules, reported)
