-- The rules of the fields of an interface, field by field, where those on what it declares come after the first field.
use Rattle.std.proofs.Common.{◌≡◌, Bool, true, false, cond, Option, Some, None, IfSome, sym, ◌∙◌}
use Rattle.gql_check_rules.specs.Faults.{Fault}
use Rattle.gql_check_rules.specs.Tests.{or_else}

-- what is reported at a field is the first fault of all
pub broken_field : (b : Bool) (own declared rest all told : Option Fault) → cond b (or_else own (or_else declared rest)) (or_else own rest) ≡ all → IfSome told (λ fault. or_else own (cond b declared None) ≡ Some fault) → IfSome told (λ fault. all ≡ Some fault)
broken_field b own declared rest all None e k = tt
broken_field true None None rest all (Some x) e k = cc k
broken_field true None (Some y) rest all (Some x) e k = sym e ∙ k
broken_field true (Some y) declared rest all (Some x) e k = sym e ∙ k
broken_field false None declared rest all (Some x) e k = cc k
broken_field false (Some y) declared rest all (Some x) e k = sym e ∙ k
