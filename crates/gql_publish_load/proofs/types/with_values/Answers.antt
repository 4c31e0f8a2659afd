use Rattle.std.proofs.Common.{refl, arith}
use Rattle.gql_text_syntax.specs.declared.syntax.EnumValue.{EnumValue}
use Rattle.gql_text.specs.DocumentOf.{enum_value_of}
use Rattle.gql_dynamic_types.specs.TypeViews.{enum_parts}
use Rattle.gql_publish_document.specs.Clean.{IsCleanValue}
use Rattle.gql_publish_document.specs.Members.{value_parts}
use Rattle.gql_publish_load.proofs.Taken.{new_entries, all_taken, each_clean}
use Rattle.gql_publish_load.proofs.types.with_values.Goals as goal

pub take_all-requires-clause-new : goal.take_all-requires-clause-new
take_all-requires-clause-new c = new_entries (λ (x : EnumValue). (x.key.name, value_parts (enum_value_of x))) enum_value_of (λ v. v.name) (λ x. refl) _ c.requires.none c.args.values.now c.requires.clean.0

pub take_all-requires-clause-clean : goal.take_all-requires-clause-clean
take_all-requires-clause-clean c = each_clean enum_value_of IsCleanValue c.args.values.now c.requires.clean.1

pub returns : goal.returns
returns c =
    let e = all_taken (λ (x : EnumValue). (x.key.name, value_parts (enum_value_of x))) enum_value_of (λ v. (v.name, value_parts v)) (λ x. refl) (enum_parts c.args.built).items c.requires.none c.args.values.now in
    grind arith
