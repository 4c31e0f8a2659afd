use Rattle.std.proofs.Common.{refl, arith}
use Rattle.gql_text_syntax.specs.declared.syntax.InputValue.{InputValue}
use Rattle.gql_text.specs.DocumentOf.{input_of}
use Rattle.gql_parts.specs.BuilderViews.{field_parts}
use Rattle.gql_publish_document.specs.Clean.{IsCleanInput}
use Rattle.gql_publish_document.specs.Members.{input_parts}
use Rattle.gql_publish_load.proofs.Taken.{new_entries, all_taken, each_clean}
use Rattle.gql_publish_load.proofs.fields.with_arguments.Goals as goal

pub take_all-requires-clause-new : goal.take_all-requires-clause-new
take_all-requires-clause-new g c = new_entries (λ (x : InputValue). (x.key.name, input_parts (input_of x))) input_of (λ i. i.name) (λ x. refl) _ c.requires.none c.args.arguments.now c.requires.clean.0

pub take_all-requires-clause-clean : goal.take_all-requires-clause-clean
take_all-requires-clause-clean g c = each_clean input_of IsCleanInput c.args.arguments.now c.requires.clean.1

pub returns : goal.returns
returns g c =
    let e = all_taken (λ (x : InputValue). (x.key.name, input_parts (input_of x))) input_of (λ i. (i.name, input_parts i)) (λ x. refl) (field_parts c.args.field).arguments c.requires.none c.args.arguments.now in
    grind arith
