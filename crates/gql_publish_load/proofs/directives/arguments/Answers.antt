use Rattle.std.proofs.Common.{◌≡◌, [], refl, arith}
use Rattle.gql_text_syntax.specs.declared.syntax.InputValue.{InputValue}
use Rattle.gql_text.specs.DocumentOf.{input_of}
use Rattle.gql_registry_meta.specs.Views.{inputs_in}
use Rattle.gql_publish_document.specs.Members.{input_meta_of}
use Rattle.gql_publish_document.specs.Clean.{IsCleanInput}
use Rattle.gql_publish_load.proofs.Taken.{new_entries, all_taken, each_clean, entries_then}
use Rattle.gql_publish_load.proofs.directives.arguments.Goals as goal

pub take_all-requires-clause-new : goal.take_all-requires-clause-new
take_all-requires-clause-new c =
    let none : inputs_in c.new.result ≡ [] = grind arith in
    new_entries (λ (x : InputValue). (x.key.name, input_meta_of (input_of x))) input_of (λ i. i.name) (λ x. refl) _ none c.args.inputs.now c.requires.0

pub take_all-requires-clause-clean : goal.take_all-requires-clause-clean
take_all-requires-clause-clean c = each_clean input_of IsCleanInput c.args.inputs.now c.requires.1

pub returns : goal.returns
returns c =
    let none : inputs_in c.new.result ≡ [] = grind arith in
    let e = all_taken (λ (x : InputValue). (x.key.name, input_meta_of (input_of x))) input_of (λ i. (i.name, input_meta_of i)) (λ x. refl) (inputs_in c.new.result) none c.args.inputs.now in
    let f = entries_then c.args.inputs.now in
    grind arith
