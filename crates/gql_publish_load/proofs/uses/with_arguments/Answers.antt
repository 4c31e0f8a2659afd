use Rattle.std.proofs.Common.{refl, arith}
use Rattle.gql_text_syntax.specs.declared.syntax.Argument.{Argument}
use Rattle.gql_text.specs.DocumentOf.{argument_of}
use Rattle.gql_parts.specs.BuilderViews.{directive_use}
use Rattle.gql_publish_load.proofs.Taken.{new_entries, all_taken, nothing_asked}
use Rattle.gql_publish_load.proofs.uses.with_arguments.Goals as goal

pub take_all-requires-clause-new : goal.take_all-requires-clause-new
take_all-requires-clause-new c = new_entries (λ (x : Argument). argument_of x) argument_of (λ a. a.0) (λ x. refl) _ c.requires.none c.args.arguments.now c.requires.clean

pub take_all-requires-clause-clean : goal.take_all-requires-clause-clean
take_all-requires-clause-clean c = nothing_asked c.args.arguments.now

pub returns : goal.returns
returns c =
    let e = all_taken (λ (x : Argument). argument_of x) argument_of (λ a. a) (λ x. refl) (directive_use c.args.directive).args c.requires.none c.args.arguments.now in
    grind arith
