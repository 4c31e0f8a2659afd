use Rattle.std.proofs.Common.{[], ◌++◌, map, sym, ap, subst, arith}
use Rattle.gql_text_syntax.specs.declared.syntax.PlacedName.{PlacedName}
use Rattle.gql_text.specs.DocumentOf.{bare_names_of}
use Rattle.gql_publish_load.specs.Taking.{AreNew, is_new_name}
use Rattle.gql_publish_load.proofs.Taken.{new_names, nothing_asked}
use Rattle.gql_publish_load.proofs.objects.interface_with_names.Goals as goal

pub take_all-requires-clause-new : goal.take_all-requires-clause-new
take_all-requires-clause-new c = subst (λ b. AreNew is_new_name b (map (λ (x : PlacedName). x.name) c.args.names.now)) (sym c.requires.none) (new_names [] (bare_names_of c.args.names.now) c.requires.clean)

pub take_all-requires-clause-clean : goal.take_all-requires-clause-clean
take_all-requires-clause-clean c = nothing_asked c.args.names.now

pub returns : goal.returns
returns c =
    let e = ap (λ b. b ++ bare_names_of c.args.names.now) c.requires.none in
    grind arith
