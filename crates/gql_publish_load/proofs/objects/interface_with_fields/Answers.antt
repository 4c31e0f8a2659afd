use Rattle.std.proofs.Common.{refl, arith}
use Rattle.gql_text_syntax.specs.declared.syntax.Field.{Field}
use Rattle.gql_text.specs.DocumentOf.{field_def_of}
use Rattle.gql_dynamic_types.specs.TypeViews.{interface_parts}
use Rattle.gql_publish_document.specs.Clean.{IsCleanField}
use Rattle.gql_publish_document.specs.Members.{field_parts}
use Rattle.gql_publish_load.proofs.Taken.{new_entries, all_taken, each_clean}
use Rattle.gql_publish_load.proofs.objects.interface_with_fields.Goals as goal

pub take_all-requires-clause-new : goal.take_all-requires-clause-new
take_all-requires-clause-new c = new_entries (λ (x : Field). (x.key.name, field_parts (field_def_of x))) field_def_of (λ f. f.name) (λ x. refl) _ c.requires.none c.args.fields.now c.requires.clean.0

pub take_all-requires-clause-clean : goal.take_all-requires-clause-clean
take_all-requires-clause-clean c = each_clean field_def_of IsCleanField c.args.fields.now c.requires.clean.1

pub returns : goal.returns
returns c =
    let e = all_taken (λ (x : Field). (x.key.name, field_parts (field_def_of x))) field_def_of (λ f. (f.name, field_parts f)) (λ x. refl) (interface_parts c.args.interface).fields c.requires.none c.args.fields.now in
    grind arith
