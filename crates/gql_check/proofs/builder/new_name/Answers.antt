use Rattle.std.proofs.Common.{rules, ◌≡◌, sym, ap, ◌∙◌}
use Rattle.std.specs.Map.{keys_of}
use Rattle.gql_registry_meta.specs.Views.{text_of, entries_of}
use Rattle.gql_registry_meta.specs.Parts.{is_among}
use Rattle.gql_check_rules.specs.Faults.{already_exists}
use Rattle.gql_dynamic.specs.SchemaTypes.{type_name}
use Rattle.gql_dynamic.specs.SchemaViews.{type_parts}
use Rattle.gql_registry_meta.proofs.Entries.{found_among}
use Rattle.gql_check.proofs.builder.new_name.Goals as goal

pub returns-then-contains_key-clause-exists : goal.returns-then-contains_key-clause-exists
returns-then-contains_key-clause-exists g c =
    let types = c.args.types.now.types.entries in
    let same : text_of c.in_ok-name.name ≡ type_name (type_parts c.args.ty.now) = search rules in (
      ap already_exists same,
      ap (λ t. is_among t (keys_of (entries_of type_parts types))) (sym same)
          ∙ sym (found_among type_parts (text_of c.in_ok-name.name) types) ∙ sym c.contains_key.ensures ∙ c.if-contains_key.true,
    )

pub returns-clause-new : goal.returns-clause-new
returns-clause-new g c =
    let types = c.args.types.now.types.entries in
    let same : text_of c.in_ok-name.name ≡ type_name (type_parts c.args.ty.now) = search rules in
    ap (λ t. is_among t (keys_of (entries_of type_parts types))) (sym same)
    ∙ sym (found_among type_parts (text_of c.in_ok-name.name) types) ∙ sym c.contains_key.ensures ∙ c.if-contains_key.false
