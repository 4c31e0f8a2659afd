use Rattle.std.proofs.Common.{ap, ◌∙◌}
use Rattle.std.specs.Map.{keys_of}
use Rattle.std.specs.String.{string_eq}
use Rattle.indexmap.proofs.CallerLemmas.{insert_entry-new}
use Rattle.gql_registry_meta.specs.Views.{text_of, entries_of}
use Rattle.gql_registry_meta.specs.Parts.{is_among}
use Rattle.gql_dynamic_types.specs.Types.{with_last}
use Rattle.gql_dynamic.specs.SchemaViews.{type_parts}
use Rattle.gql_check_code.specs.CheckedViews.{schema_parts}
use Rattle.gql_registry_meta.proofs.Entries.{found_among, nothing_at, entries_of-last}
use Rattle.gql_check.proofs.builder.put_last.Goals as goal

pub returns : goal.returns
returns g c =
    let types = c.args.types.now.types.entries in
    let name = text_of c.args.name in
    let ty = c.shrink_to_fit.new.self in
    let new = found_among type_parts name types ∙ ap (λ t. is_among t (keys_of (entries_of type_parts types))) c.requires.name ∙ c.requires.new in
    ap (λ types. record (schema_parts c.args.types.now) { types = types })
    (ap (entries_of type_parts)
    (c.in_ok-insert.ensures.entries
    ∙ insert_entry-new string_eq c.args.types.now.types c.args.name ty
    (nothing_at c.args.name types new))
    ∙ entries_of-last type_parts types c.args.name ty
    ∙ ap (with_last (entries_of type_parts types) name) c.shrink_to_fit.ensures
    ∙ ap (λ t. with_last (entries_of type_parts types) t (type_parts c.args.ty)) c.requires.name)
