use Rattle.std.proofs.Common.{rules, ◌≡◌, map, sym, subst, ap₂, ◌∙◌}
use Rattle.std.specs.Map.{keys_of}
use Rattle.gql_registry_meta.specs.Views.{text_of, entries_of}
use Rattle.gql_parts.specs.BuilderViews.{field_parts}
use Rattle.gql_registry_meta.specs.Parts.{is_among}
use Rattle.gql_dynamic_types.specs.TypeViews.{ReportsRepeated}
use Rattle.gql_registry_meta.proofs.Entries.{names_of-entries}
use Rattle.gql_dynamic_types.proofs.object.Object.field.Goals as goal

pub returns-in_err-put_new-clause-repeated : goal.returns-in_err-put_new-clause-repeated
returns-in_err-put_new-clause-repeated c =
    let same : text_of c.in_ok-name.name ≡ text_of c.args.field.name = search rules in
    let told : ReportsRepeated (text_of c.args.field.name) (keys_of (entries_of field_parts c.args.self.fields.entries)) c.in_err-put_new.field-0.0 =
    subst (λ names. ReportsRepeated (text_of c.args.field.name) names c.in_err-put_new.field-0.0) (sym (names_of-entries field_parts c.args.self.fields.entries))
    (subst (λ name. ReportsRepeated name (map text_of (keys_of c.args.self.fields.entries)) c.in_err-put_new.field-0.0) same c.in_err-put_new.ensures.repeated) in
    search (rules, told)

pub returns-clause-new : goal.returns-clause-new
returns-clause-new c =
    let same : text_of c.args.field.name ≡ text_of c.in_ok-name.name = search rules in
    ap₂ is_among same (names_of-entries field_parts c.args.self.fields.entries) ∙ c.in_ok-put_new.ensures.new
