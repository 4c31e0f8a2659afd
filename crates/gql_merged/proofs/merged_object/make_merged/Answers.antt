use Rattle.std.proofs.Common.{rules, ◌≡◌, List, []}
use Rattle.std.specs.declared.result.Result.TheVariants.{Err}
use Rattle.gql_registry_meta.specs.Parts.{Text, Field}
use Rattle.gql_registry_meta.specs.Views.{meta_of, text_of, texts_of, fields_in, invocations_of}
use Rattle.gql_registry_meta.specs.Caching.{no_hint, merge}
use Rattle.gql_registry_meta.specs.declared.cache_control.CacheControl.{CacheControl}
use Rattle.gql_registry.specs.Registry.{registry_of}
use Rattle.gql_registry.specs.Created.{refusal_of, out_of_memory, made_by}
use Rattle.gql_merged.specs.Merged.{second_refused, first_refused, no_memory, merges, merged_name, joined, own_fields, own_hint}
use Rattle.gql_merged.proofs.Building.{built}
use Rattle.gql_merged.proofs.merged_object.make_merged.Goals as goal

pub returns-in_err-second : goal.returns-in_err-second
returns-in_err-second g c =
    let e = refusal_of c.in_err-second.field-0.0 in
    let passed : made_by meta_of c.from_residual.result ≡ Err e = search rules in
    second_refused e c.in_err-second.ensures passed

pub returns-in_err-first : goal.returns-in_err-first
returns-in_err-first g c =
    let e = refusal_of c.in_err-first.field-0.0 in
    let passed : made_by meta_of c.from_residual-in_err-first.result ≡ Err e = search rules in
    first_refused e (meta_of c.in_ok-second.second) (registry_of c.create_fake_output_type.new.self) c.in_ok-second.ensures c.in_err-first.ensures passed

pub returns-in_err-join_fields : goal.returns-in_err-join_fields
returns-in_err-join_fields g c =
    let out : made_by meta_of c.from_residual-in_err-join_fields.result ≡ Err out_of_memory = search rules in
    no_memory (meta_of c.in_ok-second.second) (meta_of c.in_ok-first.first) (registry_of c.create_fake_output_type.new.self) c.in_ok-second.ensures c.in_ok-first.ensures out

pub returns-in_err-name : goal.returns-in_err-name
returns-in_err-name g c =
    let out : made_by meta_of c.from_residual-in_err-name.result ≡ Err out_of_memory = search rules in
    no_memory (meta_of c.in_ok-second.second) (meta_of c.in_ok-first.first) (registry_of c.create_fake_output_type.new.self) c.in_ok-second.ensures c.in_ok-first.ensures out

pub returns : goal.returns
returns g c =
    let second = meta_of c.in_ok-second.second in
    let first = meta_of c.in_ok-first.first in
    let name = merged_name g.A.OutputType.named g.B.OutputType.named in
    let named : text_of c.in_ok-name.name ≡ name = search rules in
    let fields : List (Text × Field) = joined (own_fields second) (own_fields first) in
    let joins : fields_in c.join_fields.new.fields ≡ fields = search rules in
    let hint : CacheControl = merge (merge no_hint (own_hint second)) (own_hint first) in
    let hints : c.merge-cache_control.result ≡ hint = search rules in
    let tags : texts_of c.new.result ≡ [] = search rules in
    let uses : invocations_of c.new-2.result ≡ [] = search rules in
    let scopes : texts_of c.new-3.result ≡ [] = search rules in
    merges second first (registry_of c.create_fake_output_type.new.self) c.in_ok-second.ensures c.in_ok-first.ensures
    (built (text_of c.in_ok-name.name) name (fields_in c.join_fields.new.fields) fields c.merge-cache_control.result hint (texts_of c.new.result) (invocations_of c.new-2.result) (texts_of c.new-3.result)
    named joins hints tags uses scopes)
