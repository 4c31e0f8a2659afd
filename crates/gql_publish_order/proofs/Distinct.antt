-- In what the rules look at in a clean document no name repeats.
use Rattle.std.proofs.Common.{Bool, true, false, cond, List, [], ◌∷◌, map, Option, sym, subst}
use Rattle.std.specs.List.{AllByRecursion, filter_map}
use Rattle.gql_text_syntax.specs.declared.operation.OperationType.TheVariants.{Subscription}
use Rattle.gql_text.specs.Roots.{root_of}
use Rattle.gql_text.specs.declared.document.Definition.{Definition}
use Rattle.gql_text.specs.declared.document.Definition.TheVariants as definition
use Rattle.gql_text.specs.declared.document.Document.{Document}
use Rattle.gql_text.specs.declared.document.FieldDef.{FieldDef}
use Rattle.gql_text.specs.declared.document.InputDef.{InputDef}
use Rattle.gql_text.specs.declared.document.TypeHead.{TypeHead}
use Rattle.gql_registry_meta.specs.Parts.{Text}
use Rattle.gql_dynamic.specs.SchemaTypes.{TypeParts, type_name}
use Rattle.gql_dynamic.specs.SchemaTypes as built
use Rattle.gql_check_rules.specs.Order.{Each, HasDistinctNames, IsDistinctFields, IsDistinctDefinition, IsDistinctSchema}
use Rattle.gql_check_code.specs.Definitions.{each_of, checked_input_of, checked_inputs_of, checked_field_of, checked_fields_of, checked_subscription_field_of, checked_subscription_fields_of, definition as checked}
use Rattle.gql_publish_document.specs.Clean.{AreCleanInputs, IsCleanField, AreCleanFields, IsCleanDefinition, IsClean}
use Rattle.gql_publish_document.specs.Document.{document_types, document_schema, entry_of}
use Rattle.gql_publish_document.specs.Members.{input_parts, inputs_parts, field_parts, fields_parts, subscription_field_parts, subscription_fields_parts}
use Rattle.gql_publish_document.specs.Types.{type_in, is_upload, scalar_parts, object_parts, subscription_parts, is_root}
use Rattle.gql_publish_order.proofs.Lists.{distinct_entries, twice_mapped}

inputs_distinct : (is : List InputDef) → AreCleanInputs is → HasDistinctNames (checked_inputs_of (inputs_parts is))
inputs_distinct is h =
    subst HasDistinctNames (sym (twice_mapped (λ (i : InputDef). (i.name, input_parts i)) checked_input_of is)) (distinct_entries (λ (i : InputDef). i.name) (λ (i : InputDef). checked_input_of (input_parts i)) is h.0)

arguments_distinct : (fs : List FieldDef) → AllByRecursion IsCleanField fs → Each (λ field. HasDistinctNames field.1.arguments) (checked_fields_of (fields_parts fs))
arguments_distinct [] h = tt
arguments_distinct (f ∷ fs) h = (inputs_distinct f.args h.0.0, arguments_distinct fs h.1)

fields_distinct : (fs : List FieldDef) → AreCleanFields fs → IsDistinctFields (checked_fields_of (fields_parts fs))
fields_distinct fs h = (
  subst HasDistinctNames (sym (twice_mapped (λ (f : FieldDef). (f.name, field_parts f)) checked_field_of fs)) (distinct_entries (λ (f : FieldDef). f.name) (λ (f : FieldDef). checked_field_of (field_parts f)) fs h.0),
  arguments_distinct fs h.1,
)

root_arguments_distinct : (fs : List FieldDef) → AllByRecursion IsCleanField fs → Each (λ field. HasDistinctNames field.1.arguments) (checked_subscription_fields_of (subscription_fields_parts fs))
root_arguments_distinct [] h = tt
root_arguments_distinct (f ∷ fs) h = (inputs_distinct f.args h.0.0, root_arguments_distinct fs h.1)

root_fields_distinct : (fs : List FieldDef) → AreCleanFields fs → IsDistinctFields (checked_subscription_fields_of (subscription_fields_parts fs))
root_fields_distinct fs h = (
  subst HasDistinctNames (sym (twice_mapped (λ (f : FieldDef). (f.name, subscription_field_parts f)) checked_subscription_field_of fs))
      (distinct_entries (λ (f : FieldDef). f.name) (λ (f : FieldDef). checked_subscription_field_of (subscription_field_parts f)) fs h.0),
  root_arguments_distinct fs h.1,
)

scalar_distinct : (head : TypeHead) (t : Bool) → IsDistinctDefinition (checked (cond t built.upload (scalar_parts head)))
scalar_distinct head true = tt
scalar_distinct head false = tt

object_distinct : (head : TypeHead) (implements : List Text) (fields : List FieldDef) (t : Bool) → AreCleanFields fields → IsDistinctDefinition (checked (cond t (subscription_parts head fields) (object_parts head implements fields)))
object_distinct head implements fields true h = root_fields_distinct fields h
object_distinct head implements fields false h = fields_distinct fields h

types_distinct : (root : Option Text) (ds : List Definition) → AllByRecursion IsCleanDefinition ds → Each (λ type. IsDistinctDefinition type.1) (each_of checked (map entry_of (filter_map (type_in root) ds)))
types_distinct root [] h = tt
types_distinct root (definition.SchemaBlock roots at ∷ ds) h = types_distinct root ds h.1
types_distinct root (definition.Scalar head ∷ ds) h = (scalar_distinct head (is_upload head), types_distinct root ds h.1)
types_distinct root (definition.Object head implements fields ∷ ds) h = (object_distinct head implements fields (is_root root head.name) h.0.2, types_distinct root ds h.1)
types_distinct root (definition.Interface head implements fields ∷ ds) h = (fields_distinct fields h.0.2, types_distinct root ds h.1)
types_distinct root (definition.Union head members ∷ ds) h = (tt, types_distinct root ds h.1)
types_distinct root (definition.Enum head values ∷ ds) h = (tt, types_distinct root ds h.1)
types_distinct root (definition.Input head fields ∷ ds) h = (inputs_distinct fields h.0.1, types_distinct root ds h.1)
types_distinct root (definition.Directive directive ∷ ds) h = types_distinct root ds h.1

-- no name repeats in the schema of a clean document
pub clean_schema : (d : Document) → IsClean d → IsDistinctSchema (document_schema d)
clean_schema d h = (
  subst HasDistinctNames (sym (twice_mapped entry_of checked (document_types d))) (distinct_entries type_name checked (document_types d) h.types),
  types_distinct (root_of Subscription d) d.definitions h.definitions,
)
