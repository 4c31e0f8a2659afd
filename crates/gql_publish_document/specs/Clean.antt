-- What holds of a document in which the reader finds no fault: the names of each owner are distinct.
use Rattle.std.specs.Prelude.{◌≡◌, false, List, [], map}
use Rattle.std.specs.List.{AllByRecursion, IsDistinct}
use Rattle.std.specs.Str.{bytes_eq}
use Rattle.gql_text_lexer.specs.Forms.{is_reserved}
use Rattle.gql_text_syntax.specs.declared.syntax.WrittenDefinition.{WrittenDefinition}
use Rattle.gql_text.specs.DocumentOf.{document_of}
use Rattle.gql_text.specs.Owners.{owner_faults}
use Rattle.gql_text.specs.declared.document.Document.{Document}
use Rattle.gql_text.specs.declared.document.Definition.{Definition}
use Rattle.gql_text.specs.declared.document.Definition.TheVariants as definition
use Rattle.gql_text.specs.declared.document.FieldDef.{FieldDef}
use Rattle.gql_text.specs.declared.document.InputDef.{InputDef}
use Rattle.gql_text.specs.declared.document.EnumValueDef.{EnumValueDef}
use Rattle.gql_text.specs.declared.document.DirectiveUse.{DirectiveUse}
use Rattle.gql_registry_meta.specs.Parts.{Text}
use Rattle.gql_dynamic.specs.SchemaTypes.{type_name}
use Rattle.gql_publish_document.specs.Document.{document_types, document_directives}

-- no name stands twice
abbrev pub AreDistinct : List Text → Type 0
AreDistinct names = IsDistinct bytes_eq names

-- the arguments of a use
abbrev pub IsCleanUse : DirectiveUse → Type 0
IsCleanUse use_ = AreDistinct (map (λ argument. argument.0) use_.args)

-- each use on one owner
abbrev pub AreCleanUses : List DirectiveUse → Type 0
AreCleanUses uses = AllByRecursion IsCleanUse uses

-- an argument or a field of an input object
abbrev pub IsCleanInput : InputDef → Type 0
IsCleanInput input = AreCleanUses input.uses

-- the arguments of one owner, or the fields of an input object
abbrev pub AreCleanInputs : List InputDef → Type 0
AreCleanInputs inputs = AreDistinct (map (λ input. input.name) inputs) × AllByRecursion IsCleanInput inputs

-- a field of an object or of an interface
abbrev pub IsCleanField : FieldDef → Type 0
IsCleanField field = AreCleanInputs field.args × AreCleanUses field.uses

-- the fields of one type
abbrev pub AreCleanFields : List FieldDef → Type 0
AreCleanFields fields = AreDistinct (map (λ field. field.name) fields) × AllByRecursion IsCleanField fields

-- a value of an enum
abbrev pub IsCleanValue : EnumValueDef → Type 0
IsCleanValue value = AreCleanUses value.uses

-- the values of an enum
abbrev pub AreCleanValues : List EnumValueDef → Type 0
AreCleanValues values = AreDistinct (map (λ value. value.name) values) × AllByRecursion IsCleanValue values

-- one definition
abbrev pub IsCleanDefinition : Definition → Type 0
IsCleanDefinition (definition.SchemaBlock roots at) = Unit {0}
IsCleanDefinition (definition.Scalar head) = AreCleanUses head.uses
IsCleanDefinition (definition.Object head implements fields) = AreCleanUses head.uses × AreDistinct implements × AreCleanFields fields
IsCleanDefinition (definition.Interface head implements fields) = AreCleanUses head.uses × AreDistinct implements × AreCleanFields fields
IsCleanDefinition (definition.Union head members) = AreCleanUses head.uses × AreDistinct members
IsCleanDefinition (definition.Enum head values) = AreCleanUses head.uses × AreCleanValues values
IsCleanDefinition (definition.Input head fields) = AreCleanUses head.uses × AreCleanInputs fields
IsCleanDefinition (definition.Directive directive) = AreCleanInputs directive.args

-- The names of its types are distinct and not reserved; the names of its directives are distinct, and so are those of each
-- owner in it.
pub record IsClean (d : Document) : Type 0 where
  pub types : AreDistinct (map type_name (document_types d))
  pub unreserved : AllByRecursion (λ name. is_reserved name ≡ false) (map type_name (document_types d))
  pub directives : AreDistinct (map (λ directive. directive.name) (document_directives d))
  pub definitions : AllByRecursion IsCleanDefinition d.definitions

-- a document is clean where its tree has no fault
abbrev pub IsCleanWhereFaultless : Type 0
IsCleanWhereFaultless = (tree : List WrittenDefinition) → owner_faults tree ≡ [] → IsClean (document_of tree)
