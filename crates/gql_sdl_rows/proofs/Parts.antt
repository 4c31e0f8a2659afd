-- Parts of documents that can be written: names are names, types and values are within the limits.
use Rattle.std.proofs.Common.{◌≡◌, ℕ, true, List, [], ◌∷◌, Option, Some, None}
use Rattle.std.specs.List.{AllByRecursion}
use Rattle.gql_grammar.specs.Form.{among}
use Rattle.gql_text_lexer.specs.Forms.{IsName}
use Rattle.gql_text_syntax.specs.Grammar as g
use Rattle.gql_text_syntax.specs.Sorts.{name_sort, only}
use Rattle.gql_text_syntax.specs.Types.{type_of}
use Rattle.gql_text_syntax.specs.declared.sort.Sort.TheVariants.{Location}
use Rattle.gql_text_syntax.specs.declared.syntax.TypeTree.{TypeTree}
use Rattle.gql_text_values.specs.declared.const_value.ConstValue.{ConstValue}
use Rattle.gql_text_values.specs.declared.type_ref.TypeRef.{TypeRef}
use Rattle.gql_text.specs.declared.document.Definition.{Definition}
use Rattle.gql_text.specs.declared.document.Definition.TheVariants as definition
use Rattle.gql_text.specs.declared.document.DirectiveDef.{DirectiveDef}
use Rattle.gql_text.specs.declared.document.EnumValueDef.{EnumValueDef}
use Rattle.gql_text.specs.declared.document.FieldDef.{FieldDef}
use Rattle.gql_text.specs.declared.document.InputDef.{InputDef}
use Rattle.gql_text.specs.declared.document.RootLine.{RootLine}
use Rattle.gql_text.specs.declared.document.TypeHead.{TypeHead}
use Rattle.gql_registry_meta.specs.Parts.{Invocation}
use Rattle.gql_sdl_readback.proofs.Sound.{IsEnumName, IsSound}
use Rattle.gql_sdl_readback.proofs.Texts.{Spelled}
use Rattle.gql_text.specs.declared.document.DirectiveUse.{DirectiveUse}
use Rattle.gql_sdl_rows.specs.Shown.{invocation_of}

-- the list has an item
abbrev pub HasItem : {X : Type 0} → List X → Type 0
HasItem [] = ⊥
HasItem (x ∷ xs) = Unit {0}

-- fitting tokens spell a type that is built alike
pub record IsSoundType (ty : TypeRef) : Type 0 where
  pub tree : TypeTree
  pub spelled : Spelled g.type_ref tree
  pub same : type_of tree ≡ ty

-- the name of an argument is one, and its value is within the limits
pub record IsSoundArgument (argument : List ℕ × ConstValue) : Type 0 where
  pub name : IsName argument.0
  pub value : IsSound 64 argument.1

-- the name of a use is one, and its arguments are sound
pub record IsSoundInvocation (u : Invocation) : Type 0 where
  pub name : IsName u.name
  pub arguments : AllByRecursion IsSoundArgument u.args

-- sound uses
abbrev pub AreSoundInvocations : List Invocation → Type 0
AreSoundInvocations us = AllByRecursion IsSoundInvocation us

-- a default value, where there is one, is within the limits
abbrev pub IsSoundDefault : Option ConstValue → Type 0
IsSoundDefault None = Unit {0}
IsSoundDefault (Some v) = IsSound 64 v

-- uses at some places
abbrev pub AreSoundUses : List DirectiveUse → Type 0
AreSoundUses us = AllByRecursion (λ u. IsSoundInvocation (invocation_of u)) us

-- an argument or a field of an input object
pub record IsSoundInput (i : InputDef) : Type 0 where
  pub name : IsName i.name
  pub ty : IsSoundType i.ty
  pub default : IsSoundDefault i.default
  pub uses : AreSoundUses i.uses

-- a field of an object or of an interface
pub record IsSoundField (f : FieldDef) : Type 0 where
  pub name : IsName f.name
  pub args : AllByRecursion IsSoundInput f.args
  pub ty : IsSoundType f.ty
  pub uses : AreSoundUses f.uses

-- a value of an enum
pub record IsSoundValue (v : EnumValueDef) : Type 0 where
  pub name : IsEnumName v.name
  pub uses : AreSoundUses v.uses

-- what all definitions of types have
pub record IsSoundHead (h : TypeHead) : Type 0 where
  pub name : IsName h.name
  pub uses : AreSoundUses h.uses

-- a name of a location of directives
abbrev pub IsLocation : List ℕ → Type 0
IsLocation name = IsName name × (among (name_sort name) (only Location) ≡ true)

-- a definition of a directive, which has a location
pub record IsSoundDirective (d : DirectiveDef) : Type 0 where
  pub name : IsName d.name
  pub args : AllByRecursion IsSoundInput d.args
  pub locations : AllByRecursion IsLocation d.locations
  pub has : HasItem d.locations

-- the lines of a schema block
abbrev pub AreSoundRoots : List RootLine → Type 0
AreSoundRoots roots = AllByRecursion (λ r. IsName r.name) roots

-- one definition
abbrev pub IsSoundDefinition : Definition → Type 0
IsSoundDefinition (definition.SchemaBlock roots at) = AreSoundRoots roots
IsSoundDefinition (definition.Scalar head) = IsSoundHead head
IsSoundDefinition (definition.Object head implements fields) = IsSoundHead head × AllByRecursion IsName implements × AllByRecursion IsSoundField fields
IsSoundDefinition (definition.Interface head implements fields) = IsSoundHead head × AllByRecursion IsName implements × AllByRecursion IsSoundField fields
IsSoundDefinition (definition.Union head members) = IsSoundHead head × AllByRecursion IsName members
IsSoundDefinition (definition.Enum head values) = IsSoundHead head × AllByRecursion IsSoundValue values
IsSoundDefinition (definition.Input head fields) = IsSoundHead head × AllByRecursion IsSoundInput fields
IsSoundDefinition (definition.Directive directive) = IsSoundDirective directive
