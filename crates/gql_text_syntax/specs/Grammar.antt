-- The grammar of schema documents, row by row: section 3 of the GraphQL specification, October 2021.
use Rattle.std.specs.Prelude.{ℕ, List, [], ◌∷◌, ◌++◌, false, ◌==◌, if◌then◌else◌, Option, is_some}
use Rattle.gql_grammar.specs.Form.{Terminal, Form, one, seq, opt, alt, many, some, declared, limited, refused, ◌<$>◌}
use Rattle.gql_grammar.specs.Brackets.{Exceeds}
use Rattle.gql_text_syntax.specs.Sorts as s
use Rattle.gql_text_syntax.specs.Sorts.{code, only, token}
use Rattle.gql_text_syntax.specs.declared.sort.Sort.{Sort}
use Rattle.gql_text_syntax.specs.declared.sort.Sort.TheVariants.{Ampersand, AtSign, Bang, CloseBrace, CloseParen, Colon, Equals, Location, OpenBrace, OpenBracket, OpenParen, Pipe, WordDirective, WordEnum, WordExtend, WordImplements, WordInput, WordInterface, WordMutation, WordOn, WordQuery, WordRepeatable, WordScalar, WordSchema, WordType, WordUnion}
use Rattle.gql_text_syntax.specs.Reads.{or_none}
use Rattle.gql_text_syntax.specs.Types.{type_within}
use Rattle.gql_text_lexer.specs.Values.{string_text}
use Rattle.gql_text_syntax.specs.Values.{placed, key, value_within}
use Rattle.gql_text_syntax.specs.declared.syntax.TypeTree.{TypeTree}
use Rattle.gql_text_syntax.specs.declared.operation.OperationType.{OperationType}
use Rattle.gql_text_syntax.specs.declared.operation.OperationType.TheVariants.{Query, Mutation, Subscription}
use Rattle.gql_text_syntax.specs.declared.syntax.PlacedName.{PlacedName}
use Rattle.gql_text_syntax.specs.declared.syntax.Literal.{Literal}
use Rattle.gql_text_syntax.specs.declared.syntax.Description.{Description}
use Rattle.gql_text_syntax.specs.declared.syntax.Argument.{Argument}
use Rattle.gql_text_syntax.specs.declared.syntax.Use.{Use}
use Rattle.gql_text_syntax.specs.declared.syntax.InputValue.{InputValue}
use Rattle.gql_text_syntax.specs.declared.syntax.Field.{Field}
use Rattle.gql_text_syntax.specs.declared.syntax.EnumValue.{EnumValue}
use Rattle.gql_text_syntax.specs.declared.syntax.Root.{Root}
use Rattle.gql_text_syntax.specs.declared.syntax.Implements.{Implements}
use Rattle.gql_text_syntax.specs.declared.syntax.ObjectLike.{ObjectLike}
use Rattle.gql_text_syntax.specs.declared.syntax.Kind.{Kind}
use Rattle.gql_text_syntax.specs.declared.syntax.Kind.TheVariants as kinds
use Rattle.gql_text_syntax.specs.declared.syntax.WrittenDefinition.{WrittenDefinition}

-- Of one type these tokens come before this one, and it is an opening bracket that has 64 open brackets around it.
abbrev pub TypeLimit : List Terminal → Terminal → Type 0
TypeLimit ts t = (type_within 64).begins (ts ++ t ∷ []) × Exceeds s.nests s.nest_ends [] 64 0 ts t

-- Of one value these tokens come before this one, and it is an opening bracket that has 64 open brackets around it, or a
-- whole number out of range, or a float.
abbrev pub ValueLimit : List Terminal → Terminal → Type 0
ValueLimit ts t = (value_within 64).begins (ts ++ t ∷ []) × Exceeds s.nests s.nest_ends s.refused_numbers 64 0 ts t

-- Type
abbrev pub type_ref : Form TypeTree
type_ref = limited TypeLimit (declared (s.names ++ only OpenBracket) (only Bang) false (type_within 64))

-- Value
abbrev pub value : Form Literal
value = limited ValueLimit (declared s.values [] false (value_within 64))

-- Desc = quoted string | block string
unfoldable pub described : Form Description
described = (λ t. record { text = string_text t.text; at = t.at }) <$> one s.strings

-- Desc?, section 3.2
unfoldable pub description : Form (Option Description)
description = opt described

-- "{" Item* "}"
unfoldable pub braced : {A : Type 0} → Form A → Form (List A)
braced item = (λ p. p.1.0) <$> seq (token OpenBrace) (seq (many item) (token CloseBrace))

-- ("{" Item* "}")?
unfoldable pub body : {A : Type 0} → Form A → Form (List A)
body item = or_none <$> opt (braced item)

-- "(" Item+ ")"
unfoldable pub parenthesized : {A : Type 0} → Form A → Form (List A)
parenthesized item = (λ p. p.1.0) <$> seq (token OpenParen) (seq (some item) (token CloseParen))

-- ("(" Item+ ")")?
unfoldable pub arguments : {A : Type 0} → Form A → Form (List A)
arguments item = or_none <$> opt (parenthesized item)

-- Name ":" Value
unfoldable pub argument : Form Argument
argument = (λ p. record { key = p.0; value = p.1.1 }) <$> seq key (seq (token Colon) value)

-- "@" Name ("(" (Name ":" Value)+ ")")?
unfoldable pub directive_use : Form Use
directive_use = (λ p. record { at = p.0.at; name = p.1.0.text; arguments = p.1.1 })
    <$> seq (token AtSign) (seq (one s.names) (arguments argument))

-- "=" Value
unfoldable pub default_value : Form Literal
default_value = (λ p. p.1) <$> seq (token Equals) value

-- InputValue = Desc Name ":" Type ("=" Value)? Uses
unfoldable pub input_value : Form InputValue
input_value = (λ p. record { description = p.0; key = p.1.0; ty = p.1.1.1.0; default = p.1.1.1.1.0; uses = p.1.1.1.1.1 })
    <$> seq description (seq key (seq (token Colon) (seq type_ref (seq (opt default_value) (many directive_use)))))

-- Desc Name Args? ":" Type Uses
unfoldable pub field : Form Field
field = (λ p. record { description = p.0; key = p.1.0; arguments = p.1.1.0; ty = p.1.1.1.1.0; uses = p.1.1.1.1.1 })
    <$> seq description (seq key (seq (arguments input_value) (seq (token Colon) (seq type_ref (many directive_use)))))

-- EnumName
abbrev pub enum_name : Form PlacedName
enum_name = placed <$> one s.enum_names

-- Desc EnumName Uses
unfoldable pub enum_value : Form EnumValue
enum_value = (λ p. record { description = p.0; key = p.1.0; uses = p.1.1 })
    <$> seq description (seq enum_name (many directive_use))

-- the kind of operations that a word of this sort names
abbrev pub operation_type : ℕ → OperationType
operation_type sort = if sort == code WordQuery then Query else (if sort == code WordMutation then Mutation else Subscription)

-- Root = ("query" | "mutation" | "subscription") ":" Name
unfoldable pub root : Form Root
root = (λ p. record { kind = operation_type p.0.sort; at = p.0.at; name = p.1.1.text })
    <$> seq (one s.operations) (seq (token Colon) (one s.names))

-- sign Item
unfoldable pub next : {A : Type 0} → Sort → Form A → Form A
next sign item = (λ p. p.1) <$> seq (token sign) item

-- sign? Item (sign Item)*
unfoldable pub joined : {A : Type 0} → Sort → Form A → Form (List A)
joined sign item = (λ p. p.1.0 ∷ p.1.1) <$> seq (opt (token sign)) (seq item (many (next sign item)))

-- Location, section 3.13
unfoldable pub location : Form (List ℕ)
location = (λ t. t.text) <$> token Location

-- "{" Root+ "}"
unfoldable pub roots : Form (List Root)
roots = (λ p. p.1.0) <$> seq (token OpenBrace) (seq (some root) (token CloseBrace))

-- SchemaBlock = Desc "schema" Uses "{" Root+ "}", section 3.3
unfoldable pub schema_block : Form Kind
schema_block = (λ p. kinds.Schema p.0.at p.1.0 p.1.1) <$> seq (token WordSchema) (seq (many directive_use) roots)

-- Scalar = Desc "scalar" Name Uses, section 3.5
unfoldable pub scalar : Form Kind
scalar = (λ p. kinds.Scalar p.1.0 p.1.1) <$> seq (token WordScalar) (seq key (many directive_use))

-- Implements = "implements" "&"? Name ("&" Name)*, section 3.6
unfoldable pub implements : Form Implements
implements = (λ p. record { at = p.0.at; names = p.1 }) <$> seq (token WordImplements) (joined Ampersand key)

-- Name Implements? Uses Fields?, where Fields = "{" (Desc Name Args? ":" Type Uses)* "}"
unfoldable pub object_like : Form ObjectLike
object_like = (λ p. record { key = p.0; implements = p.1.0; uses = p.1.1.0; fields = p.1.1.1 })
    <$> seq key (seq (opt implements) (seq (many directive_use) (body field)))

-- Object = Desc "type" Name Implements? Uses Fields?, section 3.6
unfoldable pub object : Form Kind
object = (λ p. kinds.Object p.1) <$> seq (token WordType) object_like

-- Interface = Desc "interface" Name Implements? Uses Fields?, section 3.7
unfoldable pub «interface» : Form Kind
«interface» = (λ p. kinds.Interface p.1) <$> seq (token WordInterface) object_like

-- "=" "|"? Name ("|" Name)*
unfoldable pub members_given : Form (List PlacedName)
members_given = (λ p. p.1) <$> seq (token Equals) (joined Pipe key)

-- ("=" "|"? Name ("|" Name)*)?
unfoldable pub members : Form (List PlacedName)
members = or_none <$> opt members_given

-- Union = Desc "union" Name Uses ("=" "|"? Name ("|" Name)*)?, section 3.8
unfoldable pub union_type : Form Kind
union_type = (λ p. kinds.Union p.1.0 p.1.1.0 p.1.1.1) <$> seq (token WordUnion) (seq key (seq (many directive_use) members))

-- Enum = Desc "enum" Name Uses ("{" (Desc EnumName Uses)* "}")?, section 3.9
unfoldable pub enum_type : Form Kind
enum_type = (λ p. kinds.Enum p.1.0 p.1.1.0 p.1.1.1) <$> seq (token WordEnum) (seq key (seq (many directive_use) (body enum_value)))

-- Input = Desc "input" Name Uses ("{" InputValue* "}")?, section 3.10
unfoldable pub input : Form Kind
input = (λ p. kinds.Input p.1.0 p.1.1.0 p.1.1.1) <$> seq (token WordInput) (seq key (seq (many directive_use) (body input_value)))

-- Directive = Desc "directive" "@" Name Args? "repeatable"? "on" "|"? Location ("|" Location)*, section 3.13
unfoldable pub directive : Form Kind
directive = (λ p. kinds.Directive p.1.1.0 p.1.1.1.0 (is_some p.1.1.1.1.0) p.1.1.1.1.1.1)
    <$> seq (token WordDirective) (seq (token AtSign) (seq key (seq (arguments input_value)
    (seq (opt (token WordRepeatable)) (seq (token WordOn) (joined Pipe location))))))

-- Union | Enum | Input | Directive, after its description
unfoldable pub type_kind : Form Kind
type_kind = alt union_type (alt enum_type (alt input directive))

-- a definition after its description
unfoldable pub kind : Form Kind
kind = alt schema_block (alt scalar (alt object (alt «interface» type_kind)))

-- Desc? and the definition that it describes
unfoldable pub described_definition : Form WrittenDefinition
described_definition = (λ p. record { description = p.0; kind = p.1 }) <$> seq description kind

-- an `extend` that is a definition of its own
unfoldable pub extension : Form WrittenDefinition
extension = refused (only WordExtend)

-- Definition = SchemaBlock | Scalar | Object | Interface | Union | Enum | Input | Directive
unfoldable pub definition : Form WrittenDefinition
definition = alt extension described_definition

-- Document = Definition+
unfoldable pub document : Form (List WrittenDefinition)
document = some definition
