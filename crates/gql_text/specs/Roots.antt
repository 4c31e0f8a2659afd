-- The roots of a document: section 3.3 of the GraphQL specification, October 2021.
use Rattle.std.specs.Prelude.{ℕ, Bool, true, false, cond, List, [], Option, Some, None, codes}
use Rattle.std.specs.List.{find, list_any}
use Rattle.std.specs.Option.{option_map}
use Rattle.std.specs.Str.{bytes_eq}
use Rattle.gql_text_syntax.specs.declared.operation.OperationType.{OperationType}
use Rattle.gql_text_syntax.specs.declared.operation.OperationType.TheVariants.{Query, Mutation, Subscription}
use Rattle.gql_text.specs.declared.document.RootLine.{RootLine}
use Rattle.gql_text.specs.declared.document.Definition.{Definition}
use Rattle.gql_text.specs.declared.document.Definition.TheVariants as definition
use Rattle.gql_text.specs.declared.document.Document.{Document}

-- the word of a root line
abbrev pub operation_word : OperationType → List ℕ
operation_word Query = codes "query"
operation_word Mutation = codes "mutation"
operation_word Subscription = codes "subscription"

-- the name of the root in a document without a schema block
abbrev pub default_name : OperationType → List ℕ
default_name Query = codes "Query"
default_name Mutation = codes "Mutation"
default_name Subscription = codes "Subscription"

-- two root lines of one kind
abbrev pub same_operation : OperationType → OperationType → Bool
same_operation Query Query = true
same_operation Mutation Mutation = true
same_operation Subscription Subscription = true
same_operation _ _ = false

-- without a block, `Query`, and each of the others where a `type` of its name is defined
abbrev pub default_root : OperationType → (is_defined : Bool) → Option (List ℕ)
default_root Query is_defined = Some (default_name Query)
default_root kind is_defined = cond is_defined (Some (default_name kind)) None

-- the name on the first line of this kind
abbrev pub root_line : OperationType → List RootLine → Option (List ℕ)
root_line kind lines = option_map (λ line. line.name) (find (λ line. same_operation kind line.kind) lines)

-- a schema block
abbrev pub is_schema : Definition → Bool
is_schema (definition.SchemaBlock lines at) = true
is_schema _ = false

-- the lines of a schema block
abbrev pub lines_of : Definition → List RootLine
lines_of (definition.SchemaBlock lines at) = lines
lines_of _ = []

-- a `type` of this name
abbrev pub defines : List ℕ → Definition → Bool
defines name (definition.Object head implements fields) = bytes_eq head.name name
defines name _ = false

-- the name of a root, by the first schema block or by the defaults
abbrev pub root_by : Option Definition → OperationType → List Definition → Option (List ℕ)
root_by (Some schema) kind ds = root_line kind (lines_of schema)
root_by None kind ds = default_root kind (list_any (defines (default_name kind)) ds)

-- the name of a root: what the first schema block says, or else the default
abbrev pub root_of : OperationType → Document → Option (List ℕ)
root_of kind document = root_by (find is_schema document.definitions) kind document.definitions
