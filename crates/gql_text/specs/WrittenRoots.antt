-- The roots of a document, found in the written tree.
use Rattle.std.specs.Prelude.{ℕ, Bool, true, false, List, [], Option, Some, None}
use Rattle.std.specs.List.{find, list_any}
use Rattle.std.specs.Option.{option_map}
use Rattle.std.specs.Str.{bytes_eq}
use Rattle.gql_text_syntax.specs.declared.operation.OperationType.{OperationType}
use Rattle.gql_text_syntax.specs.declared.syntax.PlacedName.{PlacedName}
use Rattle.gql_text_syntax.specs.declared.syntax.Root.{Root}
use Rattle.gql_text_syntax.specs.declared.syntax.Kind.{Kind}
use Rattle.gql_text_syntax.specs.declared.syntax.Kind.TheVariants as kind
use Rattle.gql_text_syntax.specs.declared.syntax.WrittenDefinition.{WrittenDefinition}
use Rattle.gql_text.specs.Roots.{operation_word, default_name, default_root, same_operation}

-- the name of a line is its first word
abbrev pub root_key : Root → PlacedName
root_key r = record { name = operation_word r.kind; at = r.at }

-- a line of this kind
abbrev pub has_line : OperationType → List Root → Bool
has_line operation roots = list_any (λ r. same_operation operation r.kind) roots

-- the name on the first line of this kind
abbrev pub written_line : OperationType → List Root → Option (List ℕ)
written_line operation roots = option_map (λ r. r.name) (find (λ r. same_operation operation r.kind) roots)

-- a schema block
abbrev pub is_schema : Kind → Bool
is_schema (kind.Schema at uses roots) = true
is_schema _ = false

-- the first schema block
abbrev pub first_schema : List WrittenDefinition → Option WrittenDefinition
first_schema ds = find (λ d. is_schema d.kind) ds

-- the lines of a schema block
abbrev pub roots_of : Kind → List Root
roots_of (kind.Schema at uses roots) = roots
roots_of _ = []

-- a `type` of this name
abbrev pub defines : List ℕ → Kind → Bool
defines name (kind.Object o) = bytes_eq o.key.name name
defines name _ = false

-- without a block, the default
abbrev pub default_root_of : OperationType → List WrittenDefinition → Option (List ℕ)
default_root_of operation ds = default_root operation (list_any (λ d. defines (default_name operation) d.kind) ds)

-- the name of a root, by the first schema block or by the defaults
abbrev pub root_by : Option WrittenDefinition → OperationType → List WrittenDefinition → Option (List ℕ)
root_by (Some schema) operation ds = written_line operation (roots_of schema.kind)
root_by None operation ds = default_root_of operation ds

-- whether a name is that of the root, if there is one
abbrev pub is_root : Option (List ℕ) → List ℕ → Bool
is_root None name = false
is_root (Some root) name = bytes_eq root name
