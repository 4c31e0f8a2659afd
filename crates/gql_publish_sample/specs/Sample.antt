-- Sample texts: schema documents with a given number of types beside the query root.
use Rattle.std.specs.Prelude.{ℕ, zero, suc, ◌-◌, ◌%◌, ◌==◌, ◌≤◌, if◌then◌else◌, [], ◌++◌, codes, Ok}
use Rattle.std.specs.Fmt.{decimal}
use Rattle.gql_text.specs.declared.document.Document.{Document}
use Rattle.gql_registry_meta.specs.Parts.{Text}
use Rattle.gql_publish_document.specs.Verdict.{HasVerdict}

-- the kinds of the types, which take turns
pub data Kind : Type 0 where
  object : Kind
  interface : Kind
  enum : Kind
  input : Kind

-- the kind of the type with this number
abbrev pub kind_at : ℕ → Kind
kind_at i = if i % 4 == 0 then object else (if i % 4 == 1 then interface else (if i % 4 == 2 then enum else input))

-- its name
abbrev pub name_at : ℕ → Text
name_at i = codes "T" ++ decimal i

-- Its line, by its kind. An input object needs the enum before it.
abbrev pub line_of : Kind → ℕ → Text
line_of object i = codes "type " ++ (name_at i ++ codes "{b:Int a:Query}\n")
line_of interface i = codes "interface " ++ (name_at i ++ codes "{a:Query}\n")
line_of enum i = codes "enum " ++ (name_at i ++ codes "{B A}\n")
line_of input i = codes "input " ++ (name_at i ++ (codes "{b:" ++ (name_at (i - 1) ++ codes "! a:Int=-1}\n")))

-- the lines of the first n types, the last one first
unfoldable pub lines : ℕ → Text
lines zero = []
lines (suc i) = line_of (kind_at i) i ++ lines i

-- the sample text with n types
abbrev pub sample : ℕ → Text
sample n = codes "type Query{v:Int}\n" ++ lines n

-- each sample text is a valid document
abbrev pub AreValid : Type 0
AreValid = (n : ℕ) → 1 ≤ n → n ≤ 20000 → (document : Document) × HasVerdict (sample n) (Ok document)
