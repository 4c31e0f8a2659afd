-- The lines that report why bytes are refused, each without its line feed.
use Rattle.std.specs.declared.string.String.{String}
use Rattle.std.specs.declared.alloc.Global.{Global}
use Rattle.std.specs.Prelude.{ℕ, ◌++◌, ◌≡◌, string_bytes, codes, decimal}
use Rattle.gql_registry_meta.specs.Parts.{Text}
use Rattle.gql_text_syntax.specs.declared.error.ReadError.{ReadError}
use Rattle.gql_text_syntax.specs.declared.error.ReadError.TheVariants as read_error
use Rattle.gql_text_syntax.specs.declared.error.What.{What}
use Rattle.gql_text_syntax.specs.declared.error.What.TheVariants as form
use Rattle.gql_check_rules.specs.Faults.{sentence}
use Rattle.gql_dynamic.specs.Errors.{message_of}
use Rattle.gql_publish_document.specs.Verdict.{Refusal, unreadable, broken}
use Rattle.gql_publish_load.specs.declared.error.PublishError.{PublishError}
use Rattle.gql_publish_load.specs.declared.error.PublishError.TheVariants as publish_error

-- the text is this line
abbrev pub IsLine : String Global → Text → Type 0
IsLine text line = string_bytes text ≡ line

-- the word for a form that is not supported
abbrev pub what_text : What → Text
what_text form.Float = codes "float"
what_text form.Extend = codes "extend"
what_text form.SecondSchema = codes "second schema block"
what_text form.NoQuery = codes "schema block without query"
what_text form.SchemaDecoration = codes "decorated schema block"
what_text form.SubscriptionDecoration = codes "decorated subscription root"
what_text form.Attribute = codes "misused attribute"

-- what is wrong, and the byte where it stands
abbrev pub at_line : Text → ℕ → Text
at_line text at = text ++ (codes " at " ++ decimal at)

-- the line of a reader's error
abbrev pub read_line : ReadError → Text
read_line (read_error.NotUtf8 at) = at_line (codes "not UTF-8") at
read_line (read_error.Syntax at) = at_line (codes "syntax error") at
read_line (read_error.TooDeep at) = at_line (codes "nested too deep") at
read_line (read_error.NumberRange at) = at_line (codes "number out of range") at
read_line (read_error.Unsupported w at) = at_line (codes "unsupported " ++ what_text w) at
read_line (read_error.Duplicate name at) = at_line (codes "\"" ++ (name ++ codes "\" is repeated")) at
read_line (read_error.ReservedName name at) = at_line (codes "\"" ++ (name ++ codes "\" is a reserved name")) at
read_line read_error.OutOfMemory = codes "out of memory"

-- the line of a refusal
abbrev pub refusal_line : Refusal → Text
refusal_line (unreadable error) = read_line error
refusal_line (broken fault) = sentence fault

-- the line of an error
abbrev pub line_of : PublishError → Text
line_of (publish_error.NotUtf8 at) = read_line (read_error.NotUtf8 at)
line_of (publish_error.Syntax at) = read_line (read_error.Syntax at)
line_of (publish_error.TooDeep at) = read_line (read_error.TooDeep at)
line_of (publish_error.NumberRange at) = read_line (read_error.NumberRange at)
line_of (publish_error.Unsupported w at) = read_line (read_error.Unsupported w at)
line_of (publish_error.Duplicate name at) = read_line (read_error.Duplicate name at)
line_of (publish_error.ReservedName name at) = read_line (read_error.ReservedName name at)
line_of (publish_error.Schema error) = message_of error
line_of publish_error.OutOfMemory = codes "out of memory"
