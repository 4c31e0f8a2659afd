-- What a call that writes at the end of a text does to it.
use Rattle.std.specs.Prelude.{◌≡◌, ◌++◌, string_bytes}
use Rattle.std.specs.declared.string.String.{String}
use Rattle.std.specs.declared.alloc.Global.{Global}
use Rattle.gql_registry_meta.specs.Parts.{Text}

-- the text is appended
abbrev pub Grows : String Global → String Global → Text → Type 0
Grows before now text = string_bytes now ≡ string_bytes before ++ text
