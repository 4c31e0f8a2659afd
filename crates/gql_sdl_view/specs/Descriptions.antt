-- A description before its owner: section 3.2 of the GraphQL specification, October 2021.
use Rattle.std.specs.Prelude.{Bool, [], Option, Some, None}
use Rattle.gql_registry_meta.specs.Parts.{Text}
use Rattle.gql_sdl_readback.specs.Descriptions.{description_text}

-- a description on lines of its own before its owner, if there is one
abbrev pub described : Bool → Text → Option Text → Text
described single indent None = []
described single indent (Some text) = description_text single indent text
