-- What the attributes of the code stand for.
use Rattle.std.specs.Prelude.{Option, Some, None}
use Rattle.gql_registry_meta.specs.Parts.{Text, Deprecated, not_deprecated, deprecated_for}

-- not deprecated, or deprecated with a reason or without one
abbrev pub deprecated_as : Option (Option Text) → Deprecated
deprecated_as None = not_deprecated
deprecated_as (Some reason) = deprecated_for reason
