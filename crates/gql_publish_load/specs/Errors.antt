-- What the errors of the code stand for.
use Rattle.std.specs.Prelude.{◌≡◌, Option, Some, None, IsSomeAnd}
use Rattle.gql_check_rules.specs.Faults.{Fault}
use Rattle.gql_dynamic.specs.Errors.{fault_of}
use Rattle.gql_dynamic.specs.declared.schema_error.SchemaError.{SchemaError}
use Rattle.gql_text_syntax.specs.declared.error.ReadError.{ReadError}
use Rattle.gql_text_syntax.specs.declared.error.ReadError.TheVariants as read_error
use Rattle.gql_publish_document.specs.Verdict.{Refusal, unreadable, broken}
use Rattle.gql_publish_load.specs.declared.error.PublishError.{PublishError}
use Rattle.gql_publish_load.specs.declared.error.PublishError.TheVariants as publish_error

-- a reader's error, for the publisher
abbrev pub read_as : ReadError → PublishError
read_as (read_error.NotUtf8 at) = publish_error.NotUtf8 at
read_as (read_error.Syntax at) = publish_error.Syntax at
read_as (read_error.TooDeep at) = publish_error.TooDeep at
read_as (read_error.NumberRange at) = publish_error.NumberRange at
read_as (read_error.Unsupported w at) = publish_error.Unsupported w at
read_as (read_error.Duplicate name at) = publish_error.Duplicate name at
read_as (read_error.ReservedName name at) = publish_error.ReservedName name at
read_as read_error.OutOfMemory = publish_error.OutOfMemory

-- an error of the schema, for the publisher: that of a broken rule is kept
abbrev pub published_with : Option Fault → SchemaError → PublishError → Type 0
published_with (Some fault) error answer = answer ≡ publish_error.Schema error
published_with None error answer = answer ≡ publish_error.OutOfMemory

-- the same, by the rule that the error reports
abbrev pub published_as : SchemaError → PublishError → Type 0
published_as error answer = published_with (fault_of error) error answer

-- the error reports a refusal for which the fact holds, or is that memory ran out
abbrev pub Refuses : (Refusal → Type 0) → PublishError → Type 0
Refuses Holds (publish_error.NotUtf8 at) = Holds (unreadable (read_error.NotUtf8 at))
Refuses Holds (publish_error.Syntax at) = Holds (unreadable (read_error.Syntax at))
Refuses Holds (publish_error.TooDeep at) = Holds (unreadable (read_error.TooDeep at))
Refuses Holds (publish_error.NumberRange at) = Holds (unreadable (read_error.NumberRange at))
Refuses Holds (publish_error.Unsupported w at) = Holds (unreadable (read_error.Unsupported w at))
Refuses Holds (publish_error.Duplicate name at) = Holds (unreadable (read_error.Duplicate name at))
Refuses Holds (publish_error.ReservedName name at) = Holds (unreadable (read_error.ReservedName name at))
Refuses Holds (publish_error.Schema error) = IsSomeAnd (fault_of error) (λ fault. Holds (broken fault))
Refuses Holds publish_error.OutOfMemory = Unit {0}
