pub mod Lines
pub mod Requests
pub mod Endings
pub mod Troubles
pub use Rattle.gql_streams.specs.Outside
pub use Rattle.gql_streams.specs.Causes
pub use Rattle.gql_streams.specs.Reading
pub use Rattle.gql_streams.specs.Writing
pub use Rattle.gql_streams.specs.Memory
pub use Rattle.gql_text.specs.Verdict as DocumentReading
pub use Rattle.gql_text.specs.DocumentOf
pub use Rattle.gql_text.specs.Owners
pub use Rattle.gql_text.specs.Faults as OwnerFaults
pub use Rattle.gql_dynamic.specs.Errors as SchemaErrors
pub use Rattle.gql_check_rules.specs.Faults
pub use Rattle.gql_check_rules.specs.Rules
pub use Rattle.gql_sdl_view.specs.Options
pub use Rattle.gql_sdl_view.specs.View
pub use Rattle.gql_sdl_view.specs.Spelling
pub use Rattle.gql_sdl.specs.Values as OptionValues
pub use Rattle.gql_publish_document.specs.Document
pub use Rattle.gql_publish_document.specs.Verdict
pub use Rattle.gql_publish_document.specs.Standing
pub use Rattle.gql_publish_document.specs.Published
pub use Rattle.gql_publish_words.specs.Words
pub use Rattle.gql_publish_sample.specs.Sample
pub use Rattle.gql_publish_load.specs.Errors
pub use Rattle.gql_publish_load.specs.Loading
pub use Rattle.gql_publish_load.specs.Publishing
pub use Rattle.gql_publish_load.specs.Canonical
pub use Rattle.gql_publish_views.specs.Laws
