pub use Rattle.gql_text_values.specs.TypeRefs
pub use Rattle.gql_text_values.specs.ConstValues
pub use Rattle.gql_registry_meta.specs.Parts
pub use Rattle.gql_registry_meta.specs.Views
pub use Rattle.gql_registry_meta.specs.Caching
pub use Rattle.gql_registry_meta.specs.Invocations
pub mod Builders
pub mod BuilderViews
