pub mod Parts
pub mod Views
pub mod Caching
pub mod Locations
pub mod Kinds
pub mod Invocations
pub mod TypeNames
pub mod Validators
