pub mod Errors
pub mod Taking
pub mod Attributes
pub mod Loading
pub mod Publishing
pub mod Canonical
