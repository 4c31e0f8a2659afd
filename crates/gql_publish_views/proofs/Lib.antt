pub mod Needs
pub mod Directives
pub mod Views
