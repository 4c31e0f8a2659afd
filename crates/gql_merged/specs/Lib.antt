pub mod Plain
pub mod Merged
pub mod QueryRoot
