pub mod Subtypes
pub mod Writing
pub mod SameValues
