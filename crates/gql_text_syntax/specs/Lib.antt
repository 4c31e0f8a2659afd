pub mod Sorts
pub mod Reads
pub mod Cursor
pub mod Types
pub mod Values
pub mod Grammar
pub mod Documents
