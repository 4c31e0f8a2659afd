pub mod Options
pub mod Ordered
pub mod View
pub mod Descriptions
pub mod Spelling
