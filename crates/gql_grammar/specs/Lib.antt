pub mod Form
pub mod Brackets
