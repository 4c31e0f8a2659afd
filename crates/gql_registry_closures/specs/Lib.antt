pub mod Links
pub mod Reached
pub mod Answers
pub mod Names
pub mod Entities
pub mod Table
pub mod Walk
