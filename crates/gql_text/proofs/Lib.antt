pub mod Constants
pub mod First
pub mod Least
pub mod Names
pub mod Rooted
pub mod Values
pub mod Judgements
