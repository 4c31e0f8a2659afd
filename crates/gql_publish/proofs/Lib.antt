pub mod Explained
pub mod Tellings
pub mod Verdicts
