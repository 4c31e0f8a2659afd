pub mod Literals
pub mod Bare
pub mod Shown
pub mod Faultless
