pub mod Definitions
pub mod Lines
pub mod Names
pub mod Texts
pub mod Writing
pub mod Faultless
pub mod Rules
pub mod Laws
