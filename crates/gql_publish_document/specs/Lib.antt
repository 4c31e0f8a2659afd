pub mod Uses
pub mod Members
pub mod Types
pub mod Document
pub mod Verdict
pub mod Clean
pub mod Standing
pub mod Published
