pub mod Joining
pub mod Building
pub mod Standing
