pub mod Keys
pub mod RegistrySteps
pub mod Implementers
