pub mod Faults
pub mod Schema
pub mod Tests
pub mod Repeated
pub mod InputCycles
pub mod Rules
pub mod Order
pub mod Laws
