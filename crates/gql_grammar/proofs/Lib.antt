pub mod Laws
pub mod Stops
pub mod Whole
pub mod Depth
