pub mod Texts
pub mod Counting
pub mod Reaching
pub mod Finiteness
mod Soundness
mod AnyOrder
mod Sorting
mod Laws
