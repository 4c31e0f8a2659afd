pub mod Definitions
pub mod CheckedViews
pub mod Counts
pub mod Cycles
