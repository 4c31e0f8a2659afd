pub mod Entries
pub mod Shown
pub mod Implements
pub mod Viewed
