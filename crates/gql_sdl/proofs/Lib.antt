pub mod Taken
pub mod SortedEntries
pub mod Laws
pub mod Texts
