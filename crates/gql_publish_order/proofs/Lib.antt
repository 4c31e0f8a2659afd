pub mod Lists
pub mod SortedTypes
pub mod Distinct
pub mod Laws
