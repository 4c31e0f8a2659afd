pub mod Additions
pub mod Ascending
pub mod Listed
pub mod TypesUnder
pub mod Kept
pub mod Stands
