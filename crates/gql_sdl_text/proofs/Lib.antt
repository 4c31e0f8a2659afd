pub mod Sorting
pub mod Characters
pub mod Lendings
pub mod Printing
