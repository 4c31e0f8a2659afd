pub mod Entries
pub mod FirstCycle
pub mod InterfaceFields
pub mod Numbering
pub mod SameKinds
