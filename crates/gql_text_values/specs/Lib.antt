pub mod TypeRefs
pub mod Shapes
pub mod SameType
pub mod ConstValues
pub mod SameValue
pub mod EqualTypes
pub mod EqualValues
