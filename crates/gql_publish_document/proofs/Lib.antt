pub mod Cleanness
pub mod OneVerdict
