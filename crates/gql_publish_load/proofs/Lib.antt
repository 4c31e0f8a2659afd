pub mod CanonicalTexts
pub mod Canonicals
pub mod FoundUses
pub mod Loaded
pub mod Publications
pub mod Recordings
pub mod Taken
