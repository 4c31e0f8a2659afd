pub mod KeyTexts
pub mod Made
