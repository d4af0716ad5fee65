pub mod ExtTexts
pub mod ListsBack
