pub mod OneText
pub mod AllRows
pub mod WholeLists
pub mod RowLists
