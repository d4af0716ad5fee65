pub mod ExtCases
pub mod ExtRows
