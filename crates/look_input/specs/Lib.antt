pub mod Marks
pub mod Inputs
