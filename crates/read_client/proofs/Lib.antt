pub mod Whole
pub mod Strict
