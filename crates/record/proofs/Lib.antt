pub mod Whole
pub mod Lies
