pub mod Kinds
pub mod Extensions
pub mod Splits
