pub mod Turns
pub mod OfKind
pub mod Data
pub mod Blocks
pub mod Answers
