pub mod Lacks
pub mod Tally
