pub mod Lookup
pub mod Written
