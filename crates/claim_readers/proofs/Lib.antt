pub mod Checks
pub mod Readers
pub mod Strict
pub mod Only
pub mod Table
