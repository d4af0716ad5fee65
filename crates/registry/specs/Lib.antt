pub mod Types
pub mod Versions
pub mod Limits
pub mod Extensions
