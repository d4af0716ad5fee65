pub mod Begun
pub mod Taken
