pub mod Parts
pub mod Messages
pub mod Fields
pub mod Joins
pub mod Hellos
pub mod Mays
