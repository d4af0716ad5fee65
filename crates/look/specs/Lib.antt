pub mod Sums
pub mod Owed
pub mod Sealed
