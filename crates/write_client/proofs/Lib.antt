pub mod Lengths
pub mod Fields
pub mod Asked
