pub mod Slices
