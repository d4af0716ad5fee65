pub mod Told
pub mod Then
