pub mod Crossed
pub mod Claims
pub mod ExtensionClaims
