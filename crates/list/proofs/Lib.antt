pub mod Walk
pub mod Stepping
pub mod AnySteps
pub mod Stopping
pub mod Fields
pub mod Fixed
pub mod Listed
pub mod Tags
