pub mod Rules
pub mod Steps
pub mod Closing
pub mod Texts
