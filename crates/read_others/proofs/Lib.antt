pub mod Tickets
pub mod Whole
