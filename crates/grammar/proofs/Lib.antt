pub mod Whole
pub mod Outs
pub mod Forms
pub mod Versions
pub mod Strict
pub mod Closed
pub mod Chain
pub mod Numbers
