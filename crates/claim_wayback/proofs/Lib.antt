pub mod Bytes
pub mod Wrote
pub mod Hellos
pub mod Demand3
pub mod Contents
pub mod WayBack
