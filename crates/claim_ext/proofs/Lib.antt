pub mod Places
pub mod NamesFill
pub mod DataFits
pub mod Texts
pub mod Cases
pub mod SmallBlocks
