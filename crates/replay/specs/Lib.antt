-- Need not be believed: the crate is there to compare with.
pub mod Limits
pub mod Hex
pub mod Fields
pub mod Filling
pub mod Telling
