-- Need not be believed: the crate serves only other crates.
pub mod Asked
pub mod Formed
pub mod Rows
