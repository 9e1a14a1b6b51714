-- Need not be believed: the crate serves only other crates.
pub mod Capped
