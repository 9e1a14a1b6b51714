-- Need not be believed: the crate serves only other crates.
pub mod Held
pub mod Formed
pub mod Asked
pub mod Rows
pub mod Adding
pub mod Binomial
pub mod Part
