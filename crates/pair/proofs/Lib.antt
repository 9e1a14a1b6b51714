-- The laws that other crates cite; the proofs of the functions stand beside them, a folder each.
pub mod Measuring
pub mod TakingPart
pub mod ByPower
pub mod Copying
pub mod AddingRows
pub mod Bounds
pub mod Replacing
pub mod Unique
