-- The laws that other crates cite; the proofs of the functions stand beside them, a folder each.
pub mod Formally
pub mod Spelled
pub mod Working
pub mod Putting
pub mod Like
pub mod Unique
