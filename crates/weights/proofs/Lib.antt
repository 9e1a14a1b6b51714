-- The laws that other crates cite; the proofs of the functions stand beside them, a folder each.
pub mod Weighing
pub mod Halves
pub mod Unique
