-- The laws that other crates cite; the proofs of the functions stand beside them, a folder each.
pub mod Numbers
pub mod Patterns
pub mod Sums
pub mod Cases
pub mod Unique
