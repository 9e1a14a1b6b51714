-- The laws that other crates cite; the proofs of the functions stand beside them, a folder each.
pub mod Hearing
pub mod Fitting
pub mod Heard
pub mod Unique
pub mod Cases
