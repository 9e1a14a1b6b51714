-- The laws that other crates cite; the proofs of the functions stand beside them, a folder each.
pub mod Sound
pub mod Passing
pub mod Tables
pub mod Meaning
pub mod Simplifying
pub mod Standing
pub mod Building
pub mod Answering
pub mod Unique
pub mod Cases
