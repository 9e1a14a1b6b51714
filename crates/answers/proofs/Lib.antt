-- The laws that other crates cite; the proofs of the functions stand beside them, a folder each.
pub mod Outcomes
pub mod Refusing
pub mod Judging
pub mod Hosting
pub mod Writes
pub mod Copies
pub mod Unique
pub mod Tables
pub mod Signed
