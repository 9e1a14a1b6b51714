-- The laws that other crates cite; the proofs of the functions stand beside them, a folder each.
pub mod Estimating
pub mod Handing
pub mod Answering
pub mod ForHost
pub mod Answered
pub mod Unique
pub mod Cases
