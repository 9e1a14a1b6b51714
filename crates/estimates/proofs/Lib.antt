-- The laws that other crates cite; the proofs of the functions stand beside them, a folder each.
pub mod TwoBytes
pub mod Numbering
pub mod Tolerances
pub mod Passing
pub mod Raising
pub mod Multiplying
pub mod Tabling
pub mod TermParts
pub mod SumParts
pub mod JudgeTerms
pub mod EstimateAt
pub mod Unique
