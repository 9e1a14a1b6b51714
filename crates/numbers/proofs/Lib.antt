-- The laws that other crates cite; the proofs of the functions stand beside them, a folder each.
pub mod Items
pub mod Groups
pub mod Numbers
pub mod Codes
pub mod Signs
pub mod ReadNumber
pub mod WriteNumber
pub mod Writing
pub mod Decimals
pub mod Complement
pub mod Unique
pub mod Cases
