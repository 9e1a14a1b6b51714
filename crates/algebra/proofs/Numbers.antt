-- Tests, comparisons and whole numbers.
pub mod Test
pub mod Compare
pub mod Whole
pub mod Absolute
pub mod Solve
pub mod Signed
