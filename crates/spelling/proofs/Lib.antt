-- The laws of written sums; those that the reader of a text may count on are in Mailed.
pub mod Formulas
pub mod Values
pub mod TermPasses
pub mod SumPasses
pub mod Widths
pub mod Written
pub mod Mailed
pub mod Factors
pub mod FromLetter
pub mod WriteNumber
pub mod Signs
pub mod SumText
pub mod Told
pub mod Unique
pub mod Cases
