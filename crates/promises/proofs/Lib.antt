-- Theorems across the operations.
pub mod Becoming
pub mod Spellings
pub mod Margins
pub mod Worked
pub mod FromTexts
pub mod Mailed
pub mod Cases
