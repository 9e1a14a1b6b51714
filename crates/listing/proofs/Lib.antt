pub mod Widths
pub mod Newline
pub mod Answered
pub mod Enough
pub mod Meaning
pub mod Unique
pub mod Cases
