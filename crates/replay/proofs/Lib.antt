pub mod Hexing
pub mod Shows
pub mod Shown
