-- Patterns, the term order, and patterns held in words.
pub mod Lanes
pub mod Laws
pub mod Order
pub mod Fields
pub mod Word
pub mod Rank
pub mod Standing
pub mod Held
pub mod Either
