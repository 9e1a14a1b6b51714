-- What the definitions say: what `terms` prints
pub mod Lines
pub mod Listing
pub mod Inside
