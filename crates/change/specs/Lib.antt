-- What the definitions say: the two operations, lists, what a substitution means; when each is done or refuses
pub mod Slope
pub mod Pairs
pub mod Substitute
pub mod Meaning
pub mod Checks
pub mod Promised
pub mod Inside
