-- What the definitions say: packed bytes, how they are read, what an operation leaves in its areas, the two operations, and when each is done or
-- refuses
pub mod Packed
pub mod Judge
pub mod ReadSum
pub mod Whole
pub mod Result
pub mod Unpack
pub mod Pack
pub mod Promised
pub mod Inside
