-- What the definitions say: tables, the operation; what a formula means; which check fails first; when the operation is done or refuses
pub mod Table
pub mod Simplify
pub mod Meaning
pub mod Checks
pub mod Promised
pub mod Inside
