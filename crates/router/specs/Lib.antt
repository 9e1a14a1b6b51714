-- What the definitions say: the operation, and when it is done or refuses; what cases are said with
pub mod Estimate
pub mod Promised
pub mod Cases
