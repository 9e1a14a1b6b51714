-- What the definitions say: what becomes a packed sum; what becomes of one that is written and typed in again; 01's cases
pub mod Becomes
pub mod FromText
pub mod Promised
pub mod Cases
