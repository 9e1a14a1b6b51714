-- What the definitions say: readings and tolerances; the estimate and its margin; when readings are given
pub mod Readings
pub mod Range
pub mod Promised
pub mod Inside
