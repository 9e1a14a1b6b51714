-- What contracts of helpers and of private functions name, and no other: no promise of an operation rests on it.
pub mod Last
pub mod Shape
