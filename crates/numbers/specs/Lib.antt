-- What the definitions say: what a reader answers; numbers in groups; codes; decimal digits; two's complement
pub mod Item
pub mod Number
pub mod Code
pub mod Decimal
pub mod Bytes
pub mod Inside
