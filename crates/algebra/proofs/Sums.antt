-- Sums: collecting, what a sum says, and the operations on sums.
pub mod Total
pub mod Every
pub mod Held
pub mod Ordered
pub mod Occurs
pub mod Equal
pub mod Spreads
pub mod Ring
pub mod Values
pub mod Coefficients
pub mod Results
pub mod Splits
pub mod Slopes
pub mod SlopeTerms
pub mod Substitutes
pub mod Margins
