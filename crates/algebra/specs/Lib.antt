-- What the definitions say: the numbers of 01; patterns and their order; ordered sums, and how any list of terms becomes one; the operations with
-- degree, weight and spread; values and the margin; a pattern in a word; which sums are accepted. (The last third of `Substitute`, from `Put` on,
-- waits for request Two, and no operation names it yet)
pub mod Limits
pub mod Pattern
pub mod Sum
pub mod Collect
pub mod Arithmetic
pub mod Value
pub mod Slope
pub mod Substitute
pub mod Margin
pub mod Word
pub mod Held
pub mod Accepted
pub mod Inside
