-- A pattern of the first variables, as one of all: what a reader has of a pattern before its last exponent is read.
use Rattle.std.specs.Prelude.{◌++◌, ℕ, ◌-◌, length}
use Rattle.algebra.specs.Pattern.{Pattern, empty_pattern}

-- the exponents p, and 0 for those of n variables that p lacks
abbrev pub filled : ℕ → Pattern → Pattern
filled n p = p ++ empty_pattern (n - length p)
