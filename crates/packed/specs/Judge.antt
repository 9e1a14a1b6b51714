-- How a term is judged by the terms before it, in unpacking and in packing.
use Rattle.std.specs.Prelude.{Bool, true, not, ◌&&◌, [], ◌∷◌, ℕ, ◌+◌, leb, ℤ, nat_abs}
use Rattle.algebra.specs.Limits.{largest_weight}
use Rattle.algebra.specs.Pattern.{Pattern, order}
use Rattle.algebra.specs.Sum.{Sum, is_zero, is_before}

-- the coefficient is not 0, and the absolute coefficients, `so_far` before it, are not above 2^62 with it
unfoldable pub weighs : ℕ → ℤ → Bool
weighs so_far c = not (is_zero c) && leb (so_far + nat_abs c) largest_weight

-- the pattern stands strictly after the one before; `before` has the terms before it, the last of them first
unfoldable pub follows : Sum → Pattern → Bool
follows [] p = true
follows (t ∷ before) p = is_before (order t.pattern p)
