-- The slope of a sum by a variable.
use Rattle.std.specs.Prelude.{map, ℕ, pos, ◌*ℤ◌}
use Rattle.algebra.specs.Pattern.{exponent, lowered}
use Rattle.algebra.specs.Sum.{Term, term, Sum}
use Rattle.algebra.specs.Collect.{collect}

-- the coefficient times the power of v, and one power of v less; a term without v becomes 0, and goes
abbrev pub slope_term : ℕ → Term → Term
slope_term v t = term (t.coefficient *ℤ pos (exponent v t.pattern)) (lowered v t.pattern)

unfoldable pub slope : ℕ → Sum → Sum
slope v s = collect (map (slope_term v) s)
