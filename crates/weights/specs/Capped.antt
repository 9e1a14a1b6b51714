-- Weights as the code keeps them: exact up to 2^62, and above it only as too heavy.
use Rattle.std.specs.Prelude.{ℕ, suc, min}
use Rattle.algebra.specs.Limits.{largest_weight}

-- all weights above 2^62 are alike
abbrev pub capped : ℕ → ℕ
capped w = min w (suc largest_weight)
