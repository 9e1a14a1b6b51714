-- `sum_of` meets its contract: the loop keeps `Adding`.
use mathlib.Core.List.{List}
use Prim.Native.Nat.{ℕ}
use lib.IntN.{ℤ}
use lib.ListN.{length}
use Rattle.estimates.specs.Inside.Parts.{Allowed}
use Rattle.estimates.specs.Inside.Powers.{Multiplies}
use Rattle.estimates.proofs.SumParts.{Adding}
use Rattle.estimates.proofs.valuing.sum_of.Given as goal

abbrev pub invariant-loop-pattern : goal.invariant-loop-pattern
invariant-loop-pattern g l =
    Allowed l.parts
    × ((x : List ℤ) (y : List ℕ) → Multiplies (goal.F-post g l.times_power) x y l.sum.patterns.now → Adding l.sum.patterns.now l.sum.coefficients.now x y l.parts (length l.yielded))
