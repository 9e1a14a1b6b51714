-- `fill` meets its contract: the rows so far are filled.
use Prim.Native.Nat.{ℕ, ◌<◌}
use mathlib.Core.Path.{◌≡◌}
use mathlib.Core.List.{[]}
use lib.IntN.{pos}
use lib.ListN.{length, get_or}
use Rattle.algebra.specs.Limits.{variables}
use Rattle.algebra.specs.Pattern.{exponent}
use Rattle.algebra.specs.Word.{exponents}
use Rattle.estimates.specs.Inside.Powers.{Row}
use Rattle.estimates.proofs.powers.fill.Given as goal

abbrev pub invariant-loop-v : goal.invariant-loop-v
invariant-loop-v g l =
    (length l.table ≡ variables)
    × ((u : ℕ) → u < l.v → Row (get_or l.readings.raised.now u 0) (get_or l.readings.readings.now u (pos 0)) (exponent u (exponents l.used.0)) (get_or l.table u []))
