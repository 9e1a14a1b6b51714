-- `raise` meets its contract: the loop keeps `Copying`, and no sum is too large, since no tolerance is negative.
use lib.ListN.{length}
use Rattle.algebra.specs.Margin.{unsigned, raised_by}
use Rattle.answers.proofs.Copies.{Copying}
use Rattle.estimates.proofs.readings.raise.Given as goal

abbrev pub invariant-loop-v : goal.invariant-loop-v
invariant-loop-v l = Copying l.initial.raised (raised_by l.readings (unsigned l.tolerances)) (length l.initial.raised) l.raised l.v
