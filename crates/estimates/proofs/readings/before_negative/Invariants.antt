-- `before_negative` meets its contract: the loop keeps `Passing`.
use Rattle.estimates.proofs.Passing.{Passing}
use Rattle.estimates.proofs.readings.before_negative.Given as goal

abbrev pub invariant-loop-v : goal.invariant-loop-v
invariant-loop-v l = Passing l.tolerances l.v
