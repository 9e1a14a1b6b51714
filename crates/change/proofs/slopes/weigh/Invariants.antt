-- `weigh` meets its contract: the loop keeps `Weighing`.
use lib.ListN.{length}
use Rattle.change.proofs.Sloping.{Weighing}
use Rattle.change.proofs.slopes.weigh.Given as goal

abbrev pub invariant-loop-word : goal.invariant-loop-word
invariant-loop-word l = Weighing l.v l.s.patterns.now l.s.coefficients.now l.weight (length l.yielded)
