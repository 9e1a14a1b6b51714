-- `raise` meets its contract: the loop keeps `Raised`.
use Rattle.sums.proofs.RaisingTwo.{Runs}
use Rattle.sums.proofs.binomial.raise.Given as goal

abbrev pub invariant-loop-k : goal.invariant-loop-k
invariant-loop-k l = Runs l.s.patterns.now l.s.coefficients.now l.e l.initial.coefficients l.coefficients l.k
