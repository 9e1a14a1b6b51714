-- `multiply_step` meets its contract: the loop keeps `Stepping`.
use Rattle.sums.proofs.Stepping.{Stepping}
use Rattle.sums.proofs.binomial.multiply_step.Given as goal

abbrev pub invariant-loop-k : goal.invariant-loop-k
invariant-loop-k l = Stepping l.x l.y l.n l.initial.coefficients l.coefficients l.left l.k
