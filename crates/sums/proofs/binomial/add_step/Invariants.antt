-- `add_step` meets its contract: the loop keeps `Stepping` at 1 and 1.
use lib.IntN.{pos}
use Rattle.sums.proofs.Stepping.{Stepping}
use Rattle.sums.proofs.binomial.add_step.Given as goal

abbrev pub invariant-loop-k : goal.invariant-loop-k
invariant-loop-k l = Stepping (pos 1) (pos 1) l.n l.initial.coefficients l.coefficients l.left l.k
