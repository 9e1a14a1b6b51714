-- `size_of` meets its contract: the loop keeps `Sizing`.
use Rattle.sums.proofs.Sizing.{Sizing}
use Rattle.sums.proofs.size_of.Given as goal

abbrev pub invariant-loop-k : goal.invariant-loop-k
invariant-loop-k l = Sizing l.s.patterns.now l.s.coefficients.now l.degree l.weight l.k
