-- `merge` meets its contract: the loop keeps `Merges`.
use Prim.Native.Nat.{◌+◌, ◌-◌}
use Rattle.sums.proofs.Merges.{Merges}
use Rattle.sums.proofs.adding.merge.Given as goal

abbrev pub invariant-loop-x : goal.invariant-loop-x
invariant-loop-x l = Merges l.s.patterns.now l.s.coefficients.now l.t.patterns.now l.t.coefficients.now l.initial.patterns l.initial.coefficients l.patterns l.coefficients l.x l.y l.k

abbrev pub decreases-loop-x : goal.decreases-loop-x
decreases-loop-x l = l.all - (l.x + l.y)
