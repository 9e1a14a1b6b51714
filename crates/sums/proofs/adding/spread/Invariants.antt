-- `spread` meets its contract: the loop keeps `Counts`.
use Prim.Native.Nat.{◌+◌, ◌-◌}
use Rattle.sums.proofs.Counts.{Counts}
use Rattle.sums.proofs.adding.spread.Given as goal

abbrev pub invariant-loop-x : goal.invariant-loop-x
invariant-loop-x l = Counts l.s.patterns.now l.s.coefficients.now l.t.patterns.now l.t.coefficients.now l.x l.y l.count

abbrev pub decreases-loop-x : goal.decreases-loop-x
decreases-loop-x l = l.all - (l.x + l.y)
