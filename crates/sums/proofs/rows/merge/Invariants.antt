-- `merge` meets its contract: the loop keeps `Ranking`.
use Prim.Native.Nat.{◌+◌}
use Rattle.sums.proofs.Ranking.{Ranking}
use Rattle.sums.proofs.rows.merge.Given as goal

abbrev pub invariant-loop-j : goal.invariant-loop-j
invariant-loop-j l = Ranking l.initial.ranks l.initial.coefficients l.n l.rank l.c l.t.patterns.now l.t.coefficients.now l.ranks l.coefficients l.i l.j l.k

abbrev pub decreases-loop-j : goal.decreases-loop-j
decreases-loop-j l = l.i + l.j
