-- `close` meets its contract: the loop keeps `Closing`, for each of the two areas.
use Rattle.sums.proofs.Closing.{Closing}
use Rattle.sums.proofs.rows.close.Given as goal

abbrev pub invariant-loop-k : goal.invariant-loop-k
invariant-loop-k l = Closing l.initial.ranks l.from l.to l.end l.ranks l.i l.k × Closing l.initial.coefficients l.from l.to l.end l.coefficients l.i l.k
