-- `repeated` meets its contract: the loop keeps `Raising`, and the arrays that it lends keep their lengths.
use Rattle.sums.proofs.Raising.{Lent, Raising}
use Rattle.sums.proofs.repeated.Given as goal

abbrev pub invariant-loop : goal.invariant-loop
invariant-loop l = Lent l.gr l.gc l.sr l.tr × Raising l.s.patterns.now l.s.coefficients.now l.e l.own_patterns l.own_coefficients l.next_patterns l.next_coefficients l.n l.counter
