-- `raise` meets its contract: the loop keeps the power so far.
use Rattle.sums.proofs.OneTerm.{Raises}
use Rattle.sums.proofs.monomial.raise.Given as goal

abbrev pub invariant-loop : goal.invariant-loop
invariant-loop l = Raises l.s.patterns.now l.s.coefficients.now l.e l.power l.counter
