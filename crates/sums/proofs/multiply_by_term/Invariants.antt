-- `multiply_by_term` meets its contract: the loop keeps `ByTerm`.
use Rattle.sums.proofs.ByTerm.{ByTerm}
use Rattle.sums.proofs.multiply_by_term.Given as goal

abbrev pub invariant-loop-k : goal.invariant-loop-k
invariant-loop-k l = ByTerm l.word l.c l.t.patterns.now l.t.coefficients.now l.initial.patterns l.initial.coefficients l.patterns l.coefficients l.count l.k
