-- `measure` meets its contract: the loop keeps `Measuring`.
use lib.ListN.{length}
use Rattle.algebra.specs.Word.{terms}
use Rattle.pair.proofs.Measuring.{Measuring}
use Rattle.pair.proofs.measure.Given as goal

abbrev pub invariant-loop-word : goal.invariant-loop-word
invariant-loop-word l = Measuring l.v (terms l.put.patterns.now l.put.coefficients.now) l.size.degree l.size.weight l.into.patterns.now l.into.coefficients.now l.degree l.weight l.power (length l.yielded)
