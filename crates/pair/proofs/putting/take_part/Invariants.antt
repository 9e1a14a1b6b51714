-- `take_part` meets its contract: the loop keeps `Taking`.
use lib.ListN.{length}
use Rattle.pair.proofs.TakingPart.{Taking}
use Rattle.pair.proofs.putting.take_part.Given as goal

abbrev pub invariant-loop-word : goal.invariant-loop-word
invariant-loop-word l = Taking l.v l.k l.s.patterns.now l.s.coefficients.now l.initial.patterns l.initial.coefficients l.patterns l.coefficients l.count (length l.yielded)
