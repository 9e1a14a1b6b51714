-- `write_sum` meets its contract: the loop keeps `WritingTerms`, and at its end no term is left.
use lib.ListN.{length}
use Rattle.packed.proofs.WriteSum.{WritingTerms}
use Rattle.packed.proofs.writer.write_sum.Given as goal

abbrev pub invariant-loop-pattern : goal.invariant-loop-pattern
invariant-loop-pattern l = WritingTerms l.initial.area l.initial.place l.sum.patterns.now l.sum.coefficients.now l.area l.place (length l.yielded)
