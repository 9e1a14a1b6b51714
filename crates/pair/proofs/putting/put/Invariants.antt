-- `put` meets its contract: the loop keeps `Putting`, of the words of the running sum.
use Rattle.sums.specs.Rows.{running_words}
use Rattle.pair.proofs.Replacing.{Putting, Lent}
use Rattle.pair.proofs.putting.put.Given as goal

abbrev pub invariant-loop-k : goal.invariant-loop-k
invariant-loop-k l = Putting l.v l.largest l.put.patterns.now l.put.coefficients.now l.into.patterns.now l.into.coefficients.now (running_words l.gr) l.gc l.wp l.wc l.n l.all l.k × Lent l.gr l.pp l.pc
