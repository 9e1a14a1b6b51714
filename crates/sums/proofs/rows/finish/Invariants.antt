-- `finish` meets its contract: the loop keeps `Finishing`, of the words.
use Rattle.algebra.specs.Inside.Rank.{words_at}
use Rattle.sums.proofs.Finishing.{Finishing}
use Rattle.sums.proofs.rows.finish.Given as goal

abbrev pub invariant-loop-k : goal.invariant-loop-k
invariant-loop-k l = Finishing (words_at l.running.patterns.now) l.running.coefficients.now l.initial.patterns l.initial.coefficients l.patterns l.coefficients l.count l.k
