-- `words` meets its contract: the loop keeps `Wording`.
use Rattle.sums.proofs.Wording.{Wording}
use Rattle.sums.proofs.binomial.words.Given as goal

abbrev pub invariant-loop-k : goal.invariant-loop-k
invariant-loop-k l = Wording l.p l.q l.e l.initial.patterns l.patterns l.word l.k
