-- `good_terms` meets its contract: the loop keeps `Judging`, and each test that fails finds a term that is not good.
use Rattle.packed.proofs.GoodTerms.{Judging}
use Rattle.packed.proofs.fast.good_terms.Given as goal

abbrev pub invariant-loop-k : goal.invariant-loop-k
invariant-loop-k l = Judging l.terms.patterns.now l.terms.coefficients.now l.weight l.degree l.last l.k
