-- `take_terms` meets its contract: the loop keeps `Takes`.
use Rattle.packed.proofs.TakeTerms.{Takes}
use Rattle.packed.proofs.items.take_terms.Given as goal

abbrev pub invariant-loop-k : goal.invariant-loop-k
invariant-loop-k l = Takes l.bytes l.at l.powers l.count l.initial.patterns l.initial.coefficients l.patterns l.coefficients l.place l.weight l.last l.k
