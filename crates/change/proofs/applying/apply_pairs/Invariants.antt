-- `apply_pairs` meets its contract: the loop keeps `Applying`.
use Rattle.change.proofs.ApplyPairs.{Applying}
use Rattle.change.proofs.applying.apply_pairs.Given as goal

abbrev pub invariant-loop-j : goal.invariant-loop-j
invariant-loop-j l = Applying l.pairs l.patterns l.coefficients l.initial.fp l.initial.fc l.n l.fp l.fc l.next_patterns l.next_coefficients l.terms l.j
