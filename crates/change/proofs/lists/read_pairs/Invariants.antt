-- `read_pairs` meets its contract: the loop keeps `Taking`, and both work areas lend the part of the pair that is read.
use Rattle.change.proofs.TakePairs.{Taking}
use Rattle.change.proofs.lists.read_pairs.Given as goal

abbrev pub invariant-loop-j : goal.invariant-loop-j
invariant-loop-j l = Taking l.list l.at l.count l.initial.entries l.initial.patterns l.initial.coefficients l.place l.j l.entries l.patterns l.coefficients
