-- `write_number` meets its contract: the loop keeps `Writes`, and what is left at its end is one byte.
use Rattle.numbers.proofs.WriteNumber.{Writes}
use Rattle.numbers.proofs.write_number.Given as goal

abbrev pub invariant-loop-left : goal.invariant-loop-left
invariant-loop-left l = Writes l.initial.area l.at l.n l.area l.place l.left

abbrev pub decreases-loop-left : goal.decreases-loop-left
decreases-loop-left l = l.left
