-- `read_number` meets its contract: the loop keeps `Reads`, and each way out of it is a step of `read_groups`.
use Rattle.numbers.proofs.ReadNumber.{Reads}
use Rattle.numbers.proofs.read_number.Given as goal

abbrev pub invariant-loop-place : goal.invariant-loop-place
invariant-loop-place l = Reads l.bytes l.at l.place l.more l.low l.unit
