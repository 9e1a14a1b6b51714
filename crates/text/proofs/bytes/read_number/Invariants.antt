-- `read_number` meets its contract: the loop keeps `Reading`.
use Prim.Native.Nat.{◌-◌}
use lib.ListN.{length}
use Rattle.text.proofs.ReadNumber.{Reading}
use Rattle.text.proofs.bytes.read_number.Given as goal

abbrev pub invariant-loop-value : goal.invariant-loop-value
invariant-loop-value l = Reading l.top l.text l.at l.value l.next

abbrev pub decreases-loop-value : goal.decreases-loop-value
decreases-loop-value l = length l.text - l.next
