-- A number falls with every call of the cycle: the text and the bracket levels that are left count most, then the rank of the reader. The loops keep what was
-- read so far, with its nodes.
use Prim.Native.Nat.{◌+◌, ◌-◌, ◌*◌}
use lib.ListN.{length}
use Rattle.text.proofs.Loops.{TermLoop, SumLoop}
use Rattle.text.proofs.readers.+grammar.Given as goal

abbrev pub decreases-read_atom : goal.decreases-read_atom
decreases-read_atom l = 4 * (l.levels + (length l.text.now - l.at))

abbrev pub decreases-read_factor : goal.decreases-read_factor
decreases-read_factor l = 4 * (l.levels + (length l.text.now - l.at)) + 1

abbrev pub decreases-read_term : goal.decreases-read_term
decreases-read_term l = 4 * (l.levels + (length l.text.now - l.at)) + 2

abbrev pub decreases-read_sum : goal.decreases-read_sum
decreases-read_sum l = 4 * (l.levels + (length l.text.now - l.at)) + 3

abbrev pub invariant-read_term-loop-table : goal.invariant-read_term-loop-table
invariant-read_term-loop-table l = TermLoop l.levels l.text l.at l.fn.table.nodes l.fn.table.rows l.next l.table.nodes l.table.rows

abbrev pub decreases-read_term-loop-table : goal.decreases-read_term-loop-table
decreases-read_term-loop-table l = length l.text - l.next

abbrev pub invariant-read_sum-loop-at : goal.invariant-read_sum-loop-at
invariant-read_sum-loop-at l = SumLoop l.levels l.text l.at l.fn.table.nodes l.fn.table.rows l.next l.table.nodes l.table.rows

abbrev pub decreases-read_sum-loop-at : goal.decreases-read_sum-loop-at
decreases-read_sum-loop-at l = length l.text - l.next
