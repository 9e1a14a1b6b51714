-- `read_numbers` meets its contract: the loop keeps `Copying`, and each number is that of its two bytes.
use lib.ListN.{length}
use Rattle.answers.proofs.Copies.{Copying}
use Rattle.estimates.specs.Readings.{two_byte_numbers}
use Rattle.estimates.proofs.readings.read_numbers.Given as goal

abbrev pub invariant-loop-v : goal.invariant-loop-v
invariant-loop-v l = Copying l.initial.numbers (two_byte_numbers l.bytes) (length l.initial.numbers) l.numbers l.v
