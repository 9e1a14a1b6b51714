-- `read_short` meets its contract: a byte below 128 is a whole number, and so are two of which only the first says that another follows.
use mathlib.Core.Path.{sym}
use Rattle.numbers.proofs.Numbers.{number-byte, number-pair}
use Rattle.packed.proofs.reader.read_short.Goals as goal

pub returns-then-low-lt128 : goal.returns-then-low-lt128
returns-then-low-lt128 c = sym (number-byte _ _ c.if-at-bytes.true c.if-low-lt128.true)

pub returns-then-high-lt128 : goal.returns-then-high-lt128
returns-then-high-lt128 c = sym (number-pair _ _ c.if-at-bytes-2.true c.if-low-lt128.false c.if-high-gt0.true c.if-high-lt128.true)
