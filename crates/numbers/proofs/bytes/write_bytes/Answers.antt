-- `write_bytes` meets its contract: a part of the area that is written is a run of single bytes.
use native.Mathlib.Omega.{arith}
use Rattle.numbers.proofs.Writing.{part-sets}
use Rattle.numbers.proofs.bytes.write_bytes.Goals as goal

pub returns-clause-area_after : goal.returns-clause-area_after
returns-clause-area_after c = part-sets _ _ _ _ _ c.copy_from_slice.ensures.after (omega arith) c.requires
