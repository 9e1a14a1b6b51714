use mathlib.Core.Path.{◌∙◌}
use Prim.Native.Nat.{◌+◌}
use native.Mathlib.Omega.{arith}
use borrow.Author.Rules.{rules}
use Rattle.algebra.specs.Margin.{unsigned}
use Rattle.algebra.proofs.Sums.Margins.{raised-length}
use Rattle.answers.proofs.Writes.{written_all}
use Rattle.answers.proofs.Copies.{start, again, ended}
use Rattle.estimates.proofs.Raising.{Raised, raised}
use Rattle.estimates.proofs.readings.raise.Goals as goal
use Rattle.estimates.proofs.readings.raise.Goals.{After-unsigned_abs-in-loop-v}

one : (c : After-unsigned_abs-in-loop-v)
    → Raised c.args.readings.now c.args.tolerances.now c.loop-v.v (c.unsigned_abs.result + c.unsigned_abs-in-loop-v.result)
one c = raised _ _ _ (omega arith) (omega arith) c.requires.tolerances_value (search rules) (search rules) c.unsigned_abs.ensures.value c.unsigned_abs-in-loop-v.ensures.value

pub loop-v-init : goal.loop-v-init
loop-v-init c = start _ _ _ (omega arith) (omega (arith, raised-length c.args.readings.now (unsigned c.args.tolerances.now), c.requires.readings_len))

pub overflow_add-raised : goal.overflow_add-raised
overflow_add-raised c = (one c).fits

pub loop-v-preserved : goal.loop-v-preserved
loop-v-preserved c = rw (one c).is (again 0 _ _ _ _ _ c.loop-v.invariant (omega arith))

pub returns : goal.returns
returns c = ended _ _ _ _ _ c.loop-v.invariant (omega arith) ∙ written_all _ c.args.raised.now (raised-length _ _ ∙ c.requires.readings_len)
