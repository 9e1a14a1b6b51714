use mathlib.Core.Path.{refl}
use lib.IntN.{pos}
use mir.Syntax.{w64}
use mir.ValLaws.{to_z-of_z}
use Rattle.sums.proofs.Closing.{again, no_gap}
use Rattle.sums.proofs.rows.close.Goals as goal

pub returns-then-from-to-clause-coefficients_after : goal.returns-then-from-to-clause-coefficients_after
returns-then-from-to-clause-coefficients_after c = no_gap _ c.if-from-to.true c.requires.to_le_end

pub loop-k-preserved : goal.loop-k-preserved
loop-k-preserved c = (again c.loop-k.invariant.0 c.loop-k-test.true 0 refl, again c.loop-k.invariant.1 c.loop-k-test.true (pos 0) (to_z-of_z w64 _ (record { sfits = c.c-1.given })))
