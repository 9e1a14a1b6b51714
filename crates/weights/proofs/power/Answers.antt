use Rattle.weights.proofs.Weighing.{low-raised, start}
use Rattle.weights.proofs.power.Goals as goal

pub returns-then-w-le1 : goal.returns-then-w-le1
returns-then-w-le1 c = low-raised _ _ c.if-e-eq0.false c.if-w-le1.true

pub loop-init : goal.loop-init
loop-init c = start _ _ _ c.if-e-eq0.false c.cap-power.ensures
