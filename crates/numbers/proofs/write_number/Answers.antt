use Rattle.numbers.proofs.WriteNumber.{start, inside, again, ended}
use Rattle.numbers.proofs.write_number.Goals as goal

pub loop-left-init : goal.loop-left-init
loop-left-init c = start _ _ _ c.requires c.ranges.n.fits

pub bounds-area-place : goal.bounds-area-place
bounds-area-place c = inside c.loop-left.invariant

pub loop-left-preserved : goal.loop-left-preserved
loop-left-preserved c = again c.loop-left.invariant c.loop-left-test.true

pub bounds-area-place-2 : goal.bounds-area-place-2
bounds-area-place-2 c = inside c.loop-left.invariant

pub returns : goal.returns
returns c = ended c.loop-left.invariant c.loop-left-test.false
