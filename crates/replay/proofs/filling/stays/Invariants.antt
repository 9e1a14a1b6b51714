-- `stays` meets its contract: the places that were passed hold what they should.
use Rattle.replay.specs.Filling.{Holds}
use Rattle.replay.proofs.filling.stays.Given as goal

abbrev pub invariant-loop-i : goal.invariant-loop-i
invariant-loop-i g l = Holds g.T.Place.ZERO g.T.Place.filled l.from l.i l.area
