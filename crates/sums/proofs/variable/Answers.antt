-- `variable` meets its contract.
use Rattle.sums.proofs.Single.{variable-formed}
use Rattle.sums.proofs.variable.Goals as goal

pub returns : goal.returns
returns c = variable-formed _ _ c.requires.room.words c.requires.room.coefficients _ _ c.power-pattern.ensures
