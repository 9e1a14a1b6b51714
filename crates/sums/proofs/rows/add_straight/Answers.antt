-- `add_straight` meets its contract: all pairs are the same, whichever of the two sums comes first.
use Rattle.sums.proofs.AddingPairs.{other-added}
use Rattle.sums.proofs.rows.add_straight.Goals as goal

pub returns : goal.returns
returns c = other-added c.requires c.add_pairs-2.ensures
