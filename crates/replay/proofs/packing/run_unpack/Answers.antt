-- `run_unpack` meets its contract: what is told of both areas stands within them.
use Rattle.replay.proofs.Shows.{shows-as}
use Rattle.replay.proofs.Shown.{unpack-shows}
use Rattle.replay.proofs.packing.run_unpack.Goals as goal

pub tell_terms-requires-clause-patterns_show : goal.tell_terms-requires-clause-patterns_show
tell_terms-requires-clause-patterns_show c = let both = unpack-shows _ _ _ c.unpack.ensures in shows-as c.answered-told.ensures both.0

pub tell_terms-requires-clause-coefficients_show : goal.tell_terms-requires-clause-coefficients_show
tell_terms-requires-clause-coefficients_show c = let both = unpack-shows _ _ _ c.unpack.ensures in shows-as c.answered-told.ensures both.1
