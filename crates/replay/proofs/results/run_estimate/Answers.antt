-- `run_estimate` meets its contract: what is told of the result stands within it.
use Rattle.replay.proofs.Shows.{shows-as}
use Rattle.replay.proofs.Shown.{estimate-shows}
use Rattle.replay.proofs.results.run_estimate.Goals as goal

pub tell_result-requires-clause-shows : goal.tell_result-requires-clause-shows
tell_result-requires-clause-shows c = shows-as c.heard-told.ensures (estimate-shows _ (λ i. (c.type_inv.packed i).fits) _ _ _ c.reeveboom_estimate.ensures)
