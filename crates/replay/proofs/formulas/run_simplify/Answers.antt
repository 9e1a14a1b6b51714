-- `run_simplify` meets its contract: what is told of the result stands within it.
use Rattle.replay.proofs.Shows.{shows-as}
use Rattle.replay.proofs.Shown.{simplify-shows}
use Rattle.replay.proofs.formulas.run_simplify.Goals as goal

pub tell_worked-requires-clause-shows : goal.tell_worked-requires-clause-shows
tell_worked-requires-clause-shows c = shows-as c.answered-told.ensures (simplify-shows _ _ _ _ c.simplify.ensures)
