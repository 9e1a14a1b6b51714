-- `run_substitute` meets its contract: what is told of the result stands within it.
use Rattle.replay.proofs.Shows.{shows-as}
use Rattle.replay.proofs.Shown.{substitute-shows}
use Rattle.replay.proofs.changes.run_substitute.Goals as goal

pub tell_worked-requires-clause-shows : goal.tell_worked-requires-clause-shows
tell_worked-requires-clause-shows c = shows-as c.answered-told.ensures (substitute-shows _ _ _ _ _ c.substitute.ensures)
