-- `run_write` meets its contract: what is told of the result stands within it.
use Rattle.replay.proofs.Shows.{shows-as}
use Rattle.replay.proofs.Shown.{write-shows}
use Rattle.replay.proofs.results.run_write.Goals as goal

pub tell_result-requires-clause-shows : goal.tell_result-requires-clause-shows
tell_result-requires-clause-shows c = shows-as c.answered-told.ensures (write-shows _ _ c.write_text.ensures)
