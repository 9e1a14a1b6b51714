-- `run_pack` meets its contract: what is told of the result stands within it.
use Rattle.replay.proofs.Shows.{shows-as}
use Rattle.replay.proofs.Shown.{pack-shows}
use Rattle.replay.proofs.packing.run_pack.Goals as goal

pub tell_result-requires-clause-shows : goal.tell_result-requires-clause-shows
tell_result-requires-clause-shows c = shows-as c.answered-told.ensures (pack-shows _ _ _ _ c.pack.ensures)
