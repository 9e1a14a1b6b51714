-- `run_text` meets its contract: what is told of the table stands within it.
use Rattle.replay.proofs.Shows.{shows-as}
use Rattle.replay.proofs.Shown.{text-shows}
use Rattle.replay.proofs.formulas.run_text.Goals as goal

pub tell_result-requires-clause-shows : goal.tell_result-requires-clause-shows
tell_result-requires-clause-shows c = shows-as c.answered-told.ensures (text-shows _ _ c.read_formula.ensures)
