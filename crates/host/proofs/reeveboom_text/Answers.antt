-- `reeveboom_text` meets its contract: the number of nodes and every place fit below the unit.
use Rattle.host.proofs.Hearing.{answer-fits}
use Rattle.host.proofs.Fitting.{text-within}
use Rattle.host.proofs.reeveboom_text.Goals as goal

pub for_host-requires-clause-fits : goal.for_host-requires-clause-fits
for_host-requires-clause-fits c = (answer-fits c.read_formula.ensures (text-within _ _)).1
