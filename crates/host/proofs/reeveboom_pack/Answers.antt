-- `reeveboom_pack` meets its contract: the result's length and every place fit below the unit.
use Rattle.host.proofs.Hearing.{answer-fits}
use Rattle.host.proofs.Fitting.{pack-within}
use Rattle.host.proofs.reeveboom_pack.Goals as goal

pub for_host-requires-clause-fits : goal.for_host-requires-clause-fits
for_host-requires-clause-fits c = (answer-fits c.pack.ensures (pack-within _ _ _ _)).1
