-- `reeveboom_write` meets its contract: the text's length and every place fit below the unit.
use Rattle.host.proofs.Hearing.{answer-fits}
use Rattle.host.proofs.Fitting.{write-within}
use Rattle.host.proofs.reeveboom_write.Goals as goal

pub for_host-requires-clause-fits : goal.for_host-requires-clause-fits
for_host-requires-clause-fits c = (answer-fits c.write_text.ensures (write-within _ (λ i. (c.type_inv.sum i).fits) _)).1
