-- `reeveboom_unpack` meets its contract: the number of terms and every place fit below the unit.
use Rattle.host.proofs.Hearing.{answer-fits}
use Rattle.host.proofs.Fitting.{unpack-within}
use Rattle.host.proofs.reeveboom_unpack.Goals as goal

pub for_host-requires-clause-fits : goal.for_host-requires-clause-fits
for_host-requires-clause-fits c = (answer-fits c.unpack.ensures (unpack-within _ (λ i. (c.type_inv.sum i).fits) _ _)).1
