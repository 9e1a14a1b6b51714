-- `reeveboom_substitute` meets its contract: the result's length and every place fit below the unit, those in the list too.
use Rattle.host.proofs.Hearing.{answer-fits}
use Rattle.host.proofs.Fitting.{substitute-within}
use Rattle.host.proofs.reeveboom_substitute.Goals as goal

pub for_host-requires-clause-fits : goal.for_host-requires-clause-fits
for_host-requires-clause-fits c = (answer-fits c.substitute.ensures (substitute-within _ _ _ _ _ (λ i. (c.type_inv.sum i).fits) (λ i. (c.type_inv.list i).fits))).1
