-- `reeveboom_slope` meets its contract: the result's length and every place fit below the unit.
use Rattle.host.proofs.Hearing.{answer-fits}
use Rattle.host.proofs.Fitting.{slope-within}
use Rattle.host.proofs.reeveboom_slope.Goals as goal

pub for_host-requires-clause-fits : goal.for_host-requires-clause-fits
for_host-requires-clause-fits c = (answer-fits c.slope.ensures (slope-within _ (λ i. (c.type_inv.sum i).fits) _ _)).1
