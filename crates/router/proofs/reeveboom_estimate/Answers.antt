-- `reeveboom_estimate` meets its contract: every place fits below the unit.
use mathlib.Core.Path.{ap}
use Rattle.router.proofs.ForHost.{estimate-fits}
use Rattle.router.proofs.reeveboom_estimate.Goals as goal

pub for_host-requires-clause-fits : goal.for_host-requires-clause-fits
for_host-requires-clause-fits c = rw (ap (λ o. o.answer) c.estimate.ensures) (estimate-fits _ (λ i. (c.type_inv.sum i).fits) _ _ _)
