use native.Mathlib.Omega.{arith}
use Rattle.estimates.proofs.TermParts.{by_table}
use Rattle.estimates.proofs.valuing.tabled_sum.Goals as goal

pub fill-requires : goal.fill-requires
fill-requires g c = (omega (arith, c.requires.places), (omega (arith, c.requires.places), c.requires.under))

pub sum_of-requires-clause-callable : goal.sum_of-requires-clause-callable
sum_of-requires-clause-callable g c = λ a k v e h inside low. (omega (arith, c.requires.places), (omega (arith, c.requires.places), (inside, omega (arith, low, c.requires.uses k h v, c.requires.under v inside))))

pub returns : goal.returns
returns g c = c.sum_of.ensures _ _ (by_table _ c.fill.new.table c.args.readings.covers c.fill.ensures c.requires.uses (λ a r v e p. p.1))
