-- `times_power` meets its contract: what holds before the loop holds after some factors, times their power.
use Rattle.estimates.specs.Inside.Parts.{TimesPower}
use Rattle.estimates.proofs.factors.Both.times_power.Given as goal

abbrev pub invariant-loop : goal.invariant-loop
invariant-loop l = TimesPower l.fn.self l.factor.most l.factor.value l.counter l.product
