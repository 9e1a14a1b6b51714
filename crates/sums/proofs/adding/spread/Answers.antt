use mathlib.Core.Path.{sym, ◌∙◌, ap}
use Rattle.algebra.specs.Inside.Standing.{standing}
use Rattle.sums.proofs.Holding.{each-valid}
use Rattle.sums.proofs.Counts.{steps_first, steps-both, steps-second, finally}
use Rattle.sums.proofs.adding.spread.Goals as goal

pub stands-requires-clause-each_valid : goal.stands-requires-clause-each_valid
stands-requires-clause-each_valid c = each-valid c.loop-x.invariant.first

pub stands-requires-clause-each_valid_2 : goal.stands-requires-clause-each_valid_2
stands-requires-clause-each_valid_2 c = each-valid c.loop-x.invariant.second

pub loop-x-preserved-in-Less : goal.loop-x-preserved-in-Less
loop-x-preserved-in-Less c = steps_first c.loop-x.invariant c.loop-x-test.true (sym c.stands.ensures ∙ ap standing c.in-Less.is)

pub loop-x-preserved-in-Equal : goal.loop-x-preserved-in-Equal
loop-x-preserved-in-Equal c = steps-both c.loop-x.invariant c.loop-x-test.true (sym c.stands.ensures ∙ ap standing c.in-Equal.is)

pub loop-x-preserved : goal.loop-x-preserved
loop-x-preserved c = steps-second c.loop-x.invariant c.loop-x-test.true (sym c.stands.ensures ∙ ap standing c.in-Greater.is)

pub returns : goal.returns
returns c = finally c.loop-x.invariant c.loop-x-test.false
