-- The closure meets its contract: the factor is the reading, raised and as it is.
use Rattle.estimates.proofs.valuing.fn.sum_parts.sum_of.Goals as goal

pub returns : goal.returns
returns c = rw (c.at.ensures.most, c.at.ensures.value) at c.times_power.ensures
