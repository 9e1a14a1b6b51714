-- `take` meets its contract: good terms were taken, or what is read item by item forgets them.
use mathlib.Core.Path.{◌∙◌}
use Rattle.packed.proofs.Taking.{taken-again}
use Rattle.packed.proofs.fast.take.Goals as goal

pub returns-in-None : goal.returns-in-None
returns-in-None c = c.take_each.ensures ∙ taken-again c.take_good.ensures
