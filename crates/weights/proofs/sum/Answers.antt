-- `sum` meets its contract: what stops at the largest word is above 2^62, and so is what it stands for.
use mathlib.Core.Path.{◌∙◌}
use native.Mathlib.Omega.{arith}
use Rattle.weights.proofs.Weighing.{capped-stopped}
use Rattle.weights.proofs.sum.Goals as goal

pub returns : goal.returns
returns c = c.cap.ensures ∙ capped-stopped _ (omega arith) c.saturating_add.ensures
