-- `read_count` meets its contract: the number is judged.
use mathlib.Core.Path.{sym}
use Rattle.std.proofs.lemmas.Result.{err_from_is_err_and}
use Rattle.numbers.proofs.Items.{number-fault}
use Rattle.packed.proofs.TakeSum.{count-stops, count-over, count-taken}
use Rattle.packed.proofs.read_count.Goals as goal

pub returns-in_err-count-clause-value : goal.returns-in_err-count-clause-value
returns-in_err-count-clause-value c =
    let p = err_from_is_err_and c.from_residual.result c.from_residual.ensures.1 in
    rw (p.1, p.2) (count-stops _ _ (number-fault _ _ c.in_err-count.ensures.item))

pub returns-then-count-clause-value : goal.returns-then-count-clause-value
returns-then-count-clause-value c = count-over _ _ (sym c.in_ok-count.ensures.item) c.if-count.true

pub returns-clause-value : goal.returns-clause-value
returns-clause-value c = count-taken _ _ (sym c.in_ok-count.ensures.item) c.if-count.false
