-- `slope` meets its contract: ROOM, the count, and then the terms, few of them in small arrays.
use mathlib.Core.Path.{sym, ◌∙◌, ap}
use Rattle.std.proofs.lemmas.Result.{err_from_is_err_and}
use Rattle.answers.proofs.Refusing.{was-err}
use Rattle.numbers.specs.Inside.Read.{item_of}
use Rattle.packed.proofs.Results.{count-refused}
use Rattle.change.specs.Promised.{SlopeRefuses.no_room}
use Rattle.change.proofs.Sloped.{refuses-slope}
use Rattle.change.proofs.Given.{slope-handed}
use Rattle.change.proofs.slope.Goals as goal

pub returns-then-res-lt-MOST_BYTES : goal.returns-then-res-lt-MOST_BYTES
returns-then-res-lt-MOST_BYTES c = rw c.at.ensures (sym (refuses-slope _ _ _ (no_room c.if-res-lt-MOST_BYTES.true)))

pub returns-in_err-number : goal.returns-in_err-number
returns-in_err-number c =
    let p = err_from_is_err_and c.from_residual.result c.from_residual.ensures.1 in
    let was = was-err _ c.read_count.result c.map_err.result c.map_err.ensures.cases c.in_err-number.was in
    rw (p.1, p.2) (slope-handed _ _ _ c.if-res-lt-MOST_BYTES.false (count-refused _ was.0 (sym (ap item_of was.1) ∙ c.read_count.ensures.value) was.2))
