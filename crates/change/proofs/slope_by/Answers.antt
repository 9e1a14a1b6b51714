-- `slope_by` meets its contract: the terms were taken, and the checks go on with them.
use Rattle.std.proofs.lemmas.Result.{err_from_is_err_and}
use Rattle.packed.proofs.Results.{rest-refused, rest-taken}
use Rattle.sums.proofs.First.{first-held}
use Rattle.change.proofs.Given.{SumGiven, given, slope-handed, slope-given}
use Rattle.change.proofs.slope_by.Given.{Over}
use Rattle.change.proofs.slope_by.Goals as goal
use Rattle.change.proofs.slope_by.Goals.{In_ok-take_whole}

-- the sum that was given
held : (g : Over) (d : In_ok-take_whole g) → SumGiven d.args.bytes.now d.take_whole.new.patterns d.take_whole.new.coefficients d.args.n
held g d = given _ _ (rest-taken _ d.requires.counted _ _ (λ i. (d.type_inv.bytes i).fits) d.in_ok-take_whole.ensures)

pub returns-in_err-take_whole : goal.returns-in_err-take_whole
returns-in_err-take_whole g c =
    let p = err_from_is_err_and c.from_residual.result c.from_residual.ensures.1 in
    rw (p.1, p.2) (slope-handed _ _ _ c.requires.room (rest-refused _ c.requires.counted _ _ c.in_err-take_whole.ensures))

pub write_slope-requires-clause-held_sum : goal.write_slope-requires-clause-held_sum
write_slope-requires-clause-held_sum g c = first-held (held g (goal.at.write_slope-requires-clause-held_sum g c).In_ok-take_whole).first

pub returns : goal.returns
returns g c = slope-given _ _ _ c.requires.room (held g (goal.at.returns g c).In_ok-take_whole) c.write_slope.ensures
