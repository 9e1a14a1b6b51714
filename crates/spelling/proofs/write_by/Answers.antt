-- `write_by` meets its contract: the fault that was met, or the text of the sum in the first places of its arrays.
use Rattle.std.proofs.lemmas.Result.{err_from_is_err_and}
use Rattle.packed.proofs.Results.{rest-refused, rest-taken}
use Rattle.spelling.proofs.Told.{text-handed, taken, text-done}
use Rattle.spelling.proofs.write_by.Goals as goal

pub returns-in_err-take_whole : goal.returns-in_err-take_whole
returns-in_err-take_whole g c =
    let p = err_from_is_err_and c.from_residual.result c.from_residual.ensures.1 in
    rw (p.1, p.2) (text-handed _ _ c.requires.room (rest-refused _ c.requires.counted _ _ c.in_err-take_whole.ensures))

pub write_sum-requires-clause-each_valid : goal.write_sum-requires-clause-each_valid
write_sum-requires-clause-each_valid g c =
    let whole = rest-taken _ c.requires.counted _ _ (λ i. (c.type_inv.bytes i).fits) c.in_ok-take_whole.ensures in
    (taken c.args.bytes.now c.args.area.now c.requires.room _ _ whole c.first-sum.ensures.patterns c.first-sum.ensures.coefficients).valid

pub write_sum-requires-clause-sum_in_bounds : goal.write_sum-requires-clause-sum_in_bounds
write_sum-requires-clause-sum_in_bounds g c =
    let whole = rest-taken _ c.requires.counted _ _ (λ i. (c.type_inv.bytes i).fits) c.in_ok-take_whole.ensures in
    (taken c.args.bytes.now c.args.area.now c.requires.room _ _ whole c.first-sum.ensures.patterns c.first-sum.ensures.coefficients).fits

pub returns : goal.returns
returns g c =
    let whole = rest-taken _ c.requires.counted _ _ (λ i. (c.type_inv.bytes i).fits) c.in_ok-take_whole.ensures in
    let t = taken c.args.bytes.now c.args.area.now c.requires.room _ _ whole c.first-sum.ensures.patterns c.first-sum.ensures.coefficients in
    text-done t c.write_sum.ensures.value c.write_sum.ensures.area_after
