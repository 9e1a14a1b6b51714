-- `estimate_by` meets its contract: the terms were taken, and the checks go on with them.
use Rattle.std.proofs.lemmas.Result.{err_from_is_err_and}
use Rattle.packed.proofs.Results.{rest-refused, rest-taken}
use Rattle.router.proofs.Handing.{estimate-handed, estimate-taken}
use Rattle.router.proofs.estimate_by.Goals as goal

pub returns-in_err-take_whole : goal.returns-in_err-take_whole
returns-in_err-take_whole g c =
    let p = err_from_is_err_and c.from_residual.result c.from_residual.ensures.1 in
    rw (p.1, p.2) (estimate-handed _ _ _ _ c.requires.answer_bytes_in_bounds (rest-refused _ c.requires.counted _ _ c.in_err-take_whole.ensures))

pub returns : goal.returns
returns g c = estimate-taken _ _ _ _ c.requires.answer_bytes_in_bounds _ _ (rest-taken _ c.requires.counted _ _ (λ i. (c.type_inv.sum i).fits) c.in_ok-take_whole.ensures)
    (rw (c.first-held.ensures.patterns, c.first-held.ensures.coefficients) at c.estimate_terms.ensures)
