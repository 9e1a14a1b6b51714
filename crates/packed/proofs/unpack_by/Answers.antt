-- `unpack_by` meets its contract: the areas are written after the last test.
use Rattle.std.proofs.lemmas.Result.{err_from_is_err_and}
use Rattle.packed.proofs.Unpacking.{areas-stay, areas-hold}
use Rattle.packed.proofs.unpack_by.Goals as goal

pub returns-in_err-n : goal.returns-in_err-n
returns-in_err-n g c =
    let p = err_from_is_err_and c.from_residual.result c.from_residual.ensures.1 in
    rw (p.1, p.2) (areas-stay _ _ _ _ _ _ _ c.in_err-n.ensures)

pub returns : goal.returns
returns g c = areas-hold _ _ _ _ _ _ _ c.in_ok-n.ensures c.copy_words.ensures c.copy_coefficients.ensures
