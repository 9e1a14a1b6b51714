-- `simplify` meets its contract: ROOM, then the table, and both work areas are cleared.
use mathlib.Core.Path.{sym, ◌∙◌}
use native.Mathlib.Omega.{arith}
use Rattle.packed.proofs.Working.{without-room, all-cleared}
use Rattle.formula.proofs.Simplifying.{simplify-worked}
use Rattle.formula.proofs.simplify.Goals as goal

pub returns-then-patterns-lt-WORK_PLACES : goal.returns-then-patterns-lt-WORK_PLACES
returns-then-patterns-lt-WORK_PLACES c =
    let short = c.then-patterns-lt-WORK_PLACES.either in
    rw c.at.ensures (sym (simplify-worked _ _ _ _ ∙ without-room _ _ _ _ (λ r. omega (arith, r.patterns_room, r.coefficients_room, r.result_room, short))))

pub returns : goal.returns
returns c = all-cleared _ _ _ _ c.form_table-answer.new.patterns c.form_table-answer.new.coefficients _ (record { patterns_room = c.if-patterns-lt-WORK_PLACES.false; coefficients_room = c.if-coefficients-lt-WORK_PLACES.false; result_room = c.if-res-lt-MOST_BYTES.false })
    c.form_table-answer.ensures.res_after c.form_table-answer.ensures.patterns_unchanged c.form_table-answer.ensures.coefficients_unchanged c.clear_words.ensures c.clear_coefficients.ensures
    ∙ sym (simplify-worked _ _ _ _)
