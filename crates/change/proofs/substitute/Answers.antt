-- `substitute` meets its contract: ROOM, then the list, and both work areas are cleared.
use mathlib.Core.Path.{sym, ◌∙◌}
use mathlib.Core.Logic.{inl, inr}
use lib.Seq.{length-take-le}
use Rattle.algebra.specs.Limits.{work_places}
use Rattle.answers.proofs.Writes.{part-cleared}
use native.Mathlib.Omega.{arith}
use Rattle.packed.proofs.Working.{without-room, all-cleared}
use Rattle.change.proofs.Substituting.{substitute-worked}
use Rattle.change.proofs.substitute.Goals as goal

pub returns-then-patterns-lt-WORK_PLACES : goal.returns-then-patterns-lt-WORK_PLACES
returns-then-patterns-lt-WORK_PLACES c =
    rw c.at.ensures
    (sym (substitute-worked _ _ _ _ _ ∙ without-room _ _ _ _ (λ r. elim c.then-patterns-lt-WORK_PLACES.either [
      | inl short ↦ omega (arith, r.patterns_room)
      | inr others ↦ elim others [
        | inl short ↦ omega (arith, r.coefficients_room)
        | inr short ↦ omega (arith, r.result_room)
      ]
    ])))

pub slice_bounds-fill-end-2 : goal.slice_bounds-fill-end-2
slice_bounds-fill-end-2 c = sym (length-take-le work_places _ (omega (arith, c.if-patterns-lt-WORK_PLACES.false, c.substitute_list-answer.auto.patterns)))

pub slice_bounds-fill-end-4 : goal.slice_bounds-fill-end-4
slice_bounds-fill-end-4 c = sym (length-take-le work_places _ (omega (arith, c.if-coefficients-lt-WORK_PLACES.false, c.substitute_list-answer.auto.coefficients)))

pub returns : goal.returns
returns c =
    all-cleared _ _ _ _ c.substitute_list-answer.new.patterns c.substitute_list-answer.new.coefficients _ (record { patterns_room = c.if-patterns-lt-WORK_PLACES.false; coefficients_room = c.if-coefficients-lt-WORK_PLACES.false; result_room = c.if-res-lt-MOST_BYTES.false })
    c.substitute_list-answer.ensures.res_after c.substitute_list-answer.ensures.patterns_stay c.substitute_list-answer.ensures.coefficients_stay
    (part-cleared _ _ work_places (omega (arith, c.if-patterns-lt-WORK_PLACES.false, c.substitute_list-answer.auto.patterns)) (c.fill.ensures.after (λ y e. e)))
    (part-cleared _ _ work_places (omega (arith, c.if-coefficients-lt-WORK_PLACES.false, c.substitute_list-answer.auto.coefficients)) (c.fill-2.ensures.after (λ y e. e)))
    ∙ sym (substitute-worked _ _ _ _ _)
