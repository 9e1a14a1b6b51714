-- `take_each` meets its contract: what `take_terms` leaves on a fault is cleared.
use mathlib.Core.Path.{sym, ◌∙◌}
use borrow.Author.Rules.{rules}
use Rattle.answers.proofs.Writes.{part-cleared}
use Rattle.packed.proofs.Taking.{each-ok, each-err}
use Rattle.packed.proofs.TakeSum.{terms-all}
use Rattle.packed.proofs.items.take_each.Goals as goal

pub returns-then-is_err : goal.returns-then-is_err
returns-then-is_err c =
    each-err _ c.take_terms-item.result _ (sym c.is_err.ensures.value ∙ c.if-is_err.true) c.take_terms-item.ensures.result_value c.take_terms-item.ensures.holds
    (part-cleared _ _ _ (search rules) (c.fill.ensures.after (λ y e. e)))
    (part-cleared _ _ _ (search rules) (c.fill-then-is_err.ensures.after (λ y e. e)))

pub returns-else-is_err : goal.returns-else-is_err
returns-else-is_err c =
    each-ok _ c.take_terms-item.result _ (sym c.is_err.ensures.value ∙ c.if-is_err.false) c.take_terms-item.ensures.result_value c.take_terms-item.ensures.holds (λ s end e. terms-all _ _ _ s _ _ end e)
