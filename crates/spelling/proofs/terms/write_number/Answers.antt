-- `write_number` meets its contract: the number is left out exactly if it is 1 and the pattern has a letter.
use mathlib.Core.Path.{sym, ◌∙◌}
use Rattle.spelling.proofs.WriteNumber.{left_out, other-written, alone-written}
use Rattle.spelling.proofs.terms.write_number.Goals as goal

pub returns-then-size-ne1 : goal.returns-then-size-ne1
returns-then-size-ne1 c = other-written _ _ _ _ c.if-size-ne1.true c.write_decimal.ensures.value c.write_decimal.ensures.area_after

pub returns-then-degree-eq0 : goal.returns-then-degree-eq0
returns-then-degree-eq0 c = alone-written _ _ _ _ (sym c.degree.ensures ∙ c.if-degree-eq0.true) c.write_decimal-then-degree-eq0.ensures.value c.write_decimal-then-degree-eq0.ensures.area_after

pub returns : goal.returns
returns c = left_out _ _ _ _ c.if-size-ne1.false (λ none. c.if-degree-eq0.false (c.degree.ensures ∙ none))
