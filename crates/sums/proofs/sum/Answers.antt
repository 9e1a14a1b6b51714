-- `sum` meets its contract: the spread is judged, and then the terms are merged.
use mathlib.Core.Path.{sym, ◌∙◌, ap}
use borrow.Author.Tests.{not-true, not-false}
use Rattle.sums.specs.Formed.{formed_into}
use Rattle.sums.proofs.Summing.{over-told, formed-told, stays, spread-room}
use Rattle.sums.proofs.sum.Goals as goal

pub returns-then-not-fits : goal.returns-then-not-fits
returns-then-not-fits c = stays _ _ (over-told _ _ (sym c.fits.ensures ∙ not-true _ c.if-not-fits.true-raw))

pub merge-requires-clause-room_for_patterns : goal.merge-requires-clause-room_for_patterns
merge-requires-clause-room_for_patterns c = (spread-room c.requires.addends c.requires.room_of (sym c.fits.ensures ∙ not-false _ c.if-not-fits.false-raw)).0

pub merge-requires-clause-room_for_coefficients : goal.merge-requires-clause-room_for_coefficients
merge-requires-clause-room_for_coefficients c = (spread-room c.requires.addends c.requires.room_of (sym c.fits.ensures ∙ not-false _ c.if-not-fits.false-raw)).1

pub returns : goal.returns
returns c = c.merge.ensures ∙ ap (λ x. formed_into x c.args.patterns.now c.args.coefficients.now) (formed-told _ _ (sym c.fits.ensures ∙ not-false _ c.if-not-fits.false-raw))
