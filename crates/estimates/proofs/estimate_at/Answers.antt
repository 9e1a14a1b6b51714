-- `estimate_at` meets its contract: a raised value within range makes the others exact.
use mathlib.Core.Path.{sym, ◌∙◌}
use borrow.Author.Rules.{rules}
use mir.Syntax.{w64}
use mir.ValLaws.{to_z-of_z}
use Rattle.estimates.proofs.Raising.{covers}
use Rattle.estimates.proofs.EstimateAt.{beyond, plain_within, within}
use Rattle.estimates.proofs.estimate_at.Goals as goal

pub invariant_of-measured : goal.invariant_of-measured
invariant_of-measured c = record { covers = covers c.args.readings.now c.args.tolerances.now c.requires.readings_len c.raise.ensures }

pub returns-then-parts-gt-LARGEST_WEIGHT : goal.returns-then-parts-gt-LARGEST_WEIGHT
returns-then-parts-gt-LARGEST_WEIGHT c = sym (beyond c.args.tolerances.now c.sum_parts-parts.ensures c.raise.ensures c.if-parts-gt-LARGEST_WEIGHT.true)

pub overflow_sub-result : goal.overflow_sub-result
overflow_sub-result c = plain_within c.args.tolerances.now c.sum_parts-parts.ensures c.raise.ensures (c.requires.readings_len ∙ sym c.requires.tolerances_len) c.if-parts-gt-LARGEST_WEIGHT.false

pub returns : goal.returns
returns c = sym (within c.args.tolerances.now c.sum_parts-parts.ensures c.raise.ensures (c.requires.readings_len ∙ sym c.requires.tolerances_len) c.if-parts-gt-LARGEST_WEIGHT.false
    (to_z-of_z w64 c.sum_parts-parts.result.estimate (search rules)))
