-- `pack` meets its contract: each test that fails gives its refusal, and what is left is written from the first place on.
use mathlib.Core.Path.{◌∙◌, ap}
use Prim.Native.Nat.{ℕ}
use native.Mathlib.Omega.{arith}
use Rattle.answers.specs.Refusals.{SUM}
use Rattle.answers.specs.Answers.{Told.refused, outcome}
use Rattle.packed.proofs.Packing.{no_room, too_many, few_words, few_coefficients, bad_term, every-good, judged, every-valid, has_room, all-written}
use Rattle.packed.specs.Promised.{PackFits}
use Rattle.packed.proofs.pack.Goals as goal
use Rattle.packed.proofs.pack.Goals.{Else-count-coefficients}

-- the lengths and the count have passed their tests
passed : (d : Else-count-coefficients) → PackFits d.args.count d.args.patterns.now d.args.coefficients.now d.args.res.now
passed d = record {
  room = d.if-res-lt-MOST_BYTES.false;
  few = d.if-count-gt-MOST_TERMS.false;
  patterns_enough = d.if-count-patterns.false;
  coefficients_enough = d.if-count-coefficients.false;
}

pub returns-then-res-lt-MOST_BYTES : goal.returns-then-res-lt-MOST_BYTES
returns-then-res-lt-MOST_BYTES c = rw c.at.ensures (no_room _ _ _ _ c.if-res-lt-MOST_BYTES.true)

pub returns-then-count-gt-MOST_TERMS : goal.returns-then-count-gt-MOST_TERMS
returns-then-count-gt-MOST_TERMS c = rw c.at-then-count-gt-MOST_TERMS.ensures (too_many _ _ _ _ c.if-res-lt-MOST_BYTES.false c.if-count-gt-MOST_TERMS.true)

pub returns-then-count-patterns : goal.returns-then-count-patterns
returns-then-count-patterns c = rw c.at-then-count-patterns.ensures (few_words _ _ _ _ c.if-res-lt-MOST_BYTES.false c.if-count-gt-MOST_TERMS.false c.if-count-patterns.true)

pub returns-then-count-coefficients : goal.returns-then-count-coefficients
returns-then-count-coefficients c = rw c.at-then-count-coefficients.ensures (few_coefficients _ _ _ _ c.if-res-lt-MOST_BYTES.false c.if-count-gt-MOST_TERMS.false c.if-count-patterns.false c.if-count-coefficients.true)

pub returns-then-good-count : goal.returns-then-good-count
returns-then-good-count c = let is = judged _ _ _ c.good_terms-good.ensures c.first.ensures.patterns c.first.ensures.coefficients in
    rw c.at-then-good-count.ensures (ap (λ (g : ℕ). outcome (refused SUM g) c.args.res.now) is ∙ bad_term (passed (goal.at.returns-then-good-count c).Else-count-coefficients) (omega (arith, is, c.if-good-count.true)))

pub write_sum-length-requires-clause-each_valid : goal.write_sum-length-requires-clause-each_valid
write_sum-length-requires-clause-each_valid c = let p = passed (goal.at.write_sum-length-requires-clause-each_valid c).Else-count-coefficients in
    let every = every-good p (omega (arith, judged _ _ _ c.good_terms-good.ensures c.first.ensures.patterns c.first.ensures.coefficients, c.if-good-count.false)) in rw c.first-2.ensures.patterns (every-valid p every)

pub write_sum-length-requires-clause-room : goal.write_sum-length-requires-clause-room
write_sum-length-requires-clause-room c = let p = passed (goal.at.write_sum-length-requires-clause-room c).Else-count-coefficients in
    let every = every-good p (omega (arith, judged _ _ _ c.good_terms-good.ensures c.first.ensures.patterns c.first.ensures.coefficients, c.if-good-count.false)) in rw (c.first-2.ensures.patterns, c.first-2.ensures.coefficients) (has_room p every)

pub returns : goal.returns
returns c = let p = passed (goal.at.returns c).Else-count-coefficients in
    let sum = c.first-2.ensures in
    let every = every-good p (omega (arith, judged _ _ _ c.good_terms-good.ensures c.first.ensures.patterns c.first.ensures.coefficients, c.if-good-count.false)) in
    all-written p every (rw (sum.patterns, sum.coefficients) at c.write_sum-length.ensures.value) (rw (sum.patterns, sum.coefficients) at c.write_sum-length.ensures.area_after)
