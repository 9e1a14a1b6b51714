-- `write_slope` meets its contract: the checks come in 01's order, and the result area is written after the last of them.
use mathlib.Core.Path.{◌≡◌, sym, ◌∙◌}
use native.Mathlib.Omega.{arith}
use Rattle.algebra.specs.Sum.{weight}
use Rattle.algebra.specs.Slope as algebra
use Rattle.algebra.specs.Held.{first_terms}
use Rattle.weights.specs.Capped.{capped}
use Rattle.weights.proofs.Weighing.{capped-heavy}
use Rattle.change.proofs.Sloped.{judge-variable, judge-weight, judged-so, judged-good}
use Rattle.sums.proofs.First.{First, first_few, first-valid}
use Rattle.change.proofs.Given.{first-room, first-result, slope-light, slope-stands}
use Rattle.change.proofs.write_slope.Goals as goal
use Rattle.change.proofs.write_slope.Goals.{After-form-count, After-weigh, Start}

-- the weight of its slope, which was found of its terms
weighed : (w : After-weigh) → w.weigh.result ≡ capped (weight (algebra.slope w.args.v (first_terms w.args.n w.args.sp.now w.args.sc.now)))
weighed w = rw (w.first.ensures.patterns, w.first.ensures.coefficients) at w.weigh.ensures

-- the slope, in the same places
formed : (f : After-form-count)
    → f.weigh.result ≡ capped (weight (algebra.slope f.args.v (first_terms f.args.n f.args.sp.now f.args.sc.now)))
    → First (algebra.slope f.args.v (first_terms f.args.n f.args.sp.now f.args.sc.now)) f.form-count.new.patterns f.form-count.new.coefficients f.form-count.result
formed f w =
    slope-stands _ _ f.requires.held_sum.accepted _ w f.if-weigh-gt-LARGEST_WEIGHT.false _ _ f.form-count.ensures.value f.form-count.ensures.patterns_after f.form-count.ensures.coefficients_after

pub returns-then-v-ge-VARIABLES : goal.returns-then-v-ge-VARIABLES
returns-then-v-ge-VARIABLES c = rw c.at.ensures (sym (judged-so _ _ _ (judge-variable _ _ c.if-v-ge-VARIABLES.true)))

pub returns-then-weigh-gt-LARGEST_WEIGHT : goal.returns-then-weigh-gt-LARGEST_WEIGHT
returns-then-weigh-gt-LARGEST_WEIGHT c =
    rw c.at-then-weigh-gt-LARGEST_WEIGHT.ensures
    (sym (judged-so _ _ _ (judge-weight _ _ c.if-v-ge-VARIABLES.false (capped-heavy _ _ (weighed (goal.at.returns-then-weigh-gt-LARGEST_WEIGHT c).After-weigh) c.if-weigh-gt-LARGEST_WEIGHT.true))))

pub returns-then-count-gt-MOST_TERMS : goal.returns-then-count-gt-MOST_TERMS
returns-then-count-gt-MOST_TERMS c =
    let f = formed (goal.at.returns-then-count-gt-MOST_TERMS c).After-form-count (weighed (goal.at.returns-then-count-gt-MOST_TERMS c).After-weigh) in
    absurd (omega (arith, first_few f, c.if-count-gt-MOST_TERMS.true))

pub write_sum-requires-clause-each_valid : goal.write_sum-requires-clause-each_valid
write_sum-requires-clause-each_valid c =
    let f = formed (goal.at.write_sum-requires-clause-each_valid c).After-form-count (weighed (goal.at.write_sum-requires-clause-each_valid c).After-weigh) in
    rw c.first-2.ensures.patterns (first-valid f)

pub write_sum-requires-clause-room : goal.write_sum-requires-clause-room
write_sum-requires-clause-room c =
    let f = formed (goal.at.write_sum-requires-clause-room c).After-form-count (weighed (goal.at.write_sum-requires-clause-room c).After-weigh) in
    rw (c.first-2.ensures.patterns, c.first-2.ensures.coefficients) (first-room f c.args.res.now c.requires.room)

pub returns : goal.returns
returns c =
    let w = weighed (goal.at.returns c).After-weigh in
    let wrote = rw (c.first-2.ensures.patterns, c.first-2.ensures.coefficients) at c.write_sum.ensures in
    first-result (formed (goal.at.returns c).After-form-count w) _ c.requires.room wrote.value wrote.area_after
    ∙ sym (judged-good _ (first_terms c.args.n c.args.sp.now c.args.sc.now) _ c.requires.held_sum.accepted c.if-v-ge-VARIABLES.false (slope-light _ _ c.requires.held_sum.accepted _ w c.if-weigh-gt-LARGEST_WEIGHT.false))
