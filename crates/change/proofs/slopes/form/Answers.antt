use mathlib.Core.Path.{◌≡◌, sym, ◌∙◌, ap, subst}
use Prim.Native.Nat.{ℕ, ◌≤◌, ◌<◌}
use native.Mathlib.Omega.{arith}
use lib.IntN.{pos}
use lib.ListN.{length, get_or, take}
use lib.Seq.{length-take-le}
use mir.Syntax.{w64}
use mir.Val.{of_z, to_z}
use mir.ValLaws.{to_z-of_z}
use Rattle.std.proofs.Common.{rules}
use Rattle.algebra.specs.Pattern.{exponent, lowered}
use Rattle.algebra.specs.Word.{word, exponents, Valid}
use Rattle.sums.proofs.Holding.{each-valid}
use Rattle.change.proofs.Sloping.{form-start, form-skips, power_small, slope-is, slope-fits, form-takes, form-count, form-words, form-coefficients, word-here, coefficient-here}
use Rattle.change.proofs.slopes.form.Goals as goal
use Rattle.change.proofs.slopes.form.Goals.{After-slope_step-step, Else-step-eq0, In-loop-k}

-- one more term is met
more : (d : In-loop-k) → d.loop-k.k < length (take d.args.n d.args.patterns.now)
more d = rw (length-take-le d.args.n d.args.patterns.now d.requires.in_patterns) d.loop-k-test.true

-- what is known of its slope
power_is : (e : After-slope_step-step) → e.slope_step-step.result.power ≡ exponent e.args.v (exponents (get_or (take e.args.n e.args.patterns.now) e.loop-k.k 0))
power_is e =
    e.slope_step-step.ensures.0 ∙ ap (λ (w : ℕ). exponent e.args.v (exponents w)) (word-here e.loop-k.invariant e.loop-k-test.true)

pattern-is : (e : After-slope_step-step) → e.slope_step-step.result.pattern.0 ≡ word (lowered e.args.v (exponents (get_or (take e.args.n e.args.patterns.now) e.loop-k.k 0)))
pattern-is e =
    e.slope_step-step.ensures.1 ∙ ap (λ (w : ℕ). word (lowered e.args.v (exponents w))) (word-here e.loop-k.invariant e.loop-k-test.true)

pub loop-k-init : goal.loop-k-init
loop-k-init c = form-start _ _ _ _ c.requires.held_sum c.requires.light c.requires.in_patterns c.requires.in_coefficients

pub slope_step-step-requires-clause-valid : goal.slope_step-step-requires-clause-valid
slope_step-step-requires-clause-valid c = subst Valid (sym (word-here c.loop-k.invariant c.loop-k-test.true)) (each-valid c.loop-k.invariant.sum.held c.loop-k.k (more (goal.at.slope_step-step-requires-clause-valid c).In-loop-k))

pub overflow_cast-coefficients : goal.overflow_cast-coefficients
overflow_cast-coefficients c = record { sfits = omega (arith, power_small c.loop-k.invariant (more (goal.at.overflow_cast-coefficients c).In-loop-k), power_is (goal.at.overflow_cast-coefficients c).After-slope_step-step) }

pub overflow_mul-coefficients : goal.overflow_mul-coefficients
overflow_mul-coefficients c =
    let at = goal.at.overflow_mul-coefficients c in
    let m = more at.In-loop-k in
    let read : to_z w64 (of_z w64 (get_or c.loop-k.coefficients c.loop-k.k (pos 0))) ≡ get_or c.loop-k.coefficients c.loop-k.k (pos 0) = search rules in
    rw (slope-is c.loop-k.invariant m _ (read ∙ coefficient-here c.loop-k.invariant c.loop-k-test.true) (power_is at.After-slope_step-step)) (slope-fits c.loop-k.invariant m)

pub loop-k-preserved-then-step-eq0 : goal.loop-k-preserved-then-step-eq0
loop-k-preserved-then-step-eq0 c = form-skips c.loop-k.invariant (more (goal.at.loop-k-preserved-then-step-eq0 c).In-loop-k) (sym (power_is (goal.at.loop-k-preserved-then-step-eq0 c).After-slope_step-step) ∙ c.if-step-eq0.true)

pub loop-k-preserved : goal.loop-k-preserved
loop-k-preserved c =
    let at = goal.at.loop-k-preserved c in
    let m = more at.In-loop-k in
    let p = power_is at.After-slope_step-step in
    let read : to_z w64 (of_z w64 (get_or c.loop-k.coefficients c.loop-k.k (pos 0))) ≡ get_or c.loop-k.coefficients c.loop-k.k (pos 0) = search rules in
    let product = slope-is c.loop-k.invariant m _ (read ∙ coefficient-here c.loop-k.invariant c.loop-k-test.true) p in
    form-takes c.loop-k.invariant m _ _ (λ z. c.if-step-eq0.false (p ∙ z)) (pattern-is at.After-slope_step-step)
    (to_z-of_z w64 _ (rw product (slope-fits c.loop-k.invariant m)) ∙ product)

pub returns-clause-value : goal.returns-clause-value
returns-clause-value c = let h : length (take c.args.n c.args.patterns.now) ≤ c.loop-k.k = rw (length-take-le c.args.n c.args.patterns.now c.requires.in_patterns) c.loop-k-test.false in form-count c.loop-k.invariant h

pub returns-clause-patterns_after : goal.returns-clause-patterns_after
returns-clause-patterns_after c = let h : length (take c.args.n c.args.patterns.now) ≤ c.loop-k.k = rw (length-take-le c.args.n c.args.patterns.now c.requires.in_patterns) c.loop-k-test.false in form-words c.loop-k.invariant h

pub returns-clause-coefficients_after : goal.returns-clause-coefficients_after
returns-clause-coefficients_after c = let h : length (take c.args.n c.args.patterns.now) ≤ c.loop-k.k = rw (length-take-le c.args.n c.args.patterns.now c.requires.in_patterns) c.loop-k-test.false in form-coefficients c.loop-k.invariant h
