use mathlib.Core.Path.{◌≡◌, sym, ◌∙◌, ap, ap₂, subst}
use mathlib.Core.Bool.{false}
use Prim.Native.Nat.{Ordering}
use native.Mathlib.Omega.{arith}
use lib.IntN.{pos, ◌+ℤ◌}
use lib.ListN.{get_or}
use mir.Syntax.{w64}
use mir.Val.{SFits, of_z, to_z}
use mir.ValLaws.{to_z-of_z}
use Rattle.algebra.specs.Sum.{is_zero}
use Rattle.algebra.specs.Inside.Standing.{standing}
use Rattle.algebra.proofs.Numbers.Signed.{zero_bits, nonzero-bits}
use Rattle.sums.specs.Adding.{next_stands}
use Rattle.sums.proofs.Holding.{each-valid}
use Rattle.sums.proofs.Merges.{may-first, steps_first, may-second, steps-second, both-fit, steps-none, may-both, steps-both, finally}
use Rattle.sums.proofs.adding.merge.Goals as goal
use Rattle.sums.proofs.adding.merge.Goals.{After-d-1, In-Greater, In-Less, In-Equal}

-- ---- What the comparison said, in each of the three arms.
first_said : (d : In-Less)
    → next_stands d.loop-x.x d.args.s.patterns.now d.loop-x.y d.args.t.patterns.now ≡ Ordering.lt
first_said d = sym d.stands.ensures ∙ ap standing d.in-Less.is

both-said : (d : In-Equal)
    → next_stands d.loop-x.x d.args.s.patterns.now d.loop-x.y d.args.t.patterns.now ≡ Ordering.eq
both-said d = sym d.stands.ensures ∙ ap standing d.in-Equal.is

second-said : (d : In-Greater)
    → next_stands d.loop-x.x d.args.s.patterns.now d.loop-x.y d.args.t.patterns.now ≡ Ordering.gt
second-said d = sym d.stands.ensures ∙ ap standing d.in-Greater.is

-- the two coefficients, as the machine adds them
both : (d : After-d-1)
    → let x = get_or d.args.s.coefficients.now d.loop-x.x (pos 0) in
    let y = get_or d.args.t.coefficients.now d.loop-x.y (pos 0) in
    to_z w64 (of_z w64 x) +ℤ to_z w64 (of_z w64 y) ≡ x +ℤ y
both d =
    let x = get_or d.args.s.coefficients.now d.loop-x.x (pos 0) in
    let y = get_or d.args.t.coefficients.now d.loop-x.y (pos 0) in
    let is_x : to_z w64 (of_z w64 x) ≡ x = to_z-of_z w64 x (record { sfits = d.c-in-Equal-1.given }) in
    let is_y : to_z w64 (of_z w64 y) ≡ y = to_z-of_z w64 y (record { sfits = d.d-1.given }) in
    ap₂ ◌+ℤ◌ is_x is_y

-- they do not cancel
differ : (d : After-d-1)
    → let x = get_or d.args.s.coefficients.now d.loop-x.x (pos 0) in
    let y = get_or d.args.t.coefficients.now d.loop-x.y (pos 0) in
    (of_z w64 (to_z w64 (of_z w64 x) +ℤ to_z w64 (of_z w64 y)) ≡ 0 → ⊥) → is_zero (x +ℤ y) ≡ false
differ d f =
    let x = get_or d.args.s.coefficients.now d.loop-x.x (pos 0) in
    let y = get_or d.args.t.coefficients.now d.loop-x.y (pos 0) in
    ap is_zero (sym (both d)) ∙ nonzero-bits (to_z w64 (of_z w64 x) +ℤ to_z w64 (of_z w64 y)) f

pub stands-requires-clause-each_valid : goal.stands-requires-clause-each_valid
stands-requires-clause-each_valid c = each-valid c.loop-x.invariant.addends.first.held

pub stands-requires-clause-each_valid_2 : goal.stands-requires-clause-each_valid_2
stands-requires-clause-each_valid_2 c = each-valid c.loop-x.invariant.addends.second.held

pub bounds-patterns-k : goal.bounds-patterns-k
bounds-patterns-k c = omega (arith, (may-first c.loop-x.invariant c.loop-x-test.true (first_said (goal.at.bounds-patterns-k c).In-Less)).1, c.loop-x.invariant.words_room)

pub bounds-coefficients-k : goal.bounds-coefficients-k
bounds-coefficients-k c = omega (arith, (may-first c.loop-x.invariant c.loop-x-test.true (first_said (goal.at.bounds-coefficients-k c).In-Less)).1, c.loop-x.invariant.coefficients_room)

pub loop-x-preserved-in-Less : goal.loop-x-preserved-in-Less
loop-x-preserved-in-Less c = steps_first c.loop-x.invariant c.loop-x-test.true (first_said (goal.at.loop-x-preserved-in-Less c).In-Less) (to_z-of_z w64 _ (record { sfits = c.c-1.given }))

pub overflow_add-e : goal.overflow_add-e
overflow_add-e c = subst (SFits w64) (sym (both c)) (both-fit c.loop-x.invariant c.loop-x-test.true (both-said (goal.at.overflow_add-e c).In-Equal))

pub loop-x-preserved-then-e-eq0 : goal.loop-x-preserved-then-e-eq0
loop-x-preserved-then-e-eq0 c = steps-none c.loop-x.invariant c.loop-x-test.true (both-said (goal.at.loop-x-preserved-then-e-eq0 c).In-Equal) (ap is_zero (sym (both (goal.at.loop-x-preserved-then-e-eq0 c).After-d-1)) ∙ zero_bits _ (overflow_add-e (goal.at.loop-x-preserved-then-e-eq0 c).After-d-1) c.if-e-eq0.true)

pub bounds-patterns-k-else-e-eq0 : goal.bounds-patterns-k-else-e-eq0
bounds-patterns-k-else-e-eq0 c = omega (arith, may-both c.loop-x.invariant c.loop-x-test.true (both-said (goal.at.bounds-patterns-k-else-e-eq0 c).In-Equal) (differ (goal.at.bounds-patterns-k-else-e-eq0 c).After-d-1 c.if-e-eq0.false), c.loop-x.invariant.words_room)

pub bounds-coefficients-k-else-e-eq0 : goal.bounds-coefficients-k-else-e-eq0
bounds-coefficients-k-else-e-eq0 c = omega (arith, may-both c.loop-x.invariant c.loop-x-test.true (both-said (goal.at.bounds-coefficients-k-else-e-eq0 c).In-Equal) (differ (goal.at.bounds-coefficients-k-else-e-eq0 c).After-d-1 c.if-e-eq0.false), c.loop-x.invariant.coefficients_room)

pub loop-x-preserved-else-e-eq0 : goal.loop-x-preserved-else-e-eq0
loop-x-preserved-else-e-eq0 c = steps-both c.loop-x.invariant c.loop-x-test.true (both-said (goal.at.loop-x-preserved-else-e-eq0 c).In-Equal) (differ (goal.at.loop-x-preserved-else-e-eq0 c).After-d-1 c.if-e-eq0.false) (to_z-of_z w64 _ (overflow_add-e (goal.at.loop-x-preserved-else-e-eq0 c).After-d-1) ∙ both (goal.at.loop-x-preserved-else-e-eq0 c).After-d-1)

pub bounds-patterns-k-in-Greater : goal.bounds-patterns-k-in-Greater
bounds-patterns-k-in-Greater c = omega (arith, (may-second c.loop-x.invariant c.loop-x-test.true (second-said (goal.at.bounds-patterns-k-in-Greater c).In-Greater)).1, c.loop-x.invariant.words_room)

pub bounds-coefficients-k-in-Greater : goal.bounds-coefficients-k-in-Greater
bounds-coefficients-k-in-Greater c = omega (arith, (may-second c.loop-x.invariant c.loop-x-test.true (second-said (goal.at.bounds-coefficients-k-in-Greater c).In-Greater)).1, c.loop-x.invariant.coefficients_room)

pub loop-x-preserved : goal.loop-x-preserved
loop-x-preserved c = steps-second c.loop-x.invariant c.loop-x-test.true (second-said (goal.at.loop-x-preserved c).In-Greater) (to_z-of_z w64 _ (record { sfits = c.d-in-Greater-1.given }))

pub returns : goal.returns
returns c = finally c.loop-x.invariant c.loop-x-test.false
