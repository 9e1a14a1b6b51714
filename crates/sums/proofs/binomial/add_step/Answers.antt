use mathlib.Core.Path.{◌≡◌, sym, ◌∙◌, ap, ap₂}
use Prim.Native.Nat.{◌≤◌}
use native.Mathlib.Omega.{arith}
use lib.IntN.{pos, nat_abs, ◌+ℤ◌, ◌*ℤ◌}
use lib.ListN.{get_or}
use mir.Syntax.{w64}
use mir.Val.{of_z, to_z}
use mir.ValLaws.{to_z-of_z}
use Rattle.algebra.specs.Limits.{largest_weight}
use Rattle.algebra.proofs.Numbers.Whole.{*ℤ-oner}
use Rattle.answers.proofs.Signed.{fits-abs}
use Rattle.sums.proofs.Stepping.{start, both-light, again, ended}
use Rattle.sums.proofs.binomial.add_step.Goals as goal
use Rattle.sums.proofs.binomial.add_step.Goals.{After-c-1}

-- the number that was read, as the machine holds it
read : (d : After-c-1)
    → let value = get_or d.loop-k.coefficients d.loop-k.k (pos 0) in
    to_z w64 (of_z w64 value) ≡ value
read d =
    to_z-of_z w64 (get_or d.loop-k.coefficients d.loop-k.k (pos 0)) (record { sfits = d.c-1.given })

pub loop-k-init : goal.loop-k-init
loop-k-init c = start _ _ _ _ c.requires.n_in_bounds c.requires.coefficients_bound

pub overflow_add-coefficients : goal.overflow_add-coefficients
overflow_add-coefficients c = let x = to_z w64 c.loop-k.left-bits in
    let y = to_z w64 (of_z w64 (get_or c.loop-k.coefficients c.loop-k.k (pos 0))) in
    let light : nat_abs (x *ℤ pos 1 +ℤ y *ℤ pos 1) ≤ largest_weight = (both-light c.loop-k.invariant y (read c) c.loop-k-test.true).1 in
    fits-abs (x +ℤ y) (omega (arith, ap nat_abs (ap₂ ◌+ℤ◌ (*ℤ-oner x) (*ℤ-oner y)), light))

pub loop-k-preserved : goal.loop-k-preserved
loop-k-preserved c = let x = to_z w64 c.loop-k.left-bits in
    let y = to_z w64 (of_z w64 (get_or c.loop-k.coefficients c.loop-k.k (pos 0))) in
    let is : x +ℤ y ≡ x *ℤ pos 1 +ℤ y *ℤ pos 1 = sym (ap₂ ◌+ℤ◌ (*ℤ-oner x) (*ℤ-oner y)) in
    again c.loop-k.invariant c.loop-k-test.true y _ (read c) (to_z-of_z w64 (x +ℤ y) (overflow_add-coefficients c) ∙ is)

pub returns : goal.returns
returns c = ended c.loop-k.invariant c.loop-k-test.false _ (sym (*ℤ-oner _))
