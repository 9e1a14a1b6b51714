-- What a loop keeps that looks for the first negative tolerance: none that it passed is negative.
use mathlib.Core.Path.{◌≡◌, refl, sym, ◌∙◌}
use mathlib.Core.Bool.{true, false, not}
use mathlib.Core.List.{List}
use Prim.Native.Nat.{ℕ, ◌+◌, ◌≤◌, ◌<◌}
use native.Mathlib.Omega.{arith}
use lib.IntN.{ℤ, pos, negsuc}
use lib.ListN.{length, get_or}
use lib.Signed.{lt_z, non_neg}
use borrow.Author.Count.{below_none, below_more}
use borrow.Author.Tests.{le-ltb, not-true, not-false}
use mir.Syntax.{w64}
use mir.Val.{SFits}
use mir.ValLaws.{to_z-of_z}
use Rattle.numbers.proofs.Signs.{held}
use Rattle.estimates.specs.Readings.{before_negative}
use Rattle.estimates.proofs.Tolerances.{at_first, all-allowed}
use Rattle.estimates.specs.Promised.{NoneBefore}

pub record Passing (ts : List ℤ) (v : ℕ) : Type 0 where
  pub inside : v ≤ length ts
  pub passed : NoneBefore ts v

pub start : (ts : List ℤ) → Passing ts 0
start ts = record { inside = omega arith; passed = below_none _ }

-- what the test of a tolerance says
test-is : (z : ℤ) → SFits w64 z → lt_z (held z) (pos 0) ≡ not (non_neg z)
test-is z fits = rw (to_z-of_z w64 z fits) (by_sign z)
  where
    by_sign : (z : ℤ) → lt_z z (pos 0) ≡ not (non_neg z)
    by_sign (pos n) = le-ltb n 0 (omega arith)
    by_sign (negsuc m) = refl

module _ {ts : List ℤ} {v : ℕ} (p : Passing ts v) where
  module _ (fits : SFits w64 (get_or ts v (pos 0))) where
    pub again : v < length ts → lt_z (held (get_or ts v (pos 0))) (pos 0) ≡ false → Passing ts (v + 1)
    again h test = record {
      inside = omega arith;
      passed = below_more _ v p.passed (not-false (non_neg (get_or ts v (pos 0))) (sym (test-is (get_or ts v (pos 0)) fits) ∙ test));
    }

    pub stopped : lt_z (held (get_or ts v (pos 0))) (pos 0) ≡ true → v ≡ before_negative ts
    stopped test =
        let there = not-true (non_neg (get_or ts v (pos 0))) (sym (test-is (get_or ts v (pos 0)) fits) ∙ test) in
        sym (at_first ts v (record { negative_there = there; none_before = p.passed }))

  pub ended : length ts ≤ v → v ≡ before_negative ts
  ended h = let e : v ≡ length ts = omega (arith, p.inside) in e ∙ sym (all-allowed ts (rw e at p.passed))
