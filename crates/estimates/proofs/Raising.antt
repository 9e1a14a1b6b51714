-- The readings raised by their tolerances, place by place.
use mathlib.Core.Path.{◌≡◌, sym, ap, ap₂, ◌∙◌}
use mathlib.Core.Bool.{true, false≢true}
use mathlib.Core.List.{List}
use Prim.Native.Nat.{ℕ, ◌+◌, ◌^◌, ◌<◌}
use native.Mathlib.Omega.{arith}
use lib.IntN.{ℤ, pos, negsuc, nat_abs}
use lib.ListN.{length, get_or}
use lib.Signed.{non_neg}
use mir.Syntax.{w64}
use mir.Val.{Fits, SFits}
use mir.ValLaws.{to_z-of_z}
use Rattle.numbers.proofs.Signs.{held}
use Rattle.algebra.specs.Limits.{variables}
use Rattle.algebra.specs.Margin.{unsigned, raised_by}
use Rattle.algebra.proofs.Sums.Margins.{raised-length, raised_at}
use Rattle.estimates.specs.Inside.Held.{Covers}
use Rattle.estimates.specs.Readings.{before_negative}
use Rattle.estimates.proofs.Tolerances.{none-negative}

-- a reading is at most 2^63, and a tolerance that is not negative is below
sum_fits : (r t : ℤ) → SFits w64 r → SFits w64 t → non_neg t ≡ true → nat_abs r + nat_abs t < 2 ^ 64
sum_fits r (negsuc m) f g up = absurd (false≢true up)
sum_fits (pos n) (pos t) f g up = omega (arith, f.sfits, g.sfits)
sum_fits (negsuc m) (pos t) f g up = omega (arith, f.sfits, g.sfits)

-- what is computed for one place
pub record Raised (rs ts : List ℤ) (i sum : ℕ) : Type 0 where
  pub is : sum ≡ get_or (raised_by rs (unsigned ts)) i 0
  pub fits : Fits w64 sum

pub raised : (rs ts : List ℤ) (i : ℕ) → i < length rs → i < length ts → before_negative ts ≡ length ts
    → SFits w64 (get_or rs i (pos 0)) → SFits w64 (get_or ts i (pos 0))
    → {a b : ℕ} → a ≡ nat_abs (held (get_or rs i (pos 0))) → b ≡ nat_abs (held (get_or ts i (pos 0))) → Raised rs ts i (a + b)
raised rs ts i inside below allowed f g {a} {b} d e =
    let r = get_or rs i (pos 0) in
    let t = get_or ts i (pos 0) in
    let sum : a + b ≡ nat_abs r + nat_abs t = ap₂ ◌+◌ (d ∙ ap nat_abs (to_z-of_z w64 r f)) (e ∙ ap nat_abs (to_z-of_z w64 t g)) in
    record {
      is = sum ∙ sym (raised_at rs ts i inside);
      fits = record { fits = omega (arith, sum, sum_fits r t f g (none-negative ts allowed i below)) };
    }

pub covers : (rs ts : List ℤ) {raised : List ℕ} → length rs ≡ variables → raised ≡ raised_by rs (unsigned ts) → Covers rs raised
covers rs ts long is = record {
  readings_long = long;
  raised_long = ap length is ∙ raised-length rs (unsigned ts) ∙ long;
  no_smaller = λ v h. omega (arith, ap (λ y. get_or y v 0) is, raised_at rs ts v (omega arith));
}
