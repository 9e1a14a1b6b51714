-- Weights above 2^62 are found without overflow: they are only told apart from those that are allowed.
use mathlib.Core.Path.{◌≡◌, refl, sym, ◌∙◌, ap}
use Prim.Native.Nat.{ℕ, zero, suc, ◌+◌, ◌*◌, ◌^◌, ◌≤◌, ◌<◌, min}
use native.Mathlib.Omega.{arith}
use native.Mathlib.Decide.{dec_lt, ℕ_discrete}
use native.Mathlib.Nat.{min-eq_left, min-eq_right, mul-le-mul_left, mul_comm, mul-zero, pow-zero, pow-suc, one-mul}
use native.Mathlib.Numerals.{add-one}
use Rattle.algebra.specs.Limits.{largest_weight}
use Rattle.weights.specs.Capped.{capped}

pub light-capped : (w : ℕ) → w ≤ largest_weight → w ≡ capped w
light-capped w h = sym (min-eq_left (omega arith))

pub heavy-capped : (w : ℕ) → largest_weight < w → suc largest_weight ≡ capped w
heavy-capped w h = sym (min-eq_right (omega arith))

-- a weight as the code keeps it is the weight itself, if it is allowed; and both are allowed, or none
pub capped-light : (v w : ℕ) → v ≡ capped w → v ≤ largest_weight → v ≡ w
capped-light v w e h = omega (arith, e)

pub capped-heavy : (v w : ℕ) → v ≡ capped w → largest_weight < v → largest_weight < w
capped-heavy v w e h = omega (arith, e)

-- a sum or a product that stops at a number above 2^62, where it is larger, is told in the same way: so one that does not fit in a word need not be formed
pub capped-stopped : (n : ℕ) {most stopped : ℕ} → largest_weight < most → stopped ≡ min n most → capped stopped ≡ capped n
capped-stopped n h is = omega (arith, is)

-- ---- Capped before an operation, or after it.

positive : (v : ℕ) → (v ≡ 0 → ⊥) → 0 < v
positive v some = omega (arith, some)

-- a factor may be capped before
pub capped-times : (x w : ℕ) → capped (capped x * w) ≡ capped (x * w)
capped-times x w = go (dec_lt largest_weight x) (ℕ_discrete w 0)
  where
    above : (y : ℕ) → (w ≡ 0 → ⊥) → largest_weight < y → largest_weight < y * w
    above y some heavy = omega (arith, mul-le-mul_left y (positive w some))

    go : Dec (largest_weight < x) → Dec (w ≡ 0) → capped (capped x * w) ≡ capped (x * w)
    go (no light) d = ap (λ y. capped (y * w)) (sym (light-capped x (omega (arith, light))))
    go (yes heavy) (yes none) = rw none (ap capped (mul-zero (capped x) ∙ sym (mul-zero x)))
    go (yes heavy) (no some) =
        sym (heavy-capped (capped x * w) (above (capped x) some (omega arith))) ∙ heavy-capped (x * w) (above x some heavy)

pub capped-times-right : (x w : ℕ) → capped (x * capped w) ≡ capped (x * w)
capped-times-right x w = ap capped (mul_comm x (capped w)) ∙ capped-times w x ∙ ap capped (mul_comm w x)

-- and so may an addend
pub capped-plus : (x w : ℕ) → capped (capped x + w) ≡ capped (x + w)
capped-plus x w = omega arith

pub capped-plus-right : (x w : ℕ) → capped (x + capped w) ≡ capped (x + w)
capped-plus-right x w = omega arith

-- ---- A power, by products.

pub record Raising (w e power k : ℕ) : Type 0 where
  pub so_far : power ≡ capped (w ^ k)
  pub inside : k ≤ e

-- the powers of 0 and of 1 are the number itself, from the first one on
low-square : (w : ℕ) → w ≤ 1 → w * w ≡ w
low-square zero low = omega arith
low-square (suc zero) low = omega arith
low-square (suc (suc w)) low = absurd (omega arith)

low-power : (w e : ℕ) → w ≤ 1 → w ^ suc e ≡ w
low-power w zero low = pow-suc w 0 ∙ ap (λ (n : ℕ). n * w) (pow-zero w) ∙ one-mul w
low-power w (suc e) low = pow-suc w (suc e) ∙ ap (λ (n : ℕ). n * w) (low-power w e low) ∙ low-square w low

pub low-raised : (w e : ℕ) → (e ≡ 0 → ⊥) → w ≤ 1 → w ≡ capped (w ^ e)
low-raised w zero some low = absurd (some refl)
low-raised w (suc e) some low = light-capped w (omega arith) ∙ ap capped (sym (low-power w e low))

pub start : (w e power : ℕ) → (e ≡ 0 → ⊥) → power ≡ capped w → Raising w e power 1
start w e power some is = record { so_far = is ∙ ap capped (sym (pow-suc w 0 ∙ ap (λ (n : ℕ). n * w) (pow-zero w) ∙ one-mul w)); inside = omega (arith, some) }

pub again : (w e power k next : ℕ) → Raising w e power k → k < e → next ≡ capped (power * w) → Raising w e next (k + 1)
again w e power k next r h n =
    record {
      so_far = n ∙ ap (λ y. capped (y * w)) r.so_far ∙ capped-times (w ^ k) w ∙ ap capped (sym (pow-suc w k) ∙ ap (λ (m : ℕ). w ^ m) (sym (add-one k)));
      inside = omega arith;
    }

pub ended : (w e power k : ℕ) → Raising w e power k → e ≤ k → power ≡ capped (w ^ e)
ended w e power k r h = let at-end : k ≡ e = omega (arith, r.inside) in r.so_far ∙ ap (λ (m : ℕ). capped (w ^ m)) at-end
