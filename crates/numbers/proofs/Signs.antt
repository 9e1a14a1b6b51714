-- Signed numbers of 64 bits: what a test against 0 says of one, and what -k - 1 comes to.
use mathlib.Core.Path.{◌≡◌, refl, sym, ap, ◌∙◌}
use mathlib.Core.Bool.{true, false}
use Prim.Native.Nat.{ℕ, zero, suc, ◌^◌, ◌<◌}
use native.Mathlib.Omega.{arith}
use lib.IntN.{ℤ, pos, negsuc, neg_ℤ, nat_abs, ◌-ℤ◌, +ℤ_idl}
use lib.Signed.{le_z}
use borrow.Author.Tests.{leb-false}
use mir.Syntax.{w64}
use mir.Val.{SFits, of_z, to_z}
use mir.ValLaws.{to_z-of_z, to_z_pos}
use Rattle.answers.proofs.Signed.{fits-abs}

-- ---- Ranges.

-- -k
minus-abs : (k : ℕ) → nat_abs (neg_ℤ (pos k)) ≡ k
minus-abs zero = refl
minus-abs (suc k) = refl

minus_fits : (k : ℕ) → k < 2 ^ 63 → SFits w64 (neg_ℤ (pos k))
minus_fits k h = fits-abs (neg_ℤ (pos k)) (rw (minus-abs k) h)

-- a number as 64 bits hold it
abbrev pub held : ℤ → ℤ
held z = to_z w64 (of_z w64 z)

-- ---- Where a test 0 ≤ z held, and where it did not.

pub record Up (z : ℤ) : Type 0 where
  pub n : ℕ
  pub small : n < 2 ^ 63
  pub is : z ≡ pos n
  pub bits : held z ≡ pos n

pub at-pos : (z : ℤ) → SFits w64 z → le_z (pos 0) (held z) ≡ true → Up z
at-pos (pos n) f t = record { n = n; small = f.sfits; is = refl; bits = to_z-of_z w64 (pos n) f }
at-pos (negsuc k) f t = absurd (never (sym (ap (le_z (pos 0)) (to_z-of_z w64 (negsuc k) f)) ∙ t))
  where
    never : false ≡ true → ⊥
    never e = let z : ◌≡◌ {A = ℕ} 0 1 = cc in omega arith

pub record Down (z : ℤ) : Type 0 where
  pub k : ℕ
  pub small : k < 2 ^ 63
  pub is : z ≡ negsuc k
  pub bits : held z ≡ negsuc k

pub at-neg : (z : ℤ) → SFits w64 z → le_z (pos 0) (held z) ≡ false → Down z
at-neg (pos n) f t =
    let low : n < 0 = leb-false 0 n (sym (ap (le_z (pos 0)) (to_z-of_z w64 (pos n) f)) ∙ t) in
    absurd (omega arith)
at-neg (negsuc k) f t = record { k = k; small = f.sfits; is = refl; bits = to_z-of_z w64 (negsuc k) f }

-- ---- -k - 1.

minus_one : (k : ℕ) → neg_ℤ (pos k) -ℤ pos 1 ≡ negsuc k
minus_one zero = +ℤ_idl (negsuc 0)
minus_one (suc k) = ap negsuc (omega arith)

module _ (k : ℕ) (small : k < 2 ^ 63) where
  minus : pos 0 -ℤ to_z w64 k ≡ neg_ℤ (pos k)
  minus = rw (to_z_pos w64 k small) (+ℤ_idl (neg_ℤ (pos k)))

  step : held (pos 0 -ℤ to_z w64 k) -ℤ pos 1 ≡ negsuc k
  step = rw (minus, to_z-of_z w64 (neg_ℤ (pos k)) (minus_fits k small)) (minus_one k)

  negative_fits : SFits w64 (negsuc k)
  negative_fits = record { sfits = small }

  pub below : held (held (pos 0 -ℤ to_z w64 k) -ℤ pos 1) ≡ negsuc k
  below = rw step (to_z-of_z w64 (negsuc k) negative_fits)
