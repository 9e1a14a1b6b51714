-- Signed numbers of 64 bits: which bits are those of 0.
use mathlib.Core.Path.{◌≡◌, refl}
use mathlib.Core.Bool.{true, false}
use Prim.Native.Nat.{zero, suc}
use native.Mathlib.Omega.{arith}
use lib.IntN.{ℤ, pos, negsuc}
use mir.Syntax.{w64}
use mir.Val.{SFits, of_z}
use Rattle.algebra.specs.Sum.{is_zero}

-- a test `c == 0` compares bits
pub zero_bits : (z : ℤ) → SFits w64 z → of_z w64 z ≡ 0 → is_zero z ≡ true
zero_bits (pos zero) f e = refl
zero_bits (pos (suc n)) f e = absurd (omega arith)
zero_bits (negsuc k) f e = absurd (omega (arith, f.sfits))

pub nonzero-bits : (z : ℤ) → (of_z w64 z ≡ 0 → ⊥) → is_zero z ≡ false
nonzero-bits (pos zero) h = absurd (h refl)
nonzero-bits (pos (suc n)) h = refl
nonzero-bits (negsuc k) h = refl
