-- Signed numbers of 64 bits: which ones fit, and what a comparison of bits says.
use mathlib.Core.Path.{◌≡◌, ap}
use Prim.Native.Nat.{ℕ, ◌^◌, ◌<◌}
use native.Mathlib.Omega.{arith}
use lib.IntN.{ℤ, pos, negsuc, nat_abs}
use mir.Syntax.{w64}
use mir.Val.{SFits, of_z}

-- a bound on the absolute value, which omega reads, answers most needs of signed operations
pub fits-abs : (z : ℤ) → nat_abs z < 2 ^ 63 → SFits w64 z
fits-abs (pos n) h = record { sfits = h }
fits-abs (negsuc k) h = record { sfits = omega arith }

-- z has the bits of m, or has not
pub bits_are : (z : ℤ) (m : ℕ) → SFits w64 z → m < 2 ^ 63 → of_z w64 z ≡ m → z ≡ pos m
bits_are (pos n) m f small e = ap pos e
bits_are (negsuc k) m f small e = absurd (omega (arith, f.sfits))

pub bits-not : (z : ℤ) (m : ℕ) → (of_z w64 z ≡ m → ⊥) → z ≡ pos m → ⊥
bits-not z m h e = h (ap (of_z w64) e)
