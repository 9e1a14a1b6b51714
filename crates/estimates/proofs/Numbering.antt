-- Numbers of two bytes each: how many they are, and which.
use mathlib.Core.Path.{◌≡◌, refl, ◌∙◌, ap, ap₂}
use mathlib.Core.List.{List, [], ◌∷◌, ◌++◌}
use Prim.Native.Nat.{ℕ, zero, suc, ◌+◌, ◌*◌, ◌<◌}
use native.Mathlib.Omega.{arith}
use lib.IntN.{ℤ, pos}
use lib.ListN.{length, get_or, length-append}
use Rattle.algebra.specs.Limits.{variables}
use Rattle.numbers.specs.Bytes.{signed_number, signed_bytes}
use Rattle.estimates.specs.Readings.{reading_bytes, two_byte_numbers, spelled}
use Rattle.numbers.proofs.Complement.{AtHome, bytes-length, signed_back}

-- half as many as there are bytes
pub numbers-length : (n : ℕ) (bytes : List ℕ) → length bytes ≡ reading_bytes n → length (two_byte_numbers bytes) ≡ n
unfolding two_byte_numbers
numbers-length n [] h = omega arith
numbers-length n (low ∷ []) h = absurd (omega arith)
numbers-length zero (low ∷ high ∷ rest) h = absurd (omega arith)
numbers-length (suc n) (low ∷ high ∷ rest) h = ap suc (numbers-length n rest (omega arith))

-- number v stands at the bytes 2v and 2v + 1
pub numbers-at : (bytes : List ℕ) (v : ℕ) → 2 * v + 1 < length bytes
    → get_or (two_byte_numbers bytes) v (pos 0) ≡ signed_number (get_or bytes (2 * v) 0 ∷ get_or bytes (2 * v + 1) 0 ∷ [])
unfolding two_byte_numbers
numbers-at [] v h = absurd (omega arith)
numbers-at (low ∷ []) v h = absurd (omega arith)
numbers-at (low ∷ high ∷ rest) zero h = refl
numbers-at (low ∷ high ∷ rest) (suc v) h =
    let even : 2 * suc v ≡ suc (suc (2 * v)) = omega arith in
    let odd : suc (suc (2 * v)) + 1 ≡ suc (suc (2 * v + 1)) = omega arith in
    rw (even, odd) (numbers-at rest v (omega arith))

-- ---- Numbers that are written and read again are the same.

pub spelled-length : (zs : List ℤ) → length (spelled zs) ≡ reading_bytes (length zs)
unfolding spelled
spelled-length [] = refl
spelled-length (z ∷ zs) = omega (arith, length-append (signed_bytes 2 z) (spelled zs), bytes-length 2 z, spelled-length zs)

-- two bytes, and what follows them
numbers-front : (bytes rest : List ℕ) → length bytes ≡ 2 → two_byte_numbers (bytes ++ rest) ≡ signed_number bytes ∷ two_byte_numbers rest
unfolding two_byte_numbers
numbers-front [] rest h = absurd (omega arith)
numbers-front (low ∷ []) rest h = absurd (omega arith)
numbers-front (low ∷ high ∷ []) rest h = refl
numbers-front (low ∷ high ∷ more ∷ bytes) rest h = absurd (omega arith)

pub numbers-back : (zs : List ℤ) → ((i : ℕ) → AtHome 2 (get_or zs i (pos 0))) → two_byte_numbers (spelled zs) ≡ zs
unfolding spelled two_byte_numbers
numbers-back [] home = refl
numbers-back (z ∷ zs) home =
    numbers-front (signed_bytes 2 z) (spelled zs) (bytes-length 2 z) ∙ ap₂ (λ (y : ℤ) (ys : List ℤ). y ∷ ys) (signed_back 2 z (home 0)) (numbers-back zs (λ i. home (suc i)))

-- ---- How many bytes, with eight variables.

pub reading-bytes-are : reading_bytes variables ≡ 16
reading-bytes-are = refl
