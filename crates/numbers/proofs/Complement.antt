-- Two's complement, low byte first: to k bytes and back, and from bytes and back.
use mathlib.Core.Path.{◌≡◌, refl, sym, ap, ap₂, ◌∙◌}
use mathlib.Core.List.{List, [], ◌∷◌}
use Prim.Native.Nat.{ℕ, zero, suc, ◌+◌, ◌*◌, ◌-◌, ◌^◌, ◌/◌, ◌%◌, ◌≤◌, ◌<◌}
use native.Mathlib.Omega.{arith}
use native.Mathlib.Nat.{pow-suc, div-div-eq-div-mul}
use native.Mathlib.Decide.{dec_lt}
use lib.IntN.{ℤ, pos, negsuc, nat_abs, ◌-ℤ◌}
use lib.ListN.{length, get_or}
use borrow.Author.Tests.{lt-ltb, le-ltb}
use mir.Syntax.{w64}
use mir.Val.{of_z}
use Rattle.std.specs.Int.{byte_at, bytes_low_first, to_le_bytes}
use Rattle.numbers.specs.Bytes.{byte_values, whole_bytes, plain_number, signed_number, plain_bytes, signed_bytes}

-- each of them is a byte
abbrev pub Bytes : List ℕ → Type 0
Bytes bytes = (i : ℕ) → get_or bytes i 0 < byte_values

-- ---- Without a sign.

pub plain-length : (k n : ℕ) → length (plain_bytes k n) ≡ k
unfolding plain_bytes
plain-length zero n = refl
plain-length (suc k) n = ap suc (plain-length k (n / byte_values))

-- std's byte i of a number
pub byte-at : (i n : ℕ) → byte_at i n ≡ n / byte_values ^ i % byte_values
byte-at zero n = omega arith
byte-at (suc i) n = refl

-- std's bytes, from byte i on, are those of the number without its i lowest bytes
bytes-from : (i k n : ℕ) → bytes_low_first i k n ≡ plain_bytes k (n / byte_values ^ i)
unfolding plain_bytes
bytes-from i zero n = refl
bytes-from i (suc k) n =
    let next : n / byte_values ^ suc i ≡ n / byte_values ^ i / byte_values =
    ap (λ (m : ℕ). n / m) (pow-suc byte_values i) ∙ sym (div-div-eq-div-mul n (byte_values ^ i) byte_values) in
    ap₂ (λ (b : ℕ) (r : List ℕ). b ∷ r) (byte-at i n) (bytes-from (suc i) k n ∙ ap (plain_bytes k) next)

-- those of a number of 64 bits
pub whole-bytes : (z : ℤ) → to_le_bytes w64 (of_z w64 z) ≡ signed_bytes whole_bytes z
unfolding signed_bytes
whole-bytes (pos n) = let all : n / byte_values ^ 0 ≡ n = omega arith in bytes-from 0 whole_bytes n ∙ ap (plain_bytes whole_bytes) all
whole-bytes (negsuc m) =
    let n = byte_values ^ whole_bytes - suc m in
    let all : n / byte_values ^ 0 ≡ n = omega arith in
    bytes-from 0 whole_bytes n ∙ ap (plain_bytes whole_bytes) all

plain_size : (k n : ℕ) → byte_values ^ length (plain_bytes k n) ≡ byte_values ^ k
plain_size k n = ap (λ (i : ℕ). byte_values ^ i) (plain-length k n)

-- k bytes say again what was written to them, if it is below 256^k
plain_back : (k n : ℕ) → n < byte_values ^ k → plain_number (plain_bytes k n) ≡ n
unfolding plain_number plain_bytes
plain_back zero n h = omega arith
plain_back (suc k) n h =
    let all = pow-suc byte_values k in
    omega (arith, plain_back k (n / byte_values) (omega arith))

plain-below : (bytes : List ℕ) → Bytes bytes → plain_number bytes < byte_values ^ length bytes
unfolding plain_number
plain-below [] are = omega arith
plain-below (b ∷ bytes) are = omega (arith, are 0, pow-suc byte_values (length bytes), plain-below bytes (λ i. are (suc i)))

-- and are written again as they were read
plain-again : (bytes : List ℕ) → Bytes bytes → plain_bytes (length bytes) (plain_number bytes) ≡ bytes
unfolding plain_number plain_bytes
plain-again [] are = refl
plain-again (b ∷ bytes) are =
    let n = plain_number bytes in
    let first : (b + byte_values * n) % byte_values ≡ b = omega (arith, are 0) in
    let rest : (b + byte_values * n) / byte_values ≡ n = omega (arith, are 0) in
    rw (first, rest, plain-again bytes (λ i. are (suc i)))

-- ---- The lower half stands for itself, and the upper one for negative numbers.

pub minus : (n all : ℕ) → n < all → pos n -ℤ pos all ≡ negsuc (all - suc n)
minus n zero h = absurd (omega arith)
minus n (suc all) h = rw (lt-ltb n (suc all) h)

module _ (bytes : List ℕ) {n all : ℕ} (is : plain_number bytes ≡ n) (size : byte_values ^ length bytes ≡ all) where
  pub lower : 2 * n < all → signed_number bytes ≡ pos n
  unfolding signed_number
  lower h = rw (is, size, lt-ltb (2 * n) all h)

  pub upper : all ≤ 2 * n → n < all → signed_number bytes ≡ negsuc (all - suc n)
  unfolding signed_number
  upper h below = rw (is, size, le-ltb (2 * n) all h) (minus n all below)

-- ---- To k bytes.

pub bytes-length : (k : ℕ) (z : ℤ) → length (signed_bytes k z) ≡ k
unfolding signed_bytes
bytes-length k (pos n) = plain-length k n
bytes-length k (negsuc m) = plain-length k (byte_values ^ k - suc m)

-- k bytes have room for the number
abbrev pub AtHome : ℕ → ℤ → Type 0
AtHome k (pos n) = 2 * n < byte_values ^ k
AtHome k (negsuc m) = 2 * suc m ≤ byte_values ^ k

pub small-home : (k : ℕ) (z : ℤ) → nat_abs z * 2 < byte_values ^ k → AtHome k z
small-home k (pos n) h = omega arith
small-home k (negsuc m) h = omega arith

-- a number at home comes back
pub signed_back : (k : ℕ) (z : ℤ) → AtHome k z → signed_number (signed_bytes k z) ≡ z
unfolding signed_bytes
signed_back k (pos n) h = lower (plain_bytes k n) (plain_back k n (omega arith)) (plain_size k n) h
signed_back k (negsuc m) h =
    let n = byte_values ^ k - suc m in
    let is : byte_values ^ k - suc n ≡ m = omega arith in
    upper (plain_bytes k n) (plain_back k n (omega arith)) (plain_size k n) (omega arith) (omega arith) ∙ ap negsuc is

-- ---- From bytes.

module _ (bytes : List ℕ) (are : Bytes bytes) where
  -- what they say, and how many things as many bytes can say
  abbrev n : ℕ
  n = plain_number bytes

  abbrev all : ℕ
  all = byte_values ^ length bytes

  by-half : (P : ℤ → Type 0) → (2 * n < all → P (pos n)) → (all ≤ 2 * n → n < all → P (negsuc (all - suc n))) → P (signed_number bytes)
  by-half P low high = go (dec_lt (2 * n) all)
    where
      go : Dec (2 * n < all) → P (signed_number bytes)
      go (yes h) = rw (lower bytes refl refl h) (low h)
      go (no h) =
          let up : all ≤ 2 * n = omega arith in
          let below = plain-below bytes are in
          rw (upper bytes refl refl up below) (high up below)

  -- bytes come back
  pub bytes_back : signed_bytes (length bytes) (signed_number bytes) ≡ bytes
  unfolding signed_bytes
  bytes_back =
      by-half (λ z. signed_bytes (length bytes) z ≡ bytes)
      (λ h. plain-again bytes are)
      (λ up below. let is : all - suc (all - suc n) ≡ n = omega arith in ap (plain_bytes (length bytes)) is ∙ plain-again bytes are)
