-- Signed numbers as bytes: two's complement, low byte first.
use Rattle.std.specs.Prelude.{cond, List, [], ◌∷◌, ℕ, zero, suc, ◌+◌, ◌*◌, ◌-◌, ◌^◌, ◌/◌, ◌%◌, ltb, ℤ, pos, negsuc, ◌-ℤ◌, length}

-- a byte has 256 values
abbrev pub byte_values : ℕ
byte_values = 256

-- ---- From bytes.

-- without a sign
unfoldable pub plain_number : List ℕ → ℕ
plain_number [] = 0
plain_number (b ∷ bytes) = b + byte_values * plain_number bytes

-- k bytes say one of 256^k numbers; each of the upper half stands for itself less 256^k
unfoldable pub signed_number : List ℕ → ℤ
signed_number bytes =
    let n = plain_number bytes in
    let all = byte_values ^ length bytes in
    cond (ltb (2 * n) all) (pos n) (pos n -ℤ pos all)

-- ---- To k bytes.

unfoldable pub plain_bytes : ℕ → ℕ → List ℕ
plain_bytes zero n = []
plain_bytes (suc k) n = n % byte_values ∷ plain_bytes k (n / byte_values)

-- `negsuc m` is -(m + 1)
unfoldable pub signed_bytes : ℕ → ℤ → List ℕ
signed_bytes k (pos n) = plain_bytes k n
signed_bytes k (negsuc m) = plain_bytes k (byte_values ^ k - suc m)

-- a number of 64 bits takes so many
abbrev pub whole_bytes : ℕ
whole_bytes = 8
