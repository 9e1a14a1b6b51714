-- Decimal digits: the last one after those of a tenth, and how many there are.
use mathlib.Core.Path.{◌≡◌, refl, sym, ◌∙◌, ap}
use mathlib.Core.List.{List, [], ◌∷◌, ◌++◌, append_assoc}
use mathlib.Core.Bool.{true, false}
use Prim.Native.Nat.{ℕ, zero, suc, ◌+◌, ◌/◌, ◌%◌, ◌^◌, ◌≤◌, ◌<◌}
use native.Mathlib.Omega.{arith}
use native.Mathlib.Decide.{dec_lt}
use lib.IntN.{ℤ, pos, negsuc, nat_abs}
use lib.Signed.{le_z}
use lib.ListN.{length, length-append}
use borrow.Author.Tests.{lt-ltb, le-ltb}
use mir.Syntax.{w64}
use mir.Val.{SFits}
use mir.ValLaws.{to_z-of_z}
use Rattle.numbers.proofs.Signs.{held, at-pos, at-neg}
use Rattle.numbers.specs.Decimal.{minus_sign, zero_digit}
use Rattle.numbers.specs.Decimal.{digits_of, decimal, signed_decimal}
use Rattle.numbers.specs.Inside.Digits.{two_digits, four_digits}

-- ---- One digit more.

pub digits_last : (more n : ℕ) → n < 10 → digits_of more n ≡ (zero_digit + n) ∷ []
unfolding digits_of
digits_last zero n h = refl
digits_last (suc more) n h = rw (lt-ltb n 10 h)

digits-next : (more n : ℕ) → 10 ≤ n → digits_of (suc more) n ≡ digits_of more (n / 10) ++ ((zero_digit + n % 10) ∷ [])
unfolding digits_of
digits-next more n h = rw (le-ltb n 10 h)

-- more digits than there are change nothing
digits-enough : (more less n : ℕ) → n ≤ more → n ≤ less → digits_of more n ≡ digits_of less n
digits-enough zero less n h k = digits_last 0 n (omega arith) ∙ sym (digits_last less n (omega arith))
digits-enough (suc more) zero n h k = digits_last (suc more) n (omega arith) ∙ sym (digits_last 0 n (omega arith))
digits-enough (suc more) (suc less) n h k = go (dec_lt n 10) (λ j. digits-enough more less (n / 10) (omega arith) (omega arith))
  where
    go : Dec (n < 10) → (10 ≤ n → digits_of more (n / 10) ≡ digits_of less (n / 10)) → digits_of (suc more) n ≡ digits_of (suc less) n
    go (yes low) ih = digits_last (suc more) n low ∙ sym (digits_last (suc less) n low)
    go (no high) ih =
        digits-next more n (omega arith) ∙ ap (λ (l : List ℕ). l ++ ((zero_digit + n % 10) ∷ [])) (ih (omega arith)) ∙ sym (digits-next less n (omega arith))

pub decimal-last : (n : ℕ) → n < 10 → decimal n ≡ (zero_digit + n) ∷ []
unfolding decimal
decimal-last n h = digits_last n n h

pub decimal-next : (n : ℕ) → 10 ≤ n → decimal n ≡ decimal (n / 10) ++ ((zero_digit + n % 10) ∷ [])
unfolding decimal
decimal-next zero h = absurd (omega arith)
decimal-next (suc n) h =
    digits-next n (suc n) h ∙ ap (λ (l : List ℕ). l ++ ((zero_digit + suc n % 10) ∷ [])) (digits-enough n (suc n / 10) (suc n / 10) (omega arith) (omega arith))

-- ---- Two digits more, and four.

pub decimal-two : (n : ℕ) → 10 ≤ n → n < 100 → decimal n ≡ two_digits n
decimal-two n h k = decimal-next n h ∙ ap (λ (l : List ℕ). l ++ ((zero_digit + n % 10) ∷ [])) (decimal-last (n / 10) (omega arith))

pub decimal-hundred : (n : ℕ) → 100 ≤ n → decimal n ≡ decimal (n / 100) ++ two_digits (n % 100)
decimal-hundred n h =
    let rest : n / 10 / 10 ≡ n / 100 = omega arith in
    let tens : n / 10 % 10 ≡ n % 100 / 10 = omega arith in
    let ones : n % 10 ≡ n % 100 % 10 = omega arith in
    decimal-next n (omega arith)
    ∙ ap (λ (l : List ℕ). l ++ ((zero_digit + n % 10) ∷ [])) (decimal-next (n / 10) (omega arith))
    ∙ append_assoc (decimal (n / 10 / 10)) ((zero_digit + n / 10 % 10) ∷ []) ((zero_digit + n % 10) ∷ [])
    ∙ rw (rest, tens, ones)

pub decimal-myriad : (n : ℕ) → 10000 ≤ n → decimal n ≡ decimal (n / 10000) ++ four_digits (n % 10000)
decimal-myriad n h =
    let rest : n / 100 / 100 ≡ n / 10000 = omega arith in
    let high : n / 100 % 100 ≡ n % 10000 / 100 = omega arith in
    let low : n % 100 ≡ n % 10000 % 100 = omega arith in
    decimal-hundred n (omega arith)
    ∙ ap (λ (l : List ℕ). l ++ two_digits (n % 100)) (decimal-hundred (n / 100) (omega arith))
    ∙ append_assoc (decimal (n / 100 / 100)) (two_digits (n / 100 % 100)) (two_digits (n % 100))
    ∙ rw (rest, high, low)

-- so many digits are enough. (`decimal` itself computes for small numbers only, since it allows for as many digits as the number says.)
pub decimal-few : (k n : ℕ) → n < 10 ^ suc k → decimal n ≡ digits_of k n
decimal-few zero n small = decimal-last n (omega arith) ∙ sym (digits_last 0 n (omega arith))
decimal-few (suc k) n small = go (dec_lt n 10) (decimal-few k (n / 10))
  where
    go : Dec (n < 10) → (n / 10 < 10 ^ suc k → decimal (n / 10) ≡ digits_of k (n / 10)) → decimal n ≡ digits_of (suc k) n
    go (yes low) ih = decimal-last n low ∙ sym (digits_last (suc k) n low)
    go (no high) ih =
        decimal-next n (omega arith) ∙ ap (λ (l : List ℕ). l ++ ((zero_digit + n % 10) ∷ [])) (ih (omega arith)) ∙ sym (digits-next k n (omega arith))

-- ---- How many there are.

digits-length : (more k n : ℕ) → n < 10 ^ suc k → length (digits_of more n) ≤ suc k
unfolding digits_of
digits-length zero k n small = omega arith
digits-length (suc more) k n small = go (dec_lt n 10) k small (λ j h. digits-length more j (n / 10) h)
  where
    go : Dec (n < 10) → (k : ℕ) → n < 10 ^ suc k → ((j : ℕ) → n / 10 < 10 ^ suc j → length (digits_of more (n / 10)) ≤ suc j)
        → length (digits_of (suc more) n) ≤ suc k
    go (yes low) k small ih = rw (digits_last (suc more) n low) (omega arith)
    go (no high) zero small ih = absurd (omega arith)
    go (no high) (suc k) small ih =
        rw (digits-next more n (omega arith), length-append (digits_of more (n / 10)) ((zero_digit + n % 10) ∷ [])) (omega (arith, ih k (omega arith)))

-- a number below a power of ten has no more digits than its zeros
pub decimal-length : (k n : ℕ) → n < 10 ^ suc k → length (decimal n) ≤ suc k
unfolding decimal
decimal-length k n small = digits-length n k n small

pub signed-length : (k : ℕ) (z : ℤ) → nat_abs z < 10 ^ suc k → length (signed_decimal z) ≤ suc k + 1
unfolding signed_decimal
signed-length k (pos n) small = omega (arith, decimal-length k n small)
signed-length k (negsuc n) small = omega (arith, decimal-length k (suc n) small)

-- ---- Signed numbers, as the machine tests them.

module _ (z : ℤ) (f : SFits w64 z) {size : ℕ} (e : size ≡ nat_abs (held z)) where
  sized : size ≡ nat_abs z
  sized = e ∙ ap nat_abs (to_z-of_z w64 z f)

  pub signed_up : le_z (pos 0) (held z) ≡ true → signed_decimal z ≡ decimal size
  unfolding signed_decimal
  signed_up t = let u = at-pos z f t in rw u.is (ap decimal (sym (sized ∙ ap nat_abs u.is)))

  pub signed-down : le_z (pos 0) (held z) ≡ false → signed_decimal z ≡ minus_sign ∷ decimal size
  unfolding signed_decimal
  signed-down t = let d = at-neg z f t in rw d.is (ap (λ (n : ℕ). minus_sign ∷ decimal n) (sym (sized ∙ ap nat_abs d.is)))
