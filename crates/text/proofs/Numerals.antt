-- Numbers: what is read is a number, and each number that no digit follows is what is read.
use mathlib.Core.Path.{◌≡◌, refl, sym, ◌∙◌, ap, subst}
use mathlib.Core.Bool.{true, false}
use mathlib.Core.List.{List, [], ◌∷◌, append-nil}
use Prim.Native.Nat.{ℕ, zero, suc, ◌+◌, ◌-◌, ◌*◌, ◌/◌, ◌%◌, ◌≤◌, ◌<◌}
use native.Mathlib.Omega.{arith}
use native.Mathlib.Decide.{dec_lt}
use lib.ListN.{length, drop, get_or}
use lib.Seq.{drop-drop}
use Rattle.numbers.specs.Decimal.{decimal}
use Rattle.numbers.proofs.Decimals.{decimal-last, decimal-next}
use Rattle.text.specs.Signs.{zero_digit, is_digit}
use Rattle.text.specs.Grammar.{Numeral, Numeral.digit, Numeral.longer}
use Rattle.text.specs.Reader.{Digits, byte_at, takes, more_digits, digits_at}
use Rattle.text.proofs.Byte.{decide, digit-from, digit-to, digit-is, first_byte}
use Rattle.text.proofs.Digits.{only-digits, Takes, takes-says, takes-is, more-takes, more-stops, more-ahead, digits-ahead}
use Rattle.text.proofs.Words.{WordAt, stands-byte, stands-then, stands-front, stands-back, stands-first, Agree}
use Rattle.text.proofs.Parts.{Begun, here, after}

module _ (top : ℕ) where
  -- ---- What is read is a number.

  module _ (s : List ℕ) where
    more-begun : (l : List ℕ) (i y v : ℕ) (w : List ℕ) → drop y s ≡ l → WordAt s i y w → Numeral top w v
        → let n = more_digits top v y l in Begun (λ u. Numeral top u n.value) s i n.next []
    unfolding more_digits
    more-begun [] i y v w e a d = after a (here (rw append-nil d))
    more-begun (b ∷ rest) i y v w e a d =
        decide (takes top v b)
        (λ f. let t = takes-says top v b f in
        let at : byte_at s y ≡ zero_digit + (b - zero_digit) = omega (arith, first_byte s y, ap (λ l. get_or l 0 0) e, digit-from b t.digit) in
        rw f (more-begun rest i (y + 1) (v * 10 + (b - zero_digit)) _ (sym (drop-drop 1 y s) ∙ rw e)
        (stands-then a (stands-byte at (omega arith))) (longer d t.some (omega (arith, digit-to b t.digit)) t.within)))
        (λ f. rw f (after a (here (rw append-nil d))))

    pub digits-begun : (i : ℕ) → is_digit (byte_at s i) ≡ true → let n = digits_at top s i in Begun (λ w. Numeral top w n.value) s i n.next []
    unfolding digits_at
    digits-begun i e =
        let at : byte_at s i ≡ zero_digit + (byte_at s i - zero_digit) = omega (arith, digit-from (byte_at s i) e) in
        more-begun (drop (i + 1) s) i (i + 1) (byte_at s i - zero_digit) _ refl
        (stands-byte at (omega arith)) (digit (omega (arith, digit-to (byte_at s i) e)))

  -- ---- Each number is what is read.

  pub numeral-within : {w : List ℕ} {v : ℕ} → 9 ≤ top → Numeral top w v → v ≤ top
  numeral-within h (digit k) = omega arith
  numeral-within h (longer n k d within) = within

  -- a number begins with a digit
  pub numeral-first : {r : List ℕ} {i y v : ℕ} {w : List ℕ} → Numeral top w v → WordAt r i y w → is_digit (byte_at r i) ≡ true
  numeral-first (digit {d = d} h) a = rw (stands-first a) (digit-is (zero_digit + d) (omega arith) (omega arith))
  numeral-first {i = i} {y = y} (longer {w = w} {d = d} n h k l) a = numeral-first {y = i + length w} n (stands-front i w ((zero_digit + d) ∷ []) a)

  -- of r, and of s too
  module _ (s r : List ℕ) where
    digits-so-far : {i y v : ℕ} {w : List ℕ} → Numeral top w v → WordAt r i y w → Agree (digits_at top s i).next s r
        → digits_at top s i ≡ more_digits top v y (drop y s)
    unfolding digits_at
    digits-so-far {i} (digit {d = d} h) a agree =
        let value : byte_at s i - zero_digit ≡ d = omega (arith, agree i (omega (arith, digits-ahead top s i)), stands-first a) in
        rw (a.end, value)
    digits-so-far {i} {y = y} (longer {w = w} {v = v} {d = d} n h k l) a agree =
        let x : ℕ = i + length w in
        let back = stands-back i w ((zero_digit + d) ∷ []) a in
        let so_far = digits-so-far {y = i + length w} n (stands-front i w ((zero_digit + d) ∷ []) a) agree in
        let at = agree x (omega (arith, ap (λ (m : Digits). m.next) so_far, more-ahead top v x (drop x s))) ∙ stands-first back in
        let value : zero_digit + d - zero_digit ≡ d = omega arith in
        let t : Takes top v (zero_digit + d) = record { some = h; digit = digit-is (zero_digit + d) (omega arith) (omega arith); within = rw value l } in
        so_far ∙ more-takes top s v x (rw at (takes-is top v (zero_digit + d) t)) ∙ rw (at, value, back.end)

    pub digits-only : {i y v : ℕ} {w : List ℕ} → Numeral top w v → WordAt r i y w → Agree (digits_at top s i).next s r → is_digit (byte_at r y) ≡ false
        → digits_at top s i ≡ record { value = v; next = y }
    digits-only {y = y} {v = v} n a agree e =
        let so_far = digits-so-far n a agree in
        let none = agree y (omega (arith, ap (λ (m : Digits). m.next) so_far, more-ahead top v y (drop y s))) in
        so_far ∙ more-stops top s v y (sym (only-digits top v (byte_at s y) (ap is_digit none ∙ e)))

  -- ---- Decimal digits are a number.

  -- (`most` bounds the number: it ends the recursion)
  numeral-below : (most n : ℕ) → n ≤ most → n ≤ top → Numeral top (decimal n) n
  numeral-below zero n h k = rw (decimal-last n (omega arith)) (digit {d = n} (omega arith))
  numeral-below (suc most) n h k = go (dec_lt n 10) (λ high. numeral-below most (n / 10) (omega arith) (omega arith))
    where
      go : Dec (n < 10) → (10 ≤ n → Numeral top (decimal (n / 10)) (n / 10)) → Numeral top (decimal n) n
      go (yes low) ih = rw (decimal-last n low) (digit {d = n} (omega arith))
      go (no high) ih =
          let is : n / 10 * 10 + n % 10 ≡ n = omega arith in
          rw (decimal-next n (omega arith)) (subst (Numeral top _) is (longer {d = n % 10} (ih (omega arith)) (omega arith) (omega arith) (omega arith)))

  pub decimal-numeral : (n : ℕ) → n ≤ top → Numeral top (decimal n) n
  decimal-numeral n h = numeral-below n n (omega arith) h
