-- Single bytes of a text: where they stand, which are digits, and what letters name.
use mathlib.Core.Path.{◌≡◌, refl, sym, ◌∙◌, ap}
use mathlib.Core.Bool.{Bool, true, false, ◌&&◌, true≢false}
use mathlib.Core.List.{List, ◌∷◌}
use Prim.Native.Nat.{ℕ, zero, suc, ◌+◌, ◌-◌, ◌≤◌, ◌<◌}
use native.Mathlib.Nat.{add-zero}
use native.Mathlib.Numerals.{add-one}
use native.Mathlib.Omega.{arith}
use lib.Dec.{T, leb, leb→le}
use lib.ListN.{length, drop, get_or, get_or-eq_default}
use lib.Seq.{drop-cons, get_or-drop}
use borrow.Author.Tests.{le-leb, leb-true, leb-false, lt-leb}
use Rattle.algebra.specs.Limits.{variables}
use lib.Ieee.Fits.{and_l, and_r}
use Rattle.text.specs.Signs.{zero_digit, nine_digit, is_digit}
use Rattle.text.specs.Letters.{Letter.names, Letter.nothing, letter_of, name_of}
use Rattle.text.specs.Reader.{byte_at}

-- by cases of a test
pub decide {ℓ} : {A : Type ℓ} (b : Bool) → (b ≡ true → A) → (b ≡ false → A) → A
decide true f g = f refl
decide false f g = g refl

-- ---- Where a byte stands.

-- a byte that is not 0 stands within the text
pub inside : (s : List ℕ) (i b : ℕ) → byte_at s i ≡ b → 1 ≤ b → i < length s
inside s i b e h =
    decide (leb (length s) i)
    (λ f. absurd (omega (arith, e, get_or-eq_default s 0 (leb-true (length s) i f))))
    (λ f. leb-false (length s) i f)

-- nor is a byte 0 that passes a test which 0 does not pass
module _ (test : ℕ → Bool) (none : test 0 ≡ false) where
  pub passes-some : (b : ℕ) → test b ≡ true → 1 ≤ b
  passes-some zero e = absurd (true≢false (sym e ∙ none))
  passes-some (suc b) e = omega arith

  pub passes-inside : (s : List ℕ) (i : ℕ) → test (byte_at s i) ≡ true → i < length s
  passes-inside s i e = inside s i (byte_at s i) refl (passes-some (byte_at s i) e)

-- the text from a byte on that is not 0
pub from_byte : (s : List ℕ) (i b : ℕ) → byte_at s i ≡ b → 1 ≤ b → drop i s ≡ b ∷ drop (i + 1) s
from_byte s i b e h = drop-cons s i 0 (inside s i b e h) ∙ rw (e, add-one i)

pub first_byte : (s : List ℕ) (i : ℕ) → get_or (drop i s) 0 0 ≡ byte_at s i
first_byte s i = get_or-drop i s 0 0 ∙ ap (byte_at s) (add-zero i)

-- ---- Digits.

pub digit-from : (b : ℕ) → is_digit b ≡ true → zero_digit ≤ b
unfolding is_digit
digit-from b e = leb→le zero_digit b (and_l (leb zero_digit b) (leb b nine_digit) (rw e tt))

pub digit-to : (b : ℕ) → is_digit b ≡ true → b ≤ nine_digit
unfolding is_digit
digit-to b e = leb→le b nine_digit (and_r (leb zero_digit b) (leb b nine_digit) (rw e tt))

pub digit-is : (b : ℕ) → zero_digit ≤ b → b ≤ nine_digit → is_digit b ≡ true
unfolding is_digit
digit-is b h k = rw (le-leb zero_digit b h, le-leb b nine_digit k)

pub above-digits : (b : ℕ) → nine_digit < b → is_digit b ≡ false
unfolding is_digit
above-digits b h = rw (le-leb zero_digit b (omega arith), lt-leb b nine_digit h)

-- ---- Letters.

letter-is : (b v : ℕ) → letter_of b ≡ names v → (97 ≤ b) × (b ≤ 104) × (v ≡ b - 97)
unfolding letter_of
letter-is b v e =
    decide (leb 97 b && leb b 104)
    (λ f. let both : T (leb 97 b && leb b 104) = rw f tt in
    let named : names (b - 97) ≡ names v = rw f at e in
    (leb→le 97 b (search and_l), leb→le b 104 (search and_r), cc))
    (λ f. let named : nothing ≡ names v = rw f at e in let z : ◌≡◌ {A = ℕ} 0 1 = cc in absurd (omega arith))

-- a letter is no digit, no sign of an operation but ^, and no bracket
pub letter-above : (b v : ℕ) → letter_of b ≡ names v → nine_digit < b
letter-above b v e = omega (arith, (letter-is b v e).0)

pub letter-variable : (b v : ℕ) → letter_of b ≡ names v → v < variables
letter-variable b v e = let is = letter-is b v e in omega arith

-- the byte that a variable is written as names it
pub name-names : (v : ℕ) → v < variables → letter_of (name_of v) ≡ names v
unfolding letter_of name_of
name-names v h = let is : 97 + v - 97 ≡ v = omega arith in rw (le-leb 97 (97 + v) (omega arith), le-leb (97 + v) 104 (omega arith), is)
