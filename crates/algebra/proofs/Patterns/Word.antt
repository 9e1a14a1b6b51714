-- The laws of the layout, a byte for each of the eight variables. What needs a law of `word` or `exponents` finds it here, and opens neither.
use mathlib.Core.Path.{◌≡◌, refl, sym, ◌∙◌, ap, ap₂, subst}
use mathlib.Core.List.{[]}
use Prim.Native.Nat.{ℕ, suc, ◌+◌, ◌*◌, ◌^◌, ◌/◌, ◌%◌, ◌-◌, ◌≤◌, ◌<◌, compare}
use native.Mathlib.Omega.{arith}
use borrow.Author.Tests.{eq-eqb}
use lib.Dec.{T, eqb, leb, eqb→eq, leb→le, le→leb}
use lib.ListN.{length, set, length-set}
use lib.Pow.{shl_exact}
use lib.Seq.{set-get_or}
use Rattle.algebra.specs.Limits.{variables, largest_degree}
use Rattle.algebra.specs.Pattern.{Pattern, empty_pattern, times, degree, exponent, lowered, without, then_by, order}
use Rattle.algebra.specs.Word.{field_size, word, exponents, is_valid, Valid}
use lib.Ieee.Fits.{and_i, and_l, and_r}
use Rattle.algebra.proofs.Patterns.Laws.{times-length, degree-times, empty-degree, alone-length, without-times, without-degree}
use Rattle.algebra.proofs.Patterns.Fields.{Below, below-degree, fields-below, fields-length, word_lt, word-most, fields-word, word-fields-lt, field_at, place-bits, word-zero, word-alone, word-times, word-degree, order-word, word-lowered}

-- ---- There and back.

pub exponents-length : (w : ℕ) → length (exponents w) ≡ variables
unfolding exponents
exponents-length w = fields-length field_size variables w

pub word-empty : word (empty_pattern variables) ≡ 0
unfolding word
word-empty = word-zero field_size variables

-- each word of 64 bits is the word of its exponents
pub word-exponents : (w : ℕ) → w < 2 ^ 64 → word (exponents w) ≡ w
unfolding word exponents
word-exponents w h = word-fields-lt field_size variables w (omega arith) h

-- any eight bytes are the exponents of their word
pub exponents-bytes : (p : Pattern) → length p ≡ variables → Below field_size p → exponents (word p) ≡ p
unfolding word exponents
exponents-bytes p long low = rw long at (fields-word {p = p} (omega arith) low)

module _ (p : Pattern) (long : length p ≡ variables) (low : degree p ≤ largest_degree) where
  pub word_small : word p < 2 ^ 64
  unfolding word
  word_small = rw long at (word_lt (below-degree field_size p (omega arith)))

  pub exponents-word : exponents (word p) ≡ p
  exponents-word = exponents-bytes p long (below-degree field_size p (omega arith))

  -- a pattern within the limits has a valid word
  pub word-valid : Valid (word p)
  word-valid = record { is = ap word exponents-word; low = rw exponents-word low }

pub empty-valid : Valid 0
empty-valid = rw word-empty at (word-valid (empty_pattern variables) refl (omega (arith, empty-degree variables)))

-- the test and the statement say the same, and of a word of 64 bits the degree decides
pub valid-test : (w : ℕ) → Valid w → T (is_valid w)
unfolding is_valid
valid-test w a =
    and_i (eqb (word (exponents w)) w) (leb (degree (exponents w)) largest_degree)
    (rw (eq-eqb (word (exponents w)) w a.is) tt) (le→leb (degree (exponents w)) largest_degree a.low)

pub test-valid : (w : ℕ) → T (is_valid w) → Valid w
unfolding is_valid
test-valid w h = record {
  is = eqb→eq (word (exponents w)) w (and_l (eqb (word (exponents w)) w) (leb (degree (exponents w)) largest_degree) h);
  low = leb→le (degree (exponents w)) largest_degree (and_r (eqb (word (exponents w)) w) (leb (degree (exponents w)) largest_degree) h);
}

pub low-decides : (w : ℕ) → w < 2 ^ 64 → is_valid w ≡ leb (degree (exponents w)) largest_degree
unfolding is_valid
low-decides w small = rw (eq-eqb (word (exponents w)) w (word-exponents w small))

-- the exponents tell two valid words apart
pub valid-one : (v w : ℕ) → Valid v → Valid w → exponents v ≡ exponents w → v ≡ w
valid-one v w a b h = sym a.is ∙ ap word h ∙ b.is

-- ---- The operations of one machine word.

module _ (w : ℕ) (valid : Valid w) where
  pub valid-small : w < 2 ^ 64
  valid-small = subst (λ (k : ℕ). k < 2 ^ 64) valid.is (word_small (exponents w) (exponents-length w) valid.low)

  pub valid-degree : w % (field_size - 1) ≡ degree (exponents w)
  unfolding word
  valid-degree = ap (λ (k : ℕ). k % (field_size - 1)) (sym valid.is) ∙ word-degree (field_size - 1) (exponents w) (omega (arith, valid.low))

  -- a pattern of degree d has no larger word than the power d of a
  pub valid-most : w ≤ degree (exponents w) * 2 ^ 56
  unfolding word
  valid-most =
      let most = word-most field_size (omega arith) 7 (exponents w) (omega (arith, exponents-length w)) in
      omega (arith, most, valid.is)

  pub quotient-small : w / (field_size - 1) < 2 ^ 56
  quotient-small = omega (arith, valid-most, valid.low)

module _ (v w : ℕ) (a : Valid v) (b : Valid w) where
  -- the product's word is the words' sum
  pub word-product : word (times (exponents v) (exponents w)) ≡ v + w
  unfolding word
  word-product =
      word-times field_size (exponents v) (exponents w) (exponents-length v ∙ sym (exponents-length w)) ∙ ap₂ ◌+◌ a.is b.is

  pub product-valid : degree (exponents v) + degree (exponents w) ≤ largest_degree → Valid (word (times (exponents v) (exponents w)))
  product-valid h =
      word-valid (times (exponents v) (exponents w))
      (times-length variables (exponents v) (exponents w) (exponents-length v) (exponents-length w))
      (omega (arith, degree-times (exponents v) (exponents w)))

  pub product_small : degree (exponents v) + degree (exponents w) ≤ largest_degree → v + w < 2 ^ 64
  product_small h = subst (λ (k : ℕ). k < 2 ^ 64) word-product (valid-small (word (times (exponents v) (exponents w))) (product-valid h))

  -- the larger degree first, then the larger word
  pub word-order : order (exponents v) (exponents w) ≡ then_by (compare (degree (exponents w)) (degree (exponents v))) (compare w v)
  unfolding word exponents
  word-order =
      order-word (fields-below field_size variables v (omega arith)) (fields-below field_size variables w (omega arith)) (exponents-length v ∙ sym (exponents-length w))
      ∙ ap (then_by (compare (degree (exponents w)) (degree (exponents v)))) (ap₂ compare b.is a.is)

-- ---- One variable. Its exponent and the value of its place are reached by shifts.

-- the bits below the byte of v
abbrev pub bits_below : ℕ → ℕ
bits_below v = 8 * (variables - 1 - v)

place : (v : ℕ) → v < variables → field_size ^ (variables - suc v) ≡ 2 ^ bits_below v
place v h = place-bits 8 (variables - suc v) ∙ ap (λ (k : ℕ). 2 ^ k) (omega arith)

-- a shift of 1 by these bits loses nothing
pub one_shifted : (v k : ℕ) → v < variables → k ≡ bits_below v → 1 * 2 ^ k % 2 ^ 64 ≡ 2 ^ bits_below v
one_shifted v k h e = shl_exact {a = 1} 1 k 64 (omega arith) (omega arith) ∙ ap (λ (i : ℕ). 1 * 2 ^ i) e ∙ omega arith

-- the power e of v alone is e shifted by these bits
pub alone-shifted : (v e k : ℕ) → v < variables → e ≤ largest_degree → k ≡ bits_below v → e * 2 ^ k % 2 ^ 64 ≡ word (set (empty_pattern variables) v e)
unfolding word
alone-shifted v e k h low bits =
    shl_exact {a = e} 6 k 64 (omega arith) (omega arith)
    ∙ ap (λ (i : ℕ). e * i) (ap (λ (i : ℕ). 2 ^ i) bits ∙ sym (place v h))
    ∙ sym (word-alone field_size variables v e h)

module _ (w v : ℕ) (inside : v < variables) where
  pub exponent-bits : exponent v (exponents w) ≡ w / 2 ^ bits_below v % field_size
  unfolding exponents
  exponent-bits = rw (← place v inside) (field_at field_size variables w v inside)

  -- one power less takes the value of one place away
  pub lowered-some : Valid w → 0 < exponent v (exponents w) → word (lowered v (exponents w)) + 2 ^ bits_below v ≡ w
  unfolding word
  lowered-some a h =
      rw (exponents-length w, a.is, place v inside) at (word-lowered field_size (exponents w) v (rw (exponents-length w) inside) h)

  -- where there is no power the word stays
  pub lowered_none : Valid w → exponent v (exponents w) ≡ 0 → word (lowered v (exponents w)) ≡ w
  lowered_none a h =
      let stays : exponent v (exponents w) - 1 ≡ exponent v (exponents w) = omega arith in
      ap (λ (e : ℕ). word (set (exponents w) v e)) stays ∙ ap word (set-get_or (exponents w) v 0) ∙ a.is

  pub without-valid : Valid w → Valid (word (without v (exponents w)))
  without-valid a =
      word-valid (without v (exponents w)) (length-set (exponents w) v 0 ∙ exponents-length w) (omega (arith, a.low, without-degree v (exponents w)))

  -- no power takes the value of v's power alone away
  pub without-word : Valid w → word (without v (exponents w)) + word (set (empty_pattern variables) v (exponent v (exponents w))) ≡ w
  unfolding word
  without-word a =
      let long = exponents-length w in
      let alone = set (empty_pattern variables) v (exponent v (exponents w)) in
      let alike = length-set (exponents w) v 0 ∙ long ∙ sym (alone-length variables v (exponent v (exponents w))) in
      sym (word-times field_size (without v (exponents w)) alone alike) ∙ ap word (without-times variables v (exponents w) long inside) ∙ a.is
