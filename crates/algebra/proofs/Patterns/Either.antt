-- The bits of either of two patterns: in a word they are the bits of either word, and no exponent is less than those of both.
use mathlib.Core.Path.{◌≡◌, refl, sym, ◌∙◌, ap, ap₂}
use mathlib.Core.List.{[], ◌∷◌}
use Prim.Native.Nat.{ℕ, zero, suc, ◌*◌, ◌^◌, ◌≤◌, ◌<◌}
use native.Mathlib.Omega.{arith}
use lib.Bits.{bit_or, or_lt, or_block, or_add_and, and_le_l, and_le_r}
use lib.ListN.{length}
use Rattle.algebra.specs.Limits.{variables}
use Rattle.algebra.specs.Pattern.{Pattern, exponent}
use Rattle.algebra.specs.Inside.Either.{either}
use Rattle.algebra.specs.Word.{field_size, word_of, word, exponents}
use Rattle.algebra.proofs.Patterns.Fields.{Below, Below.none, Below.more, fields-below, word_lt, place-bits}
use Rattle.algebra.proofs.Patterns.Word.{exponents-length, word-exponents, exponents-bytes}

either-length : (p q : Pattern) → length p ≡ length q → length (either p q) ≡ length p
unfolding either
either-length [] [] h = refl
either-length [] (f ∷ q) h = absurd (omega arith)
either-length (e ∷ p) [] h = refl
either-length (e ∷ p) (f ∷ q) h = ap suc (either-length p q (omega arith))

either-below : {p q : Pattern} → Below field_size p → Below field_size q → Below field_size (either p q)
unfolding either
either-below none low = low
either-below (more h low) none = more h low
either-below (more {e} h low) (more {e = f} k low') = more (or_lt 8 e f h k) (either-below low low')

-- byte by byte
either-word : {p q : Pattern} → Below field_size p → Below field_size q → length p ≡ length q → bit_or (word_of field_size p) (word_of field_size q) ≡ word_of field_size (either p q)
unfolding word_of either
either-word none none long = refl
either-word none (more h low) long = absurd (omega arith)
either-word (more h low) none long = absurd (omega arith)
either-word (more {e} {p} h low) (more {e = f} {p = q} k low') long =
    let n = length p in
    let same : length q ≡ n = omega (arith, long) in
    let place : field_size ^ n ≡ 2 ^ (8 * n) = place-bits 8 n in
    let r : word_of field_size p < 2 ^ (8 * n) = rw (← place) (word_lt low) in
    let s : word_of field_size q < 2 ^ (8 * n) = rw (← place, ← same) (word_lt low') in
    rw (same, either-length p q (sym same), place, or_block (8 * n) e f (word_of field_size p) (word_of field_size q) r s, either-word low low' (sym same))

-- ---- No exponent is less.

number-no-less : (e f : ℕ) → (e ≤ bit_or e f) × (f ≤ bit_or e f)
number-no-less e f = (omega (arith, or_add_and e f, and_le_r e f), omega (arith, or_add_and e f, and_le_l e f))

no_less : (i : ℕ) (p q : Pattern) → (exponent i p ≤ exponent i (either p q)) × (exponent i q ≤ exponent i (either p q))
unfolding either
no_less i [] q = (omega arith, omega arith)
no_less i (e ∷ p) [] = (omega arith, omega arith)
no_less zero (e ∷ p) (f ∷ q) = number-no-less e f
no_less (suc i) (e ∷ p) (f ∷ q) = no_less i p q

-- ---- Words of 64 bits.

module _ (v w : ℕ) where
  bytes : (w : ℕ) → Below field_size (exponents w)
  unfolding exponents
  bytes w = fields-below field_size variables w (omega arith)

  alike : length (exponents v) ≡ length (exponents w)
  alike = exponents-length v ∙ sym (exponents-length w)

  pub word-either : v < 2 ^ 64 → w < 2 ^ 64 → bit_or v w ≡ word (either (exponents v) (exponents w))
  unfolding word
  word-either small small' =
      ap₂ bit_or (sym (word-exponents v small)) (sym (word-exponents w small')) ∙ either-word (bytes v) (bytes w) alike

  exponents-either : exponents (word (either (exponents v) (exponents w))) ≡ either (exponents v) (exponents w)
  exponents-either = exponents-bytes _ (either-length (exponents v) (exponents w) alike ∙ exponents-length v) (either-below (bytes v) (bytes w))

  pub either_first : (i : ℕ) → exponent i (exponents v) ≤ exponent i (exponents (word (either (exponents v) (exponents w))))
  either_first i = rw exponents-either (no_less i (exponents v) (exponents w)).0

  pub either_second : (i : ℕ) → exponent i (exponents w) ≤ exponent i (exponents (word (either (exponents v) (exponents w))))
  either_second i = rw exponents-either (no_less i (exponents v) (exponents w)).1
