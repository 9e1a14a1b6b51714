-- How many bytes the text of a sum takes.
use mathlib.Core.List.{List, [], ◌∷◌, ◌++◌}
use Prim.Native.Nat.{ℕ, zero, suc, ◌+◌, ◌*◌, ◌≤◌, ◌<◌}
use native.Mathlib.Nat.{mul-suc, mul-le-mul_left}
use native.Mathlib.Omega.{arith}
use native.Mathlib.Decide.{dec_lt}
use lib.Dec.{eqb}
use lib.IntN.{ℤ, pos, negsuc, nat_abs}
use lib.ListN.{length, length-append}
use Rattle.algebra.specs.Limits.{largest_degree, most_terms, largest_weight}
use Rattle.algebra.specs.Pattern.{Pattern, degree}
use Rattle.algebra.specs.Sum.{Term, Sum, weight}
use Rattle.algebra.specs.Accepted.{Accepted}
use Rattle.packed.proofs.Good.{Fit, weighs-light, Good, Good.none, Good.more, accepted-good}
use Rattle.text.proofs.Byte.{decide}
use Rattle.numbers.specs.Decimal.{decimal}
use Rattle.numbers.proofs.Decimals.{decimal-length}
use Rattle.spelling.specs.Spelling.{Power, powers, letter_text, power_text, more_powers, factors_text, term_text, first_sign, first_text, next_text, more_terms, sum_text}
use Rattle.spelling.specs.WriteText.{text_places}

-- a letter, ^ and at most two digits: three bytes, and one more from 10 on
power-width : (f : Power) → f.exponent ≤ largest_degree → 10 * length (power_text f) ≤ 30 + f.exponent
unfolding letter_text
power-width f low = decide (eqb f.exponent 1) (λ e. rw e (omega arith)) (λ e. rw e (go (dec_lt f.exponent 10)))
  where
    go : Dec (f.exponent < 10) → 10 * suc (suc (length (decimal f.exponent))) ≤ 30 + f.exponent
    go (yes h) = omega (arith, decimal-length 0 f.exponent (omega arith))
    go (no h) = omega (arith, decimal-length 1 f.exponent (omega arith))

powers-width : (v : ℕ) (p : Pattern) → degree p ≤ largest_degree → 10 * length (more_powers (powers v p)) ≤ 40 * length p + degree p
unfolding powers more_powers degree
powers-width v [] low = omega arith
powers-width v (zero ∷ p) low = omega (arith, powers-width (suc v) p (omega arith))
powers-width v (suc e ∷ p) low =
    let f : Power = record { variable = v; exponent = suc e } in
    omega (arith, length-append (power_text f) (more_powers (powers (suc v) p)), power-width f (omega arith), powers-width (suc v) p (omega arith))

factors-width : (c : ℕ) (fs : List Power) → c ≤ largest_weight → length (factors_text c fs) ≤ 19 + length (more_powers fs)
unfolding factors_text more_powers
factors-width c [] h = omega (arith, decimal-length 18 c (omega arith))
factors-width c (f ∷ fs) h =
    decide (eqb c 1)
    (λ e. rw e (omega arith))
    (λ e. rw e (omega (arith, length-append (decimal c) (more_powers (f ∷ fs)), decimal-length 18 c (omega arith))))

-- of one term in n variables, with its sign
abbrev most_term : ℕ → ℕ
most_term n = 26 + 4 * n

term-width : {n : ℕ} {before : Sum} (t : Term) → Fit n before t → length (term_text t) + 1 ≤ most_term n
unfolding term_text
term-width {before = before} t f =
    let light = weighs-light (weight before) t.coefficient f.light in
    omega (arith, factors-width (nat_abs t.coefficient) (powers 0 t.pattern) (omega arith), powers-width 0 t.pattern f.low, f.low, f.long)

terms-width : (n : ℕ) {before : Sum} (s : Sum) → Good n before s → length (more_terms s) ≤ most_term n * length s
unfolding more_terms next_text
terms-width n [] none = omega arith
terms-width n (t ∷ s) (more f g) =
    omega (arith, length-append (term_text t) (more_terms s), term-width t f, terms-width n s g, mul-suc (most_term n) (length s))

sign-width : (c : ℤ) → length (first_sign c) ≤ 1
unfolding first_sign
sign-width (pos n) = omega arith
sign-width (negsuc n) = omega arith

pub text-width : (n : ℕ) (s : Sum) → Accepted n s → length (sum_text s) ≤ (26 + 4 * n) * most_terms
unfolding sum_text first_text
text-width n [] a = omega arith
text-width n (t ∷ s) a = go (accepted-good n (t ∷ s) a)
  where
    go : Good n [] (t ∷ s) → length ((first_sign t.coefficient ++ term_text t) ++ more_terms s) ≤ (26 + 4 * n) * most_terms
    go (more f g) =
        omega (
          arith,
          length-append (first_sign t.coefficient ++ term_text t) (more_terms s),
          length-append (first_sign t.coefficient) (term_text t),
          sign-width t.coefficient,
          term-width t f,
          terms-width n s g,
          mul-suc (most_term n) (length s),
          mul-le-mul_left (most_term n) a.few,
        )

-- so it has room, in up to nine variables
pub text-fits : (n : ℕ) → n ≤ 9 → (s : Sum) → Accepted n s → length (sum_text s) ≤ text_places
text-fits n few s a = omega (arith, text-width n s a)
