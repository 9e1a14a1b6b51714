-- What degree, weight and spread of a pair tell of the sum that is put and of its powers. In n variables.
use mathlib.Core.Path.{◌≡◌}
use mathlib.Core.Bool.{not}
use mathlib.Core.List.{[], ◌∷◌, append-nil}
use Prim.Native.Nat.{ℕ, zero, suc, ◌+◌, ◌*◌, ◌^◌, max, ◌≤◌, ◌<◌}
use native.Mathlib.Omega.{arith}
use native.Mathlib.Decide.{dec_lt}
use native.Mathlib.Nat.{le_trans, le-max_left, le-max_right, mul-le-mul_right}
use lib.Dec.{T}
use lib.IntN.{ℤ, pos, negsuc, nat_abs}
use lib.ListN.{length}
use Rattle.algebra.specs.Pattern.{Pattern, empty_pattern, degree, exponent, without}
use Rattle.algebra.specs.Sum.{term, Sum, is_zero, no_zero, degree_of, weight}
use Rattle.algebra.specs.Arithmetic.{one_sum, row, pairs, product_spread, power, power_spread}
use Rattle.algebra.specs.Substitute.{pair_degree, pair_weight, largest_power}
use Rattle.algebra.proofs.Patterns.Laws.{degree-times}
use Rattle.algebra.proofs.Sums.Every.{Every, pairs-every, UpTo, degree-every}
use Rattle.algebra.proofs.Sums.Ordered.{full-head, full-tail}
use Rattle.algebra.proofs.Sums.Occurs.{spread-length}
use Rattle.algebra.proofs.Sums.Results.{power-degree}
use Rattle.sums.proofs.MakeRow.{row-length}
use Rattle.sums.proofs.Raising.{spread-next}
use Rattle.pair.specs.Rows.{part_at, rows_at}
use Rattle.pair.proofs.TakingPart.{part-every}

-- a coefficient that is not 0
some : (c : ℤ) → T (not (is_zero c)) → 1 ≤ nat_abs c
some (pos zero) h = absurd h
some (pos (suc n)) h = omega arith
some (negsuc n) h = omega arith

module _ (v : ℕ) (S : Sum) where
  -- ---- The largest power.

  -- it is within the degree
  pub power-low : (s : Sum) → largest_power v s * degree_of S ≤ pair_degree v S s
  unfolding largest_power pair_degree
  power-low [] = omega arith
  power-low (t ∷ s) = go (dec_lt (exponent v t.pattern) (largest_power v s)) (power-low s)
    where
      go : Dec (exponent v t.pattern < largest_power v s) → largest_power v s * degree_of S ≤ pair_degree v S s
          → max (exponent v t.pattern) (largest_power v s) * degree_of S ≤ max (degree (without v t.pattern) + exponent v t.pattern * degree_of S) (pair_degree v S s)
      go (yes less) ih =
          let most : max (exponent v t.pattern) (largest_power v s) ≡ largest_power v s = omega arith in
          rw most (omega arith)
      go (no not-less) ih =
          let most : max (exponent v t.pattern) (largest_power v s) ≡ exponent v t.pattern = omega arith in
          rw most (omega arith)

  -- and within the weight, if there is one: a term that has it has a coefficient other than 0
  pub power-light : (s : Sum) → T (no_zero s) → 0 < largest_power v s → weight S ^ largest_power v s ≤ pair_weight v S s
  unfolding largest_power pair_weight
  power-light [] full h = absurd (omega arith)
  power-light (t ∷ s) full h = go (dec_lt (exponent v t.pattern) (largest_power v s)) (power-light s (full-tail t s full))
    where
      go : Dec (exponent v t.pattern < largest_power v s) → (0 < largest_power v s → weight S ^ largest_power v s ≤ pair_weight v S s)
          → weight S ^ max (exponent v t.pattern) (largest_power v s) ≤ nat_abs t.coefficient * weight S ^ exponent v t.pattern + pair_weight v S s
      go (yes less) ih =
          let most : max (exponent v t.pattern) (largest_power v s) ≡ largest_power v s = omega arith in
          rw most (omega (arith, ih (omega arith)))
      go (no not-less) ih =
          let most : max (exponent v t.pattern) (largest_power v s) ≡ exponent v t.pattern = omega arith in
          let own = mul-le-mul_right (weight S ^ exponent v t.pattern) (some t.coefficient (full-head t s full)) in
          rw most (omega (arith, own))

  -- ---- The rows of each power are within the degree.

  Within : ℕ → Pattern → Type 0
  Within m p = degree (without v p) + exponent v p * degree_of S ≤ m

  each_within : (m : ℕ) (s : Sum) → pair_degree v S s ≤ m → Every (Within m) s
  unfolding pair_degree Within
  each_within m [] h = tt
  each_within m (t ∷ s) h =
      let other = degree (without v t.pattern) + exponent v t.pattern * degree_of S in
      (le_trans (le-max_left other (pair_degree v S s)) h, each_within m s (le_trans (le-max_right other (pair_degree v S s)) h))

  pub rows-within : (n m k : ℕ) (s : Sum) → pair_degree v S s ≤ m → Every (UpTo m) (rows_at v k (power n S k) s)
  rows-within n m k s h =
      pairs-every Left (UpTo (k * degree_of S)) (UpTo m) (λ p q a b. omega (arith, degree-times p q)) (part_at v k s) (power n S k)
      (part-every v k Left (Within m) (λ p within is. at p k is within) s (each_within m s h)) (degree-every (k * degree_of S) (power n S k) (power-degree n S k))
    where
      -- what the power leaves for the other exponents
      Left : Pattern → Type 0
      Left p = degree p + k * degree_of S ≤ m

      at : (p : Pattern) (k : ℕ) → exponent v p ≡ k → Within m p → degree (without v p) + k * degree_of S ≤ m
      at p k is within = rw (← is) (unfold Within in within)

-- ---- One step of the powers. Its spread is judged, but for that of the first power: this is the sum itself, and has no more patterns than terms.

module _ (n : ℕ) (S : Sum) where
  unit-spread : product_spread (one_sum n) S ≤ length S
  unfolding product_spread pairs
  unit-spread =
      let u = term (pos 1) (empty_pattern n) in
      rw (append-nil (row u S)) (omega (arith, spread-length (row u S), row-length u S))

  pub step-judged : (k : ℕ) → product_spread (power n S k) S ≤ max (length S) (power_spread n S (k + 1))
  step-judged zero = unfold power in omega (arith, unit-spread)
  step-judged (suc k) = omega (arith, spread-next n S (suc k) (omega arith))

  pub step-narrow : (k : ℕ) → power_spread n S (k + 1) ≤ max (power_spread n S k) (product_spread (power n S k) S)
  step-narrow zero = unfold power_spread in omega arith
  step-narrow (suc k) = omega (arith, spread-next n S (suc k) (omega arith))
