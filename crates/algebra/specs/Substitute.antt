-- Sums put for variables, in n variables.
use Rattle.std.specs.Prelude.{List, [], ◌∷◌, ◌++◌, ℕ, zero, suc, ◌+◌, ◌*◌, ◌^◌, max, ℤ, nat_abs}
use Rattle.algebra.specs.Pattern.{Pattern, degree, exponent, without}
use Rattle.algebra.specs.Sum.{Term, term, Sum, degree_of, weight}
use Rattle.algebra.specs.Collect.{collect, spread}
use Rattle.algebra.specs.Arithmetic.{one_sum, row, ◌⊗◌, power, power_spread}
use Rattle.algebra.specs.Value.{value}

-- a row for each term: the term with only its other exponents, times each term of its factor
unfoldable pub rows : (Pattern → Pattern) → (Pattern → Sum) → Sum → List Term
rows other factor [] = []
rows other factor (t ∷ s) = row (term t.coefficient (other t.pattern)) (factor t.pattern) ++ rows other factor s

-- ---- One pair: S is put for v. The factor of a term with the power k of v is S^k.

abbrev pub pair_factor : ℕ → ℕ → Sum → Pattern → Sum
pair_factor n v S p = power n S (exponent v p)

unfoldable pub pair_rows : ℕ → ℕ → Sum → Sum → List Term
pair_rows n v S s = rows (without v) (pair_factor n v S) s

unfoldable pub substitute : ℕ → ℕ → Sum → Sum → Sum
substitute n v S s = collect (pair_rows n v S s)

-- the largest, over the terms, of the other exponents added plus k times the degree of S
unfoldable pub pair_degree : ℕ → Sum → Sum → ℕ
pair_degree v S [] = 0
pair_degree v S (t ∷ s) = max (degree (without v t.pattern) + exponent v t.pattern * degree_of S) (pair_degree v S s)

-- the sum over the terms of the absolute coefficient times the weight of S to the k
unfoldable pub pair_weight : ℕ → Sum → Sum → ℕ
pair_weight v S [] = 0
pair_weight v S (t ∷ s) = nat_abs t.coefficient * weight S ^ exponent v t.pattern + pair_weight v S s

-- the largest power of v
unfoldable pub largest_power : ℕ → Sum → ℕ
largest_power v [] = 0
largest_power v (t ∷ s) = max (exponent v t.pattern) (largest_power v s)

-- each step of S^2, S^3 up to the largest power of v; then the different patterns among all terms' products together
unfoldable pub pair_spread : ℕ → ℕ → Sum → Sum → ℕ
pair_spread n v S s = max (power_spread n S (largest_power v s)) (spread (pair_rows n v S s))

-- ---- All at once, the general case: each variable is kept, or a sum is put for it.

pub data Put : Type 0 where
  kept : Put
  put : Sum → Put

-- a pattern's other exponents: those of the variables that are kept
unfoldable pub others : List Put → Pattern → Pattern
others [] p = p
others (w ∷ ws) [] = []
others (kept ∷ ws) (e ∷ p) = e ∷ others ws p
others (put S ∷ ws) (e ∷ p) = 0 ∷ others ws p

-- the powers of the sums that are put, multiplied
unfoldable pub put_factor : ℕ → List Put → Pattern → Sum
put_factor n [] p = one_sum n
put_factor n (w ∷ ws) [] = one_sum n
put_factor n (kept ∷ ws) (e ∷ p) = put_factor n ws p
put_factor n (put S ∷ ws) (e ∷ p) = power n S e ⊗ put_factor n ws p

unfoldable pub put_all : ℕ → List Put → Sum → Sum
put_all n ws s = collect (rows (others ws) (put_factor n ws) s)

-- the values that the variables with the values x then stand for: its own if it is kept, else that of the sum put for it. y is the rest of x
unfoldable pub replaced_from : List ℤ → List Put → List ℤ → List ℤ
replaced_from x [] y = y
replaced_from x (w ∷ ws) [] = []
replaced_from x (kept ∷ ws) (a ∷ y) = a ∷ replaced_from x ws y
replaced_from x (put S ∷ ws) (a ∷ y) = value S x ∷ replaced_from x ws y

abbrev pub replaced : List Put → List ℤ → List ℤ
replaced ws x = replaced_from x ws x

-- S is put for v, and all other variables are kept
unfoldable pub only_put : ℕ → Sum → List Put
only_put zero S = put S ∷ []
only_put (suc v) S = kept ∷ only_put v S
