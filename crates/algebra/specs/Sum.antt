-- Terms and sums: what an ordered sum is, its degree and its weight.
use Rattle.std.specs.Prelude.{Bool, true, false, not, ◌&&◌, List, [], ◌∷◌, eqb, ℤ, pos, negsuc, nat_abs, length}
use Prim.Native.Nat.{ℕ, zero, suc, ◌+◌, max, Ordering}
use Rattle.algebra.specs.Pattern.{Pattern, degree, order}

pub record Term : Type 0 where
  pub coefficient : ℤ
  pub pattern : Pattern

abbrev pub term : ℤ → Pattern → Term
term c p = record { coefficient = c; pattern = p }

-- a sum is the list of its terms; the zero sum has none
abbrev pub Sum : Type 0
Sum = List Term

abbrev pub is_zero : ℤ → Bool
is_zero (pos zero) = true
is_zero (pos (suc n)) = false
is_zero (negsuc n) = false

abbrev pub is_before : Ordering → Bool
is_before Ordering.lt = true
is_before Ordering.eq = false
is_before Ordering.gt = false

-- p stands before the first term of s
unfoldable pub ahead : Pattern → Sum → Bool
ahead p [] = true
ahead p (t ∷ s) = is_before (order p t.pattern)

-- each term stands before the next: no pattern stands twice
unfoldable pub in_order : Sum → Bool
in_order [] = true
in_order (t ∷ s) = ahead t.pattern s && in_order s

unfoldable pub no_zero : Sum → Bool
no_zero [] = true
no_zero (t ∷ s) = not (is_zero t.coefficient) && no_zero s

-- each pattern has n exponents
unfoldable pub in_variables : ℕ → Sum → Bool
in_variables n [] = true
in_variables n (t ∷ s) = eqb (length t.pattern) n && in_variables n s

-- an ordered sum in n variables
unfoldable pub ordered : ℕ → Sum → Bool
ordered n s = in_order s && no_zero s && in_variables n s

-- the largest total degree; 0 for the zero sum
unfoldable pub degree_of : Sum → ℕ
degree_of [] = 0
degree_of (t ∷ s) = max (degree t.pattern) (degree_of s)

-- the absolute coefficients added
unfoldable pub weight : Sum → ℕ
weight [] = 0
weight (t ∷ s) = nat_abs t.coefficient + weight s
