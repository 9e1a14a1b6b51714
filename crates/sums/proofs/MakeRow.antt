-- A row, term by term: its length, its terms, and that each can be formed.
use mathlib.Core.Path.{◌≡◌, refl, ◌∙◌, ap}
use mathlib.Core.List.{List, [], ◌∷◌, map}
use Prim.Native.Nat.{ℕ, ◌+◌, ◌*◌, ◌^◌, ◌≤◌, ◌<◌}
use native.Mathlib.Omega.{arith}
use native.Mathlib.Nat.{mul-le-mul_left}
use lib.IntN.{ℤ, pos, nat_abs, ◌*ℤ◌}
use lib.ListN.{length, get_or, length-map}
use mir.Syntax.{w64}
use mir.Val.{SFits}
use Rattle.algebra.specs.Limits.{largest_degree}
use Rattle.algebra.specs.Pattern.{times, degree}
use Rattle.algebra.specs.Sum.{Term, term, Sum, degree_of, weight}
use Rattle.algebra.specs.Arithmetic.{times_term, row}
use Rattle.algebra.specs.Word.{exponents, terms}
use Rattle.algebra.proofs.Numbers.Absolute.{abs-mul}
use Rattle.answers.proofs.Signed.{fits-abs}
use Rattle.sums.specs.Held.{Held}
use Rattle.sums.proofs.Holding.{map_at, terms-many, term-at, degree-at, size-at}

row-map : (u : Term) (s : Sum) → row u s ≡ map (times_term u) s
unfolding row
row-map u [] = refl
row-map u (t ∷ s) = ap (λ l. times_term u t ∷ l) (row-map u s)

pub row-length : (u : Term) (s : Sum) → length (row u s) ≡ length s
row-length u s = ap length (row-map u s) ∙ length-map s (times_term u)

pub row_at : (u : Term) (s : Sum) (k : ℕ) (d : Term) → k < length s → get_or (row u s) k d ≡ times_term u (get_or s k d)
row_at u s k d h = ap (λ (l : Sum). get_or l k d) (row-map u s) ∙ map_at (times_term u) s k d d h

-- its k-th term, of the word p and the coefficient c
module _ {ws : List ℕ} {cs : List ℤ} (held : Held ws cs) (k : ℕ) (h : k < length ws) where
  pub row-term : (p : ℕ) (c : ℤ) (d : Term) → get_or (row (term c (exponents p)) (terms ws cs)) k d ≡ term (c *ℤ get_or cs k (pos 0)) (times (exponents p) (exponents (get_or ws k 0)))
  row-term p c d =
      let u = term c (exponents p) in
      row_at u (terms ws cs) k d (omega (arith, terms-many held)) ∙ ap (times_term u) (term-at held k h d)

  pub low-enough : (p : ℕ) → degree (exponents p) + degree_of (terms ws cs) ≤ largest_degree → degree (exponents p) + degree (exponents (get_or ws k 0)) ≤ largest_degree
  low-enough p low = omega (arith, degree-at held k h)

  pub product-size : (c : ℤ) → nat_abs (c *ℤ get_or cs k (pos 0)) ≤ nat_abs c * weight (terms ws cs)
  product-size c = omega (arith, abs-mul c (get_or cs k (pos 0)), mul-le-mul_left (nat_abs c) (size-at held k h))

  pub product-fits : (c : ℤ) → nat_abs c * weight (terms ws cs) < 2 ^ 63 → SFits w64 (c *ℤ get_or cs k (pos 0))
  product-fits c light = fits-abs (c *ℤ get_or cs k (pos 0)) (omega (arith, product-size c))
