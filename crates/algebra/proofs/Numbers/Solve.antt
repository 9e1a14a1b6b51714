-- Identities of whole numbers by computation: both sides are read as formulas in unknowns, and their ordered sums are compared.
-- Under `unfolding agree`, `solve e f (a ∷ b ∷ []) tt` proves what e and f say of a and b; `v 0` is the first of the list.
use mathlib.Core.Path.{◌≡◌, refl, sym, ◌∙◌, ap, ap₂}
use mathlib.Core.List.{List, [], ◌∷◌}
use mathlib.Core.Bool.{Bool, true, false, ◌&&◌}
use Prim.Native.Nat.{ℕ, zero, suc}
use lib.Dec.{T, eqb, eqb→eq}
use lib.ListN.{get_or}
use lib.IntN.{ℤ, pos, negsuc, neg_ℤ, ◌+ℤ◌, ◌*ℤ◌, +ℤ_idr, one, pow}
use Rattle.algebra.specs.Pattern.{Pattern, times, degree, same, then_by, by_powers, order}
use Rattle.algebra.specs.Sum.{term, Sum}
use Rattle.algebra.specs.Collect.{settle, insert, gather, keep, drop_zeros, collect}
use Rattle.algebra.specs.Arithmetic.{row, pairs, ◌⊕◌, ◌⊗◌}
use Rattle.algebra.specs.Value.{total, pattern_value, value}
use Rattle.algebra.proofs.Numbers.Whole.{one-*ℤ, *ℤ-oner, negℤ-*ℤ}
use lib.Ieee.Fits.{and_l, and_r}
use Rattle.algebra.proofs.Patterns.Order.{same-eq}
use Rattle.algebra.proofs.Sums.Values.{collect-value, sum-value, product_value}

pub data Formula : Type 0 where
  v : ℕ → Formula
  k : ℤ → Formula
  ◌:+◌ ◌:*◌ : Formula → Formula → Formula
  :-◌ : Formula → Formula

infixl 6 ◌:+◌
infixl 7 ◌:*◌
infix 8 :-◌
infixl 6 ◌:-◌
abbrev pub ◌:-◌ : Formula → Formula → Formula
e :- f = e :+ (:- f)

-- what a formula says
abbrev pub says : List ℤ → Formula → ℤ
says x (v i) = get_or x i (pos 1)
says x (k c) = c
says x (e :+ f) = says x e +ℤ says x f
says x (e :* f) = says x e *ℤ says x f
says x (:- e) = neg_ℤ (says x e)

unknown : ℕ → Pattern
unknown zero = 1 ∷ []
unknown (suc i) = 0 ∷ unknown i

-- its ordered sum, in as many variables as it needs
unfoldable pub sum_of_formula : Formula → Sum
unfolding times degree then_by by_powers order settle insert gather keep drop_zeros collect row pairs ◌⊕◌ ◌⊗◌ unknown
sum_of_formula (v i) = term (pos 1) (unknown i) ∷ []
sum_of_formula (k c) = collect (term c [] ∷ [])
sum_of_formula (e :+ f) = sum_of_formula e ⊕ sum_of_formula f
sum_of_formula (e :* f) = sum_of_formula e ⊗ sum_of_formula f
sum_of_formula (:- e) = (term (negsuc 0) [] ∷ []) ⊗ sum_of_formula e

unknown-value : (i : ℕ) (x : List ℤ) → pattern_value (unknown i) x ≡ get_or x i (pos 1)
unfolding pattern_value unknown pow one
unknown-value zero [] = refl
unknown-value zero (a ∷ x) = *ℤ-oner (pos 1 *ℤ a) ∙ one-*ℤ a
unknown-value (suc i) [] = refl
unknown-value (suc i) (a ∷ x) = one-*ℤ (pattern_value (unknown i) x) ∙ unknown-value i x

one_value : (c : ℤ) (x : List ℤ) → value (term c [] ∷ []) x ≡ c
unfolding value total pattern_value
one_value c x = +ℤ_idr (c *ℤ pos 1) ∙ *ℤ-oner c

sum_of-value : (e : Formula) (x : List ℤ) → value (sum_of_formula e) x ≡ says x e
unfolding sum_of_formula
sum_of-value (v i) x = unfold value total in (+ℤ_idr (pos 1 *ℤ pattern_value (unknown i) x) ∙ one-*ℤ (pattern_value (unknown i) x) ∙ unknown-value i x)
sum_of-value (k c) x = collect-value (term c [] ∷ []) x ∙ one_value c x
sum_of-value (e :+ f) x = sum-value (sum_of_formula e) (sum_of_formula f) x ∙ ap₂ ◌+ℤ◌ (sum_of-value e x) (sum_of-value f x)
sum_of-value (e :* f) x = product_value (sum_of_formula e) (sum_of_formula f) x ∙ ap₂ ◌*ℤ◌ (sum_of-value e x) (sum_of-value f x)
sum_of-value (:- e) x =
    product_value (term (negsuc 0) [] ∷ []) (sum_of_formula e) x ∙ ap₂ ◌*ℤ◌ (one_value (negsuc 0) x) (sum_of-value e x)
    ∙ negℤ-*ℤ (pos 1) (says x e) ∙ ap neg_ℤ (one-*ℤ (says x e))

-- a test of both sums: far quicker than a path between them
unfoldable pub same_number : ℤ → ℤ → Bool
same_number (pos a) (pos b) = eqb a b
same_number (pos a) (negsuc b) = false
same_number (negsuc a) (pos b) = false
same_number (negsuc a) (negsuc b) = eqb a b

pub number-eq : (a b : ℤ) → T (same_number a b) → a ≡ b
unfolding same_number
number-eq (pos a) (pos b) h = ap pos (eqb→eq a b h)
number-eq (pos a) (negsuc b) h = absurd h
number-eq (negsuc a) (pos b) h = absurd h
number-eq (negsuc a) (negsuc b) h = ap negsuc (eqb→eq a b h)

unfoldable pub same_sum : Sum → Sum → Bool
unfolding same_number same
same_sum [] [] = true
same_sum [] (u ∷ r) = false
same_sum (t ∷ s) [] = false
same_sum (t ∷ s) (u ∷ r) = same_number t.coefficient u.coefficient && (same t.pattern u.pattern && same_sum s r)

pub sum-eq : (s r : Sum) → T (same_sum s r) → s ≡ r
unfolding same_sum
sum-eq [] [] h = refl
sum-eq [] (u ∷ r) h = absurd h
sum-eq (t ∷ s) [] h = absurd h
sum-eq (t ∷ s) (u ∷ r) h =
    let numbers = same_number t.coefficient u.coefficient in
    let patterns = same t.pattern u.pattern in
    let rest = and_r numbers (patterns && same_sum s r) h in
    let c = number-eq t.coefficient u.coefficient (and_l numbers (patterns && same_sum s r) h) in
    let p = same-eq t.pattern u.pattern (and_l patterns (same_sum s r) rest) in
    ap₂ ◌∷◌ (ap₂ term c p) (sum-eq s r (and_r patterns (same_sum s r) rest))

unfoldable pub agree : Formula → Formula → Bool
unfolding sum_of_formula same_sum
agree e f = same_sum (sum_of_formula e) (sum_of_formula f)

pub solve : (e f : Formula) (x : List ℤ) → T (agree e f) → says x e ≡ says x f
unfolding agree
solve e f x h = sym (sum_of-value e x) ∙ ap (λ s. value s x) (sum-eq (sum_of_formula e) (sum_of_formula f) h) ∙ sum_of-value f x
