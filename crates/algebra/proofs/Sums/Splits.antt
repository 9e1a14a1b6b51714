-- The coefficient of a product at a pattern is the sum, over all ways to split the pattern in two, of both coefficients multiplied.
use mathlib.Core.Path.{◌≡◌, refl, sym, ◌∙◌, ap, ap₂}
use mathlib.Core.Bool.{Bool, true, false, ◌&&◌, and-true}
use mathlib.Core.List.{List, [], ◌∷◌, ◌++◌, map}
use Prim.Native.Nat.{ℕ, zero, suc, ◌+◌, ◌≤◌, ◌<◌}
use native.Mathlib.Omega.{arith}
use native.Mathlib.Decide.{ℕ_discrete}
use borrow.Author.Tests.{eq-eqb, ne_eqb}
use lib.Dec.{T, eqb}
use lib.IntN.{ℤ, pos, ◌+ℤ◌, ◌*ℤ◌, +ℤ_idl, +ℤ_idr, +ℤ_assoc, *ℤ_comm, *ℤ-zero}
use lib.ListN.{length}
use Rattle.algebra.specs.Pattern.{Pattern, times, same}
use Rattle.algebra.specs.Sum.{Term, Sum, in_variables, ordered}
use Rattle.algebra.specs.Arithmetic.{times_term, ◌⊗◌, power}
use Rattle.algebra.specs.Value.{total, only_if, coefficient_in, coefficient, number_splits, each_before, splits, over_splits}
use Rattle.algebra.proofs.Numbers.Whole.{+ℤ-mix}
use Rattle.algebra.proofs.Sums.Total.{total_ext, total-times}
use Rattle.algebra.proofs.Sums.Every.{Every, Long, variables-every}
use Rattle.algebra.proofs.Sums.Ordered.{ordered-variables}
use Rattle.algebra.proofs.Sums.Equal.{coefficient-additive}
use Rattle.algebra.proofs.Sums.Ring.{product-total, power-suc}
use Rattle.algebra.proofs.Sums.Results.{power-ordered}

-- ---- What is added up over a list of splits: it is additive, and nothing is nothing.

over-plus : (f g : Pattern → Pattern → ℤ) (ss : List (Pattern × Pattern)) → over_splits (λ p q. f p q +ℤ g p q) ss ≡ over_splits f ss +ℤ over_splits g ss
unfolding over_splits
over-plus f g [] = refl
over-plus f g (s ∷ ss) =
    ap (λ z. (f s.0 s.1 +ℤ g s.0 s.1) +ℤ z) (over-plus f g ss) ∙ +ℤ-mix (f s.0 s.1) (g s.0 s.1) (over_splits f ss) (over_splits g ss)

over_none : (ss : List (Pattern × Pattern)) → over_splits (λ p q. pos 0) ss ≡ pos 0
unfolding over_splits
over_none [] = refl
over_none (s ∷ ss) = ap (λ z. pos 0 +ℤ z) (over_none ss)

over-append : (f : Pattern → Pattern → ℤ) (ss ts : List (Pattern × Pattern)) → over_splits f (ss ++ ts) ≡ over_splits f ss +ℤ over_splits f ts
unfolding over_splits
over-append f [] ts = sym (+ℤ_idl (over_splits f ts))
over-append f (s ∷ ss) ts = ap (λ z. f s.0 s.1 +ℤ z) (over-append f ss ts) ∙ sym (+ℤ_assoc (f s.0 s.1) (over_splits f ss) (over_splits f ts))

over-map : (f : Pattern → Pattern → ℤ) (i j : ℕ) (ss : List (Pattern × Pattern))
    → over_splits f (map (λ (s : Pattern × Pattern). (i ∷ s.0, j ∷ s.1)) ss) ≡ over_splits (λ p q. f (i ∷ p) (j ∷ q)) ss
unfolding over_splits
over-map f i j [] = refl
over-map f i j (s ∷ ss) = ap (λ z. f (i ∷ s.0) (j ∷ s.1) +ℤ z) (over-map f i j ss)

over-total : (h : Term → Pattern → Pattern → ℤ) (l : List Term) (ss : List (Pattern × Pattern)) → over_splits (λ p q. total (λ t. h t p q) l) ss ≡ total (λ t. over_splits (h t) ss) l
unfolding total
over-total h [] ss = over_none ss
over-total h (t ∷ l) ss = over-plus (h t) (λ p q. total (λ u. h u p q) l) ss ∙ ap (λ z. over_splits (h t) ss +ℤ z) (over-total h l ss)

-- ---- The same over two numbers, which come first.

over_numbers : (ℕ → ℕ → ℤ) → List (ℕ × ℕ) → ℤ
over_numbers f [] = pos 0
over_numbers f (n ∷ ns) = f n.0 n.1 +ℤ over_numbers f ns

numbers-none : (ns : List (ℕ × ℕ)) → over_numbers (λ i j. pos 0) ns ≡ pos 0
unfolding over_numbers
numbers-none [] = refl
numbers-none (n ∷ ns) = ap (λ z. pos 0 +ℤ z) (numbers-none ns)

each_over : (f : Pattern → Pattern → ℤ) (ns : List (ℕ × ℕ)) (ss : List (Pattern × Pattern))
    → over_splits f (each_before ns ss) ≡ over_numbers (λ i j. over_splits (λ p q. f (i ∷ p) (j ∷ q)) ss) ns
unfolding each_before over_splits over_numbers
each_over f [] ss = refl
each_over f (n ∷ ns) ss =
    over-append f (map (λ (s : Pattern × Pattern). (n.0 ∷ s.0, n.1 ∷ s.1)) ss) (each_before ns ss) ∙ ap₂ ◌+ℤ◌ (over-map f n.0 n.1 ss) (each_over f ns ss)

-- ---- Tests.

if-and : (a b : Bool) (c : ℤ) → only_if a (only_if b c) ≡ only_if (a && b) c
unfolding only_if
if-and true b c = refl
if-and false b c = refl

if-product : (a b c d : Bool) (x y : ℤ) → only_if (a && b) x *ℤ only_if (c && d) y ≡ only_if (a && c) (only_if b x *ℤ only_if d y)
unfolding only_if
if-product true b true d x y = refl
if-product true b false d x y = *ℤ-zero (only_if b x)
if-product false b true d x y = *ℤ_comm (pos 0) (only_if d y) ∙ *ℤ-zero (only_if d y)
if-product false b false d x y = refl

if-split : (a : Bool) (f : Pattern → Pattern → ℤ) (ss : List (Pattern × Pattern)) → over_splits (λ p q. only_if a (f p q)) ss ≡ only_if a (over_splits f ss)
unfolding only_if
if-split true f ss = refl
if-split false f ss = over_none ss

-- tests that hold together are equal
same_test : (m n m' n' : ℕ) → (m ≡ n → m' ≡ n') → (m' ≡ n' → m ≡ n) → eqb m n ≡ eqb m' n'
same_test m n m' n' f g = go (ℕ_discrete m n)
  where
    go : Dec (m ≡ n) → eqb m n ≡ eqb m' n'
    go (yes e) = eq-eqb m n e ∙ sym (eq-eqb m' n' (f e))
    go (no e) = ne_eqb m n e ∙ sym (ne_eqb m' n' (λ d. e (g d)))

-- ---- A number has one split with given parts.

module _ (x y : ℕ) (c : ℤ) where
  hit : ℕ → ℕ → ℤ
  hit i j = only_if (eqb i x && eqb j y) c

  miss : (i j : ℕ) → (j ≡ y → ⊥) → hit i j ≡ pos 0
  unfolding hit
  miss i j f = ap (λ b. only_if (eqb i x && b) c) (ne_eqb j y f) ∙ neither (eqb i x)
    where
      neither : (a : Bool) → only_if (a && false) c ≡ pos 0
      neither true = unfold only_if in refl
      neither false = unfold only_if in refl

  past : (i j : ℕ) → y < j → over_numbers hit (number_splits i j) ≡ pos 0
  unfolding number_splits over_numbers
  past zero j h = ap (λ z. z +ℤ pos 0) (miss zero j (λ e. omega arith))
  past (suc i) j h = ap₂ ◌+ℤ◌ (miss (suc i) j (λ e. omega arith)) (past i (suc j) (omega arith))

  at-end : (i j : ℕ) → j ≡ y → hit i j ≡ only_if (eqb (i + j) (x + y)) c
  unfolding hit
  at-end i j e =
      ap (λ b. only_if (eqb i x && b) c) (eq-eqb j y e)
      ∙ ap (λ b. only_if b c) (and-true (eqb i x) ∙ same_test i x (i + j) (x + y) (λ h. omega arith) (λ h. omega arith))

  one_split : (i j : ℕ) → j ≤ y → over_numbers hit (number_splits i j) ≡ only_if (eqb (i + j) (x + y)) c
  unfolding number_splits over_numbers only_if
  one_split zero j h = go (ℕ_discrete j y)
    where
      go : Dec (j ≡ y) → hit zero j +ℤ pos 0 ≡ only_if (eqb (zero + j) (x + y)) c
      go (yes e) = +ℤ_idr (hit zero j) ∙ at-end zero j e
      go (no f) = +ℤ_idr (hit zero j) ∙ miss zero j f ∙ sym (ap (λ b. only_if b c) (ne_eqb (zero + j) (x + y) (λ e. f (omega arith))))
  one_split (suc i) j h = go (ℕ_discrete j y) (one_split i (suc j))
    where
      go : Dec (j ≡ y) → (suc j ≤ y → over_numbers hit (number_splits i (suc j)) ≡ only_if (eqb (i + suc j) (x + y)) c)
          → hit (suc i) j +ℤ over_numbers hit (number_splits i (suc j)) ≡ only_if (eqb (suc i + j) (x + y)) c
      go (yes e) ih = ap₂ ◌+ℤ◌ (at-end (suc i) j e) (past i (suc j) (omega arith)) ∙ +ℤ_idr (only_if (eqb (suc i + j) (x + y)) c)
      go (no f) ih =
          ap₂ ◌+ℤ◌ (miss (suc i) j f) (ih (omega arith)) ∙ +ℤ_idl (only_if (eqb (i + suc j) (x + y)) c)
          ∙ ap (λ b. only_if b c) (same_test (i + suc j) (x + y) (suc i + j) (x + y) (λ e. omega arith) (λ e. omega arith))

-- ---- A pattern has one split with given parts: that of their product.

pattern-split : (a b : Pattern) (c d : ℤ) (r : Pattern) → length a ≡ length b
    → over_splits (λ p q. only_if (same p a) c *ℤ only_if (same q b) d) (splits r) ≡ only_if (same r (times a b)) (c *ℤ d)
unfolding splits over_splits same times only_if
pattern-split [] [] c d [] h = +ℤ_idr (c *ℤ d)
pattern-split [] [] c d (e ∷ r) h =
    each_over (λ p q. only_if (same p []) c *ℤ only_if (same q []) d) (number_splits e 0) (splits r)
    ∙ (λ k. over_numbers (λ i j. over_none (splits r) k) (number_splits e 0)) ∙ numbers-none (number_splits e 0)
pattern-split [] (y ∷ b) c d r h = absurd (omega arith)
pattern-split (x ∷ a) [] c d r h = absurd (omega arith)
pattern-split (x ∷ a) (y ∷ b) c d [] h = refl
pattern-split (x ∷ a) (y ∷ b) c d (e ∷ r) h = go (pattern-split a b c d r (omega arith))
  where
    go : over_splits (λ p q. only_if (same p a) c *ℤ only_if (same q b) d) (splits r) ≡ only_if (same r (times a b)) (c *ℤ d)
        → over_splits (λ p q. only_if (same p (x ∷ a)) c *ℤ only_if (same q (y ∷ b)) d) (each_before (number_splits e 0) (splits r)) ≡ only_if (eqb e (x + y) && same r (times a b)) (c *ℤ d)
    go ih =
        each_over (λ p q. only_if (same p (x ∷ a)) c *ℤ only_if (same q (y ∷ b)) d) (number_splits e 0) (splits r)
        ∙ (λ k. over_numbers (λ i j. over_splits (λ p q. if-product (eqb i x) (same p a) (eqb j y) (same q b) c d k) (splits r)) (number_splits e 0))
        ∙ (λ k. over_numbers (λ i j. if-split (eqb i x && eqb j y) (λ p q. only_if (same p a) c *ℤ only_if (same q b) d) (splits r) k) (number_splits e 0))
        ∙ (λ k. over_numbers (λ i j. only_if (eqb i x && eqb j y) (ih k)) (number_splits e 0))
        ∙ unfold hit in one_split x y (only_if (same r (times a b)) (c *ℤ d)) e 0 (omega arith)
        ∙ ap (λ m. only_if (eqb m (x + y)) (only_if (same r (times a b)) (c *ℤ d))) (omega arith)
        ∙ if-and (eqb e (x + y)) (same r (times a b)) (c *ℤ d)

-- ---- Products.

every-total : (n : ℕ) {f g : Term → ℤ} → ((t : Term) → length t.pattern ≡ n → f t ≡ g t) → (l : List Term) → Every (Long n) l → total f l ≡ total g l
unfolding total
every-total n h [] k = refl
every-total n h (t ∷ l) k = ap₂ ◌+ℤ◌ (h t k.0) (every-total n h l k.1)

-- two coefficients multiplied are added up over all pairs
both : (s t : Sum) (p q : Pattern) → coefficient s p *ℤ coefficient t q ≡ total (λ u. total (λ v. coefficient_in p u *ℤ coefficient_in q v) t) s
unfolding coefficient
both s t p q =
    *ℤ_comm (total (coefficient_in p) s) (total (coefficient_in q) t) ∙ sym (total-times (total (coefficient_in q) t) (coefficient_in p) s)
    ∙ total_ext (λ u. *ℤ_comm (total (coefficient_in q) t) (coefficient_in p u) ∙ sym (total-times (coefficient_in p u) (coefficient_in q) t)) s

pub product-coefficient : (n : ℕ) (s t : Sum) → T (in_variables n s) → T (in_variables n t) → (r : Pattern)
    → coefficient (s ⊗ t) r ≡ over_splits (λ p q. coefficient s p *ℤ coefficient t q) (splits r)
product-coefficient n s t h k r =
    sym
    ((λ i. over_splits (λ p q. both s t p q i) (splits r))
    ∙ over-total (λ u p q. total (λ v. coefficient_in p u *ℤ coefficient_in q v) t) s (splits r)
    ∙ every-total n (λ u hu. one-row u hu) s (variables-every n s h)
    ∙ sym (unfold coefficient in product-total (coefficient_in r) (coefficient-additive r) s t))
  where
    one-row : (u : Term) → length u.pattern ≡ n → over_splits (λ p q. total (λ v. coefficient_in p u *ℤ coefficient_in q v) t) (splits r) ≡ total (λ v. coefficient_in r (times_term u v)) t
    one-row u hu =
        over-total (λ v p q. coefficient_in p u *ℤ coefficient_in q v) t (splits r)
        ∙ every-total n (λ v hv. pattern-split u.pattern v.pattern u.coefficient v.coefficient r (hu ∙ sym hv)) t (variables-every n t k)

pub power-coefficient : (n : ℕ) (s : Sum) (e : ℕ) → T (ordered n s) → (r : Pattern)
    → coefficient (power n s (suc e)) r ≡ over_splits (λ p q. coefficient (power n s e) p *ℤ coefficient s q) (splits r)
power-coefficient n s e h r =
    ap (λ t. coefficient t r) (power-suc n s e h) ∙ product-coefficient n (power n s e) s (ordered-variables n (power n s e) (power-ordered n s e h)) (ordered-variables n s h) r
