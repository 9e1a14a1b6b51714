-- The slope is that of algebra: its coefficients are those one power up, it is linear, and it has the product rule.
use mathlib.Core.Path.{◌≡◌, refl, sym, ◌∙◌, ap, ap₂}
use mathlib.Core.Bool.{Bool, true, false}
use mathlib.Core.List.{[], ◌∷◌, ◌++◌, map}
use Prim.Native.Nat.{ℕ, zero, suc, ◌*◌, ◌-◌, ◌≤◌, ◌<◌}
use native.Mathlib.Omega.{arith}
use native.Mathlib.Nat.{le_refl, le_trans, mul-le-mul_left}
use lib.Dec.{T}
use lib.IntN.{ℤ, pos, nat_abs, ◌+ℤ◌, ◌*ℤ◌, *ℤ_comm, *ℤ-zero, zero-*ℤ}
use lib.ListN.{length, length-set, length-map}
use Rattle.algebra.specs.Pattern.{Pattern, empty_pattern, times, exponent, raised, lowered, same}
use Rattle.algebra.specs.Sum.{Term, term, Sum, ordered, degree_of, weight}
use Rattle.algebra.specs.Collect.{gather, drop_zeros, collect}
use Rattle.algebra.specs.Arithmetic.{integer, times_term, ◌⊕◌, ◌⊗◌}
use Rattle.algebra.specs.Slope.{slope_term, slope}
use Rattle.algebra.specs.Value.{total, only_if, coefficient_in, coefficient}
use Rattle.algebra.proofs.Numbers.Whole.{*ℤ-assoc, *ℤ-+ℤ, +ℤ-*ℤ}
use Rattle.algebra.proofs.Numbers.Absolute.{abs-mul}
use Rattle.algebra.proofs.Patterns.Laws.{times-comm, set-degree, exponent-degree, raised-exponent, lowered-raised, raised-lowered, exponent-times, lowered-times, empty-exponent}
use Rattle.algebra.proofs.Patterns.Order.{same_self, same-eq}
use lib.Ieee.Bits.{is_true}
use Rattle.algebra.proofs.Numbers.Test.{false-is}
use Rattle.algebra.proofs.Sums.Total.{Additive, total_ext, total-map, total-append, total-plus, total-times, collect-total}
use Rattle.algebra.proofs.Sums.Every.{Every, Long, UpTo, degree-every, every-degree, collect-every}
use Rattle.algebra.proofs.Sums.Ordered.{parts, collect-ordered}
use Rattle.algebra.proofs.Sums.Occurs.{collect-length, spread-length}
use Rattle.algebra.proofs.Sums.Equal.{if_none, coefficient-additive, collect-equal}
use Rattle.algebra.proofs.Sums.Ring.{term-comm, sum-total, product-total, left-additive, right-additive, sum-zero, zero-product}
use Rattle.algebra.proofs.Sums.Results.{product-ordered, integer-ordered, collect-weight}

-- ---- Totals.

module _ (v : ℕ) (f : Term → ℤ) (A : Additive f) where
  pub slope-additive : Additive (λ t. f (slope_term v t))
  slope-additive = record {
    plus = λ c d p. ap (λ z. f (term z (lowered v p))) (+ℤ-*ℤ c d (pos (exponent v p))) ∙ A.plus (c *ℤ pos (exponent v p)) (d *ℤ pos (exponent v p)) (lowered v p);
    none = λ p. ap (λ z. f (term z (lowered v p))) (zero-*ℤ (pos (exponent v p))) ∙ A.none (lowered v p);
  }

  pub slope-total : (s : Sum) → total f (slope v s) ≡ total (λ t. f (slope_term v t)) s
  unfolding slope
  slope-total s = collect-total f A (map (slope_term v) s) ∙ total-map f (slope_term v) s

-- ---- Coefficients.

module _ (v : ℕ) (c : ℤ) (p r : Pattern) where
  -- where p is not r with one power more, its slope has not the pattern r, or p has no power to take
  slope-other : (n : ℕ) → exponent v p ≡ n → same (raised v r) p ≡ false → only_if (same r (lowered v p)) (c *ℤ pos (exponent v p)) ≡ pos 0
  unfolding only_if
  slope-other zero e k = ap (λ m. only_if (same r (lowered v p)) (c *ℤ pos m)) e ∙ ap (only_if (same r (lowered v p))) (*ℤ-zero c) ∙ if_none (same r (lowered v p))
  slope-other (suc n) e k = ap (λ b. only_if b (c *ℤ pos (exponent v p))) (false-is (same r (lowered v p)) never)
    where
      never : T (same r (lowered v p)) → ⊥
      never m =
          let w : raised v r ≡ p = ap (raised v) (same-eq r (lowered v p) m) ∙ raised-lowered v p (omega arith) in
          let y : T (same (raised v r) p) = rw w (same_self p) in
          rw k at y

  slope-here : v < length r → coefficient_in r (slope_term v (term c p)) ≡ pos (suc (exponent v r)) *ℤ coefficient_in (raised v r) (term c p)
  slope-here h = go (same (raised v r) p) refl
    where
      go : (b : Bool) → same (raised v r) p ≡ b → coefficient_in r (slope_term v (term c p)) ≡ pos (suc (exponent v r)) *ℤ only_if b c
      go false k = slope-other (exponent v p) refl k ∙ sym (unfold only_if in *ℤ-zero (pos (suc (exponent v r))))
      go true k =
          let w : raised v r ≡ p = same-eq (raised v r) p (rw k tt) in
          ap (λ q. only_if (same r (lowered v q)) (c *ℤ pos (exponent v q))) (sym w)
          ∙ ap₂ (λ q n. only_if (same r q) (c *ℤ pos n)) (lowered-raised v r h) (raised-exponent v r h)
          ∙ ap (λ b. only_if b (c *ℤ pos (suc (exponent v r)))) (is_true (same r r) (same_self r))
          ∙ unfold only_if in *ℤ_comm c (pos (suc (exponent v r)))

pub slope-coefficient : (v : ℕ) (s : Sum) (r : Pattern) → v < length r → coefficient (slope v s) r ≡ pos (suc (exponent v r)) *ℤ coefficient s (raised v r)
unfolding coefficient
slope-coefficient v s r h =
    slope-total v (coefficient_in r) (coefficient-additive r) s ∙ total_ext (λ t. slope-here v t.coefficient t.pattern r h) s ∙ total-times (pos (suc (exponent v r))) (coefficient_in (raised v r)) s

-- ---- Linear, and the product rule.

pub slope-sum : (v : ℕ) (s t : Sum) → slope v (s ⊕ t) ≡ slope v s ⊕ slope v t
slope-sum v s t = unfold slope ◌⊕◌ in collect-equal (map (slope_term v) (collect (s ++ t))) (collect (map (slope_term v) s) ++ collect (map (slope_term v) t)) (λ f A. unfold slope ◌⊕◌ in agree f A)
  where
    agree : (f : Term → ℤ) → Additive f → total f (map (slope_term v) (s ⊕ t)) ≡ total f (slope v s ++ slope v t)
    agree f A =
        total-map f (slope_term v) (s ⊕ t) ∙ sum-total _ (slope-additive v f A) s t
        ∙ sym (total-append f (slope v s) (slope v t) ∙ ap₂ ◌+ℤ◌ (slope-total v f A s) (slope-total v f A t))

module _ (v : ℕ) (f : Term → ℤ) (A : Additive f) where
  -- the first factor's part in the slope of a product of two terms, as far as f sees it
  first : (a b : ℤ) (p q : Pattern) (n : ℕ) → exponent v p ≡ n → f (term ((a *ℤ b) *ℤ pos n) (lowered v (times p q))) ≡ f (term ((a *ℤ pos n) *ℤ b) (times (lowered v p) q))
  first a b p q zero e = nothing (*ℤ-zero (a *ℤ b)) ∙ sym (nothing (ap (λ z. z *ℤ b) (*ℤ-zero a) ∙ zero-*ℤ b))
    where
      nothing : {c : ℤ} {r : Pattern} → c ≡ pos 0 → f (term c r) ≡ pos 0
      nothing {r} h = ap (λ z. f (term z r)) h ∙ A.none r
  first a b p q (suc n) e = ap₂ (λ z r. f (term z r)) (move a b (pos (suc n))) (lowered-times v p q (omega arith))
    where
      move : (a b c : ℤ) → (a *ℤ b) *ℤ c ≡ (a *ℤ c) *ℤ b
      move a b c = *ℤ-assoc a b c ∙ ap (λ z. a *ℤ z) (*ℤ_comm b c) ∙ sym (*ℤ-assoc a c b)

  rule : (a b : ℤ) (p q : Pattern) → f (slope_term v (times_term (term a p) (term b q)))
      ≡ f (times_term (slope_term v (term a p)) (term b q)) +ℤ f (times_term (slope_term v (term b q)) (term a p))
  rule a b p q =
      let m = exponent v p in
      let n = exponent v q in
      ap (λ z. f (term z (lowered v (times p q)))) (ap (λ k. (a *ℤ b) *ℤ pos k) (exponent-times v p q) ∙ *ℤ-+ℤ (a *ℤ b) (pos m) (pos n))
      ∙ A.plus ((a *ℤ b) *ℤ pos m) ((a *ℤ b) *ℤ pos n) (lowered v (times p q))
      ∙ ap₂ ◌+ℤ◌ (first a b p q m refl) (ap₂ (λ c r. f (term (c *ℤ pos n) (lowered v r))) (*ℤ_comm a b) (times-comm p q) ∙ first b a q p n refl)

  pair-rule : (u t : Term) → f (slope_term v (times_term u t)) ≡ f (times_term (slope_term v u) t) +ℤ f (times_term u (slope_term v t))
  pair-rule u t = rule u.coefficient t.coefficient u.pattern t.pattern ∙ ap (λ w. f (times_term (slope_term v u) t) +ℤ f w) (term-comm (slope_term v t) u)

  rule-total : (s t : Sum) → total f (slope v (s ⊗ t)) ≡ total f (slope v s ⊗ t) +ℤ total f (s ⊗ slope v t)
  rule-total s t =
      slope-total v f A (s ⊗ t) ∙ product-total _ (slope-additive v f A) s t
      ∙ total_ext (λ u. total_ext (pair-rule u) t ∙ total-plus _ _ t) s ∙ total-plus _ _ s
      ∙ ap₂ ◌+ℤ◌ (sym (product-total f A (slope v s) t ∙ slope-total v _ (left-additive f A t) s))
      (sym (product-total f A s (slope v t) ∙ total_ext (λ u. slope-total v _ (right-additive f A u) t) s))

pub slope-product : (v : ℕ) (s t : Sum) → slope v (s ⊗ t) ≡ slope v s ⊗ t ⊕ s ⊗ slope v t
slope-product v s t = unfold slope ◌⊕◌ in collect-equal (map (slope_term v) (s ⊗ t)) ((collect (map (slope_term v) s) ⊗ t) ++ (s ⊗ collect (map (slope_term v) t))) (λ f A. unfold slope in agree f A)
  where
    agree : (f : Term → ℤ) → Additive f → total f (map (slope_term v) (s ⊗ t)) ≡ total f ((slope v s ⊗ t) ++ (s ⊗ slope v t))
    agree f A =
        total-map f (slope_term v) (s ⊗ t) ∙ sym (slope-total v f A (s ⊗ t)) ∙ rule-total v f A s t ∙ sym (total-append f (slope v s ⊗ t) (s ⊗ slope v t))

-- ---- Ordered.

lowered-length : (n v : ℕ) (s : Sum) → Every (Long n) s → Every (Long n) (map (slope_term v) s)
lowered-length n v [] h = tt
lowered-length n v (t ∷ s) h = (length-set t.pattern v _ ∙ h.0, lowered-length n v s h.1)

pub slope-ordered : (n v : ℕ) (s : Sum) → T (ordered n s) → T (ordered n (slope v s))
unfolding slope
slope-ordered n v s h = collect-ordered n (map (slope_term v) s) (lowered-length n v s (parts n s h).long)

-- a number has no slope, so it can be put in front of one
pub slope-integer : (n v : ℕ) (c : ℤ) → slope v (integer n c) ≡ []
unfolding collect gather drop_zeros
slope-integer n v c = unfold slope in collect-equal (map (slope_term v) (integer n c)) [] agree
  where
    agree : (f : Term → ℤ) → Additive f → total f (map (slope_term v) (integer n c)) ≡ total f []
    agree f A =
        total-map f (slope_term v) (integer n c) ∙ unfold integer in collect-total _ (slope-additive v f A) (term c (empty_pattern n) ∷ [])
        ∙ unfold total in (ap (λ z. f (term z (lowered v (empty_pattern n))) +ℤ pos 0) (ap (λ m. c *ℤ pos m) (empty-exponent n v) ∙ *ℤ-zero c) ∙ ap (λ z. z +ℤ pos 0) (A.none _))

pub slope-multiple : (n v : ℕ) (c : ℤ) (s : Sum) → T (ordered n s) → slope v (integer n c ⊗ s) ≡ integer n c ⊗ slope v s
slope-multiple n v c s h =
    slope-product v (integer n c) s ∙ ap (λ z. z ⊗ s ⊕ integer n c ⊗ slope v s) (slope-integer n v c)
    ∙ ap (λ z. z ⊕ integer n c ⊗ slope v s) (zero-product s)
    ∙ sum-zero n (integer n c ⊗ slope v s) (product-ordered n (integer n c) (slope v s) (integer-ordered n c) (slope-ordered n v s h))

-- ---- Degree, weight and number of terms.

pub slope-degree : (v : ℕ) (s : Sum) → degree_of (slope v s) ≤ degree_of s
unfolding slope
slope-degree v s = every-degree _ (collect (map (slope_term v) s)) (collect-every (UpTo (degree_of s)) (map (slope_term v) s) (each s (degree-every _ s (le_refl _))))
  where
    each : (l : Sum) → Every (UpTo (degree_of s)) l → Every (UpTo (degree_of s)) (map (slope_term v) l)
    each [] h = tt
    each (t ∷ l) h = (le_trans (set-degree v (exponent v t.pattern - 1) t.pattern (omega arith)) h.0, each l h.1)

pub slope-length : (v : ℕ) (s : Sum) → length (slope v s) ≤ length s
unfolding slope
slope-length v s = omega (arith, collect-length (map (slope_term v) s), spread-length (map (slope_term v) s), length-map s (slope_term v))

terms-weight : (m v : ℕ) (s : Sum) → Every (UpTo m) s → weight (map (slope_term v) s) ≤ m * weight s
unfolding weight
terms-weight m v [] h = omega arith
terms-weight m v (t ∷ s) h = omega
    (arith, abs-mul t.coefficient (pos (exponent v t.pattern)), mul-le-mul_left (nat_abs t.coefficient) (le_trans (exponent-degree v t.pattern) h.0), terms-weight m v s h.1)

pub slope-weight : (v : ℕ) (s : Sum) → weight (slope v s) ≤ degree_of s * weight s
unfolding slope
slope-weight v s = le_trans (collect-weight (map (slope_term v) s)) (terms-weight (degree_of s) v s (degree-every _ s (le_refl _)))
