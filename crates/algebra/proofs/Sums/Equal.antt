-- A sum in order is known by its coefficients; so two lists of terms that have the same totals have the same ordered sum.
use mathlib.Core.Path.{◌≡◌, refl, sym, ◌∙◌, ap, ap₂}
use mathlib.Core.Bool.{Bool, true, false, not, ◌||◌, true≢false}
use mathlib.Core.List.{List, [], ◌∷◌}
use Prim.Native.Nat.{ℕ, Ordering}
use native.Mathlib.Decide.{ℕ_discrete}
use lib.Dec.{T}
use lib.IntN.{ℤ, pos, ◌+ℤ◌, +ℤ_idl, +ℤ_idr}
use lib.ListN.{length}
use Rattle.algebra.specs.Pattern.{Pattern, same, order}
use Rattle.algebra.specs.Sum.{Term, term, Sum, is_zero, ahead, in_order, no_zero, ordered}
use Rattle.algebra.specs.Collect.{gather, collect, occurs}
use Rattle.algebra.specs.Value.{total, only_if, coefficient_in, coefficient}
use Rattle.algebra.proofs.Numbers.Whole.{+ℤ-cancel}
use lib.Ieee.Bits.{is_true}
use Rattle.algebra.proofs.Numbers.Test.{false-is}
use Rattle.algebra.proofs.Patterns.Order.{same_self, same-eq, order-eq}
use Rattle.algebra.proofs.Sums.Total.{Additive, gather-total, collect-total}
use Rattle.algebra.proofs.Sums.Every.{Every, Long}
use Rattle.algebra.proofs.Sums.Ordered.{Parts, parts, is-before, order-back, order-head, order-tail, full-head, full-tail, gather-order, collect-order, collect-full}
use Rattle.algebra.proofs.Sums.Occurs.{occurs-cons, occurs-first, ahead-absent, gather-occurs, absent-coefficient}

-- ---- The coefficient is additive.

if-plus : (b : Bool) (c d : ℤ) → only_if b (c +ℤ d) ≡ only_if b c +ℤ only_if b d
unfolding only_if
if-plus true c d = refl
if-plus false c d = refl

pub if_none : (b : Bool) → only_if b (pos 0) ≡ pos 0
unfolding only_if
if_none true = refl
if_none false = refl

pub coefficient-additive : (r : Pattern) → Additive (coefficient_in r)
coefficient-additive r = record { plus = λ c d p. if-plus (same r p) c d; none = λ p. if_none (same r p) }

pub coefficient-cons : (r : Pattern) (t : Term) (l : List Term) → coefficient (t ∷ l) r ≡ coefficient_in r t +ℤ coefficient l r
unfolding coefficient total
coefficient-cons r t l = refl

coefficient-skip : (r : Pattern) (t : Term) (l : List Term) → same r t.pattern ≡ false → coefficient (t ∷ l) r ≡ coefficient l r
unfolding only_if
coefficient-skip r t l e = coefficient-cons r t l ∙ ap (λ b. only_if b t.coefficient +ℤ coefficient l r) e ∙ +ℤ_idl (coefficient l r)

-- ---- Two lists in order with the same patterns and the same coefficients are the same list, zeros or not.

pub record Alike (s t : Sum) : Type 0 where
  pub patterns : (r : Pattern) → occurs r s ≡ occurs r t
  pub numbers : (r : Pattern) → coefficient s r ≡ coefficient t r

-- the first term's coefficient
pub first-coefficient : (t : Term) (s : Sum) → T (in_order (t ∷ s)) → coefficient (t ∷ s) t.pattern ≡ t.coefficient
unfolding coefficient total only_if
first-coefficient t s h =
    rw (is_true (same t.pattern t.pattern) (same_self t.pattern), absent-coefficient t.pattern s (ahead-absent t.pattern s (order-tail t s h) (order-head t s h)))
    (+ℤ_idr t.coefficient)

or-rest : (a b c : Bool) → (T a → b ≡ c) → a || b ≡ a || c → b ≡ c
or-rest true b c f e = f tt
or-rest false b c f e = e

-- where the first terms are equal, the rests are alike
rest-alike : (t u : Term) (s r : Sum) → T (in_order (t ∷ s)) → T (in_order (u ∷ r)) → t ≡ u → Alike (t ∷ s) (u ∷ r) → Alike s r
unfolding coefficient total occurs
rest-alike t u s r h k e A = record {
  patterns = λ q. or-rest (same q t.pattern) (occurs q s) (occurs q r) (λ m. both q (same-eq q t.pattern m)) (A.patterns q ∙ ap (λ v. same q v.pattern || occurs q r) (sym e));
  numbers = λ q. +ℤ-cancel (coefficient_in q t) (coefficient s q) (coefficient r q) (A.numbers q ∙ ap (λ v. coefficient_in q v +ℤ coefficient r q) (sym e));
}
  where
    both : (q : Pattern) → q ≡ t.pattern → occurs q s ≡ occurs q r
    both q m =
        ap (λ p. occurs p s) m ∙ ahead-absent t.pattern s (order-tail t s h) (order-head t s h)
        ∙ sym (ap (λ p. occurs p r) (m ∙ ap (λ v. v.pattern) e) ∙ ahead-absent u.pattern r (order-tail u r k) (order-head u r k))

-- a pattern that stands before a list does not occur in it
not_first : (t : Term) (s r : Sum) → T (in_order r) → T (ahead t.pattern r) → occurs t.pattern (t ∷ s) ≡ occurs t.pattern r → ⊥
not_first t s r h k e = true≢false (sym (occurs-first t s) ∙ e ∙ ahead-absent t.pattern r h k)

pub alike-equal : (s t : Sum) → T (in_order s) → T (in_order t) → Alike s t → s ≡ t
alike-equal [] [] h k A = refl
alike-equal [] (u ∷ r) h k A = absurd (not_first u r [] h (unfold ahead in tt) (sym (A.patterns u.pattern)))
alike-equal (t ∷ s) [] h k A = absurd (not_first t s [] k (unfold ahead in tt) (A.patterns t.pattern))
alike-equal (t ∷ s) (u ∷ r) h k A = go (order t.pattern u.pattern) refl (alike-equal s r (order-tail t s h) (order-tail u r k))
  where
    go : (o : Ordering) → order t.pattern u.pattern ≡ o → (Alike s r → s ≡ r) → t ∷ s ≡ u ∷ r
    go Ordering.lt e f = absurd (not_first t s (u ∷ r) k (unfold ahead in is-before (order t.pattern u.pattern) e) (A.patterns t.pattern))
    go Ordering.gt e f = absurd (not_first u r (t ∷ s) h (unfold ahead in is-before (order u.pattern t.pattern) (order-back t.pattern u.pattern e)) (sym (A.patterns u.pattern)))
    go Ordering.eq e f =
        let p : t.pattern ≡ u.pattern = order-eq t.pattern u.pattern e in
        let c : t.coefficient ≡ u.coefficient = sym (first-coefficient t s h) ∙ A.numbers t.pattern ∙ ap (coefficient (u ∷ r)) p ∙ first-coefficient u r k in
        let w : t ≡ u = λ i. term (c i) (p i) in
        ap₂ ◌∷◌ w (f (rest-alike t u s r h k w A))

-- so gathering does not depend on the order of the terms
pub gather-equal : (l m : List Term) → ((r : Pattern) → occurs r l ≡ occurs r m) → ((r : Pattern) → coefficient l r ≡ coefficient m r) → gather l ≡ gather m
gather-equal l m p c = alike-equal (gather l) (gather m) (gather-order l) (gather-order m)
    (record { patterns = λ r. gather-occurs r l ∙ p r ∙ sym (gather-occurs r m); numbers = λ r. numbers l r ∙ c r ∙ sym (numbers m r) })
  where
    numbers : (k : List Term) (r : Pattern) → coefficient (gather k) r ≡ coefficient k r
    numbers k r = unfold coefficient in gather-total (coefficient_in r) (coefficient-additive r) k

-- ---- Without zeros the patterns are those with a coefficient other than 0.

full-occurs : (r : Pattern) (s : Sum) → T (in_order s) → T (no_zero s) → occurs r s ≡ not (is_zero (coefficient s r))
full-occurs r [] h k = unfold occurs coefficient total in refl
full-occurs r (t ∷ s) h k = go (same r t.pattern) refl (full-occurs r s (order-tail t s h) (full-tail t s k))
  where
    go : (b : Bool) → same r t.pattern ≡ b → occurs r s ≡ not (is_zero (coefficient s r)) → occurs r (t ∷ s) ≡ not (is_zero (coefficient (t ∷ s) r))
    go true e f =
        let p : r ≡ t.pattern = same-eq r t.pattern (rw e tt) in
        ap (λ q. occurs q (t ∷ s)) p ∙ occurs-first t s ∙ sym (is_true _ (full-head t s k)) ∙ ap (λ c. not (is_zero c)) (sym (ap (coefficient (t ∷ s)) p ∙ first-coefficient t s h))
    go false e f =
        occurs-cons r t s ∙ ap (λ b. b || occurs r s) e ∙ f
        ∙ ap (λ c. not (is_zero c)) (sym (coefficient-skip r t s e))

pub full-equal : (s t : Sum) → T (in_order s) → T (no_zero s) → T (in_order t) → T (no_zero t) → ((r : Pattern) → coefficient s r ≡ coefficient t r) → s ≡ t
full-equal s t h k h' k' e =
    alike-equal s t h h' (record { patterns = λ r. full-occurs r s h k ∙ ap (λ c. not (is_zero c)) (e r) ∙ sym (full-occurs r t h' k'); numbers = e })

-- a pattern with another number of exponents has the coefficient 0
pub other_length : (n : ℕ) (r : Pattern) (l : List Term) → (length r ≡ n → ⊥) → Every (Long n) l → coefficient l r ≡ pos 0
other_length n r [] f h = unfold coefficient total in refl
other_length n r (t ∷ l) f h =
    coefficient-skip r t l (false-is (same r t.pattern) (λ e. f (ap length (same-eq r t.pattern e) ∙ h.0))) ∙ other_length n r l f h.1

-- two ordered sums in n variables with equal coefficients at every pattern are equal
pub ordered-equal : (n : ℕ) (s t : Sum) → T (ordered n s) → T (ordered n t) → ((r : Pattern) → length r ≡ n → coefficient s r ≡ coefficient t r) → s ≡ t
ordered-equal n s t h k e = full-equal s t P.strict P.full Q.strict Q.full (λ r. go r (ℕ_discrete (length r) n))
  where
    P : Parts n s
    P = parts n s h

    Q : Parts n t
    Q = parts n t k

    go : (r : Pattern) → Dec (length r ≡ n) → coefficient s r ≡ coefficient t r
    go r (yes l) = e r l
    go r (no l) = other_length n r s l P.long ∙ sym (other_length n r t l Q.long)

-- lists of terms with the same totals have the same ordered sum
pub collect-equal : (l m : List Term) → ((f : Term → ℤ) → Additive f → total f l ≡ total f m) → collect l ≡ collect m
collect-equal l m e = full-equal (collect l) (collect m) (collect-order l) (collect-full l) (collect-order m) (collect-full m) agrees
  where
    agrees : (r : Pattern) → coefficient (collect l) r ≡ coefficient (collect m) r
    agrees r = let A : Additive (coefficient_in r) = coefficient-additive r in
        unfold coefficient in (collect-total (coefficient_in r) A l ∙ e (coefficient_in r) A ∙ sym (collect-total (coefficient_in r) A m))
