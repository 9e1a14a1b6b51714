-- Two sums in order, merged from the front: x terms of s and y of t are done, and what they gave stands before what the others give.
use mathlib.Core.Path.{◌≡◌, refl, sym, ◌∙◌, ap, ap₂, subst}
use mathlib.Core.Bool.{Bool, true, false}
use mathlib.Core.List.{[], ◌∷◌, ◌++◌, append-nil}
use Prim.Native.Nat.{Ordering}
use Prim.Native.Nat.{ℕ, zero, suc, ◌+◌, ◌≤◌, ◌<◌}
use native.Mathlib.Omega.{arith}
use native.Mathlib.Numerals.{add-one}
use native.Mathlib.Decide.{dec_lt}
use lib.Dec.{T}
use lib.IntN.{◌+ℤ◌}
use lib.ListN.{length, get_or, drop, length-append, drop_of_length-le}
use lib.Seq.{drop-cons, append_snoc}
use Rattle.algebra.specs.Pattern.{Pattern, order}
use Rattle.algebra.specs.Sum.{Term, term, Sum, is_zero, ahead, in_order, no_zero}
use Rattle.algebra.specs.Collect.{keep, gather, drop_zeros, collect, spread}
use Rattle.algebra.specs.Arithmetic.{◌⊕◌, sum_spread}
use lib.Ieee.Bits.{is_false}
use Rattle.algebra.proofs.Sums.Ordered.{is-before, order-back, order-tail, full-head, full-tail}
use Rattle.sums.proofs.Merging.{none}
use Rattle.sums.proofs.Heads.{sum_first, spread-first, sum-second, spread-second, sum_both, spread-both}

-- ---- What is left of a sum.

rest-strict : (x : ℕ) (s : Sum) → T (in_order s) → T (in_order (drop x s))
rest-strict zero s k = k
rest-strict (suc x) [] k = k
rest-strict (suc x) (t ∷ s) k = rest-strict x s (order-tail t s k)

full_at : (s : Sum) (x : ℕ) → T (no_zero s) → x < length s → is_zero (get_or s x none).coefficient ≡ false
full_at [] x f h = absurd (omega arith)
full_at (t ∷ s) zero f h = is_false (is_zero t.coefficient) (full-head t s f)
full_at (t ∷ s) (suc x) f h = full_at s x (full-tail t s f) (omega arith)

-- its first term, and the others
rest-next : (s : Sum) (x : ℕ) → x < length s → drop x s ≡ get_or s x none ∷ drop (x + 1) s
rest-next s x h = drop-cons s x none h ∙ ap (λ (k : ℕ). get_or s x none ∷ drop k s) (sym (add-one x))

next-strict : (s : Sum) (x : ℕ) → x < length s → T (in_order s) → T (in_order (get_or s x none ∷ drop (x + 1) s))
next-strict s x h k = subst (λ l. T (in_order l)) (rest-next s x h) (rest-strict x s k)

ahead-rest : (p : Pattern) (t : Sum) (y : ℕ) → (y < length t → order p (get_or t y none).pattern ≡ Ordering.lt) → T (ahead p (drop y t))
unfolding ahead
ahead-rest p t y f = go (dec_lt y (length t))
  where
    go : Dec (y < length t) → T (ahead p (drop y t))
    go (yes h) = rw (drop-cons t y none h) (is-before _ (f h))
    go (no h) = rw (drop_of_length-le t {i = y} (omega arith)) tt

-- ---- What the loop keeps.

pub record Joining (s t : Sum) (x y : ℕ) (done : Sum) : Type 0 where
  pub first : x ≤ length s
  pub second : y ≤ length t
  pub sum : done ++ (drop x s ⊕ drop y t) ≡ s ⊕ t

pub start : (s t : Sum) → Joining s t 0 0 []
start s t = record { first = omega arith; second = omega arith; sum = refl }

-- no more than all terms are done
pub bounded : {s t : Sum} {x y : ℕ} {done : Sum} → Joining s t x y done → length done ≤ length (s ⊕ t)
bounded {s} {t} {x} {y} {done} j = omega (arith, length-append done (drop x s ⊕ drop y t), ap length j.sum)

pub ended : {s t : Sum} {x y : ℕ} {done : Sum} → Joining s t x y done → length s + length t ≤ x + y → done ≡ s ⊕ t
unfolding ◌⊕◌ collect gather drop_zeros
ended {s} {t} {x} {y} {done} j h =
    sym (append-nil done)
    ∙ ap₂ (λ (l m : Sum). done ++ (l ⊕ m)) (sym (drop_of_length-le s {i = x} (omega (arith, j.second)))) (sym (drop_of_length-le t {i = y} (omega (arith, j.first))))
    ∙ j.sum

module _ {s t : Sum} {x y : ℕ} {done : Sum} (strict-s : T (in_order s)) (full-s : T (no_zero s)) (strict-t : T (in_order t)) (full-t : T (no_zero t)) (j : Joining s t x y done) where
  abbrev u : Term
  u = get_or s x none

  abbrev v : Term
  v = get_or t y none

  -- one term is done
  more : (w : Term) (z : Sum) → drop x s ⊕ drop y t ≡ w ∷ z → (done ++ (w ∷ [])) ++ z ≡ s ⊕ t
  more w z e = append_snoc done w z ∙ ap (λ l. done ++ l) (sym e) ∙ j.sum

  module _ (h : x < length s) where
    pub takes_first : (y < length t → order u.pattern v.pattern ≡ Ordering.lt) → Joining s t (x + 1) y (done ++ (u ∷ []))
    takes_first f = record {
      first = omega arith;
      second = j.second;
      sum = more u (drop (x + 1) s ⊕ drop y t)
          (ap (λ l. l ⊕ drop y t) (rest-next s x h)
          ∙ sum_first u (drop (x + 1) s) (drop y t) (next-strict s x h strict-s) (rest-strict y t strict-t) (ahead-rest u.pattern t y f) (full_at s x full-s h));
    }

  module _ (h : y < length t) where
    pub takes-second : (x < length s → order u.pattern v.pattern ≡ Ordering.gt) → Joining s t x (y + 1) (done ++ (v ∷ []))
    takes-second f = record {
      first = j.first;
      second = omega arith;
      sum = more v (drop x s ⊕ drop (y + 1) t)
          (ap (λ l. drop x s ⊕ l) (rest-next t y h)
          ∙ sum-second (drop x s) v (drop (y + 1) t) (rest-strict x s strict-s) (next-strict t y h strict-t)
          (ahead-rest v.pattern s x (λ k. order-back u.pattern v.pattern (f k))) (full_at t y full-t h));
    }

    module _ (k : x < length s) (e : order u.pattern v.pattern ≡ Ordering.eq) where
      abbrev w : Term
      w = term (u.coefficient +ℤ v.coefficient) u.pattern

      together : drop x s ⊕ drop y t ≡ keep (is_zero (u.coefficient +ℤ v.coefficient)) w (drop (x + 1) s ⊕ drop (y + 1) t)
      together =
          ap₂ ◌⊕◌ (rest-next s x k) (rest-next t y h)
          ∙ sum_both u (drop (x + 1) s) v (drop (y + 1) t) (next-strict s x k strict-s) (next-strict t y h strict-t) e

      pub takes-both : is_zero (u.coefficient +ℤ v.coefficient) ≡ false → Joining s t (x + 1) (y + 1) (done ++ (w ∷ []))
      unfolding keep
      takes-both other = record {
        first = omega arith;
        second = omega arith;
        sum = more w (drop (x + 1) s ⊕ drop (y + 1) t) (together ∙ ap (λ (b : Bool). keep b w (drop (x + 1) s ⊕ drop (y + 1) t)) other);
      }

      pub drops-both : is_zero (u.coefficient +ℤ v.coefficient) ≡ true → Joining s t (x + 1) (y + 1) done
      unfolding keep
      drops-both cancels = record {
        first = omega arith;
        second = omega arith;
        sum = ap (λ l. done ++ l) (sym (together ∙ ap (λ (b : Bool). keep b w (drop (x + 1) s ⊕ drop (y + 1) t)) cancels)) ∙ j.sum;
      }

-- ---- The same for the spread, which is counted.

pub record Counting (s t : Sum) (x y count : ℕ) : Type 0 where
  pub first : x ≤ length s
  pub second : y ≤ length t
  pub spread_is : count + sum_spread (drop x s) (drop y t) ≡ sum_spread s t

pub count-start : (s t : Sum) → Counting s t 0 0 0
count-start s t = record { first = omega arith; second = omega arith; spread_is = omega arith }

pub count-ended : {s t : Sum} {x y count : ℕ} → Counting s t x y count → length s + length t ≤ x + y → count ≡ sum_spread s t
unfolding sum_spread spread
count-ended {s} {t} {x} {y} {count} j h =
    let none_left : sum_spread (drop x s) (drop y t) ≡ 0 = ap₂ sum_spread (drop_of_length-le s {i = x} (omega (arith, j.second))) (drop_of_length-le t {i = y} (omega (arith, j.first))) in
    omega (arith, none_left, j.spread_is)

module _ {s t : Sum} {x y count : ℕ} (strict-s : T (in_order s)) (strict-t : T (in_order t)) (j : Counting s t x y count) where
  abbrev u' : Term
  u' = get_or s x none

  abbrev v' : Term
  v' = get_or t y none

  module _ (h : x < length s) where
    pub counts-first : (y < length t → order u'.pattern v'.pattern ≡ Ordering.lt) → Counting s t (x + 1) y (count + 1)
    counts-first f =
        let one : sum_spread (drop x s) (drop y t) ≡ suc (sum_spread (drop (x + 1) s) (drop y t)) =
        ap (λ l. sum_spread l (drop y t)) (rest-next s x h)
        ∙ spread-first u' (drop (x + 1) s) (drop y t) (next-strict s x h strict-s) (rest-strict y t strict-t) (ahead-rest u'.pattern t y f) in
        record { first = omega arith; second = j.second; spread_is = omega (arith, one, j.spread_is) }

  module _ (h : y < length t) where
    pub counts-second : (x < length s → order u'.pattern v'.pattern ≡ Ordering.gt) → Counting s t x (y + 1) (count + 1)
    counts-second f =
        let one : sum_spread (drop x s) (drop y t) ≡ suc (sum_spread (drop x s) (drop (y + 1) t)) =
        ap (sum_spread (drop x s)) (rest-next t y h)
        ∙ spread-second (drop x s) v' (drop (y + 1) t) (rest-strict x s strict-s) (next-strict t y h strict-t)
        (ahead-rest v'.pattern s x (λ k. order-back u'.pattern v'.pattern (f k))) in
        record { first = j.first; second = omega arith; spread_is = omega (arith, one, j.spread_is) }

    pub counts-both : x < length s → order u'.pattern v'.pattern ≡ Ordering.eq → Counting s t (x + 1) (y + 1) (count + 1)
    counts-both k e =
        let one : sum_spread (drop x s) (drop y t) ≡ suc (sum_spread (drop (x + 1) s) (drop (y + 1) t)) =
        ap₂ sum_spread (rest-next s x k) (rest-next t y h)
        ∙ spread-both u' (drop (x + 1) s) v' (drop (y + 1) t) (next-strict s x k strict-s) (next-strict t y h strict-t) e in
        record { first = omega arith; second = omega arith; spread_is = omega (arith, one, j.spread_is) }
