-- A row merged into a running sum from the back, on lists of terms: i terms of the sum and j of the row are left, and what they give stands
-- before what was merged already.
use mathlib.Core.Path.{◌≡◌, refl, sym, ◌∙◌, ap, subst}
use mathlib.Core.List.{[], ◌∷◌, ◌++◌, append-nil}
use Prim.Native.Nat.{Ordering}
use Prim.Native.Nat.{ℕ, zero, suc, ◌-◌, ◌≤◌, ◌<◌}
use native.Mathlib.Omega.{arith}
use lib.Dec.{T}
use lib.IntN.{pos, ◌+ℤ◌}
use lib.ListN.{length, get_or, take, drop, drop_of_length-le}
use lib.Seq.{take_all, take-suc, drop-cons, append_snoc}
use Rattle.algebra.specs.Pattern.{Pattern, order}
use Rattle.algebra.specs.Sum.{Term, term, Sum, ahead, in_order}
use Rattle.algebra.specs.Collect.{settle, insert, gather}
use Rattle.algebra.proofs.Patterns.Order.{order-turn, order_trans, order-eq}
use Rattle.algebra.proofs.Numbers.Compare.{turn}
use Rattle.algebra.proofs.Sums.Every.{Every, every_map, append-every}
use Rattle.algebra.proofs.Sums.Ordered.{before-is, is-before, order-back, order-cons, order-head, order-tail, gather-order, gather-fixed}
use Rattle.sums.proofs.Standing.{last_stands, some-stands}

-- ---- Insertion past the terms that stand before.

-- a pattern that stands before a list in order stands before each term of it, and the terms of a list in order before those that follow
stands-before : (p : Pattern) (s : Sum) (u : Term) (t : Sum) → T (ahead p (s ++ (u ∷ t))) → T (in_order (s ++ (u ∷ t))) → order p u.pattern ≡ Ordering.lt
unfolding ahead
stands-before p [] u t h k = before-is (order p u.pattern) h
stands-before p (v ∷ s) u t h k =
    order_trans p v.pattern u.pattern (before-is (order p v.pattern) h)
    (stands-before v.pattern s u t (order-head v (s ++ (u ∷ t)) k) (order-tail v (s ++ (u ∷ t)) k))

abbrev Before : Pattern → Pattern → Type 0
Before q p = order p q ≡ Ordering.lt

front-before : (s : Sum) (u : Term) (t : Sum) → T (in_order (s ++ (u ∷ t))) → Every (Before u.pattern) s
front-before [] u t k = tt
front-before (v ∷ s) u t k =
    let rest = s ++ (u ∷ t) in
    (stands-before v.pattern s u t (order-head v rest k) (order-tail v rest k), front-before s u t (order-tail v rest k))

order-rest : (s t : Sum) → T (in_order (s ++ t)) → T (in_order t)
order-rest [] t k = k
order-rest (v ∷ s) t k = order-rest s t (order-tail v (s ++ t) k)

insert-past : (u : Term) (s t : Sum) → Every (Before u.pattern) s → insert u (s ++ t) ≡ s ++ insert u t
unfolding insert settle
insert-past u [] t h = refl
insert-past u (v ∷ s) t h = rw (order-turn v.pattern u.pattern ∙ ap turn h.0, insert-past u s t h.1)

pub insert-front : (u : Term) (s : Sum) → T (in_order s) → T (ahead u.pattern s) → insert u s ≡ u ∷ s
unfolding gather
insert-front u s k h = ap (insert u) (sym (gather-fixed s k)) ∙ gather-fixed (u ∷ s) (order-cons u s h k)

pub insert-same : (u v : Term) (s : Sum) → order u.pattern v.pattern ≡ Ordering.eq → insert u (v ∷ s) ≡ term (u.coefficient +ℤ v.coefficient) u.pattern ∷ s
unfolding insert settle
insert-same u v s e = rw e (rw (order-eq u.pattern v.pattern e) refl)

-- ---- What the loop keeps.

-- any term: what is read from places that a list has does not depend on it
abbrev pub none : Term
none = term (pos 0) []

pub record Merging (running row : Sum) (i j : ℕ) (merged : Sum) : Type 0 where
  pub inside : i ≤ length running
  pub row_inside : j ≤ length row
  pub row_strict : T (in_order row)
  -- the terms of the row that were put in so far
  pub sum : gather (drop j row ++ running) ≡ take i running ++ merged
  -- the next one goes before what was merged
  pub ready : 0 < j → T (ahead (get_or row (j - 1) none).pattern merged)

pub start : (running row : Sum) {i j : ℕ} → length running ≡ i → length row ≡ j → T (in_order running) → T (in_order row) → Merging running row i j []
unfolding ahead
start running row {i} {j} many row_many strict row_strict = record {
  inside = omega arith;
  row_inside = omega arith;
  row_strict = row_strict;
  sum = rw (drop_of_length-le row {i = j} (omega arith)) (gather-fixed running strict ∙ sym (append-nil (take i running) ∙ take_all i running (omega arith)));
  ready = λ h. tt;
}

pub ended : {running row : Sum} {i j : ℕ} {merged : Sum} → Merging running row i j merged → j ≤ 0 → gather (row ++ running) ≡ take i running ++ merged
ended {running} {row} {i} {j} m h =
    let none_left : 0 ≡ j = omega arith in
    ap (λ (k : ℕ). gather (drop k row ++ running)) none_left ∙ m.sum

-- two neighbours of a row
next-before : (s : Sum) (k : ℕ) (d : Term) → T (in_order s) → suc k < length s → order (get_or s k d).pattern (get_or s (suc k) d).pattern ≡ Ordering.lt
unfolding ahead
next-before [] k d h l = absurd (omega arith)
next-before (u ∷ []) k d h l = absurd (omega arith)
next-before (u ∷ v ∷ s) zero d h l = before-is (order u.pattern v.pattern) (order-head u (v ∷ s) h)
next-before (u ∷ v ∷ s) (suc k) d h l = next-before (v ∷ s) k d (order-tail u (v ∷ s) h) (omega arith)

-- the first i terms of a list, by the last of them
take_last : (s : Sum) (i : ℕ) → 0 < i → i ≤ length s → (rest : Sum) → take i s ++ rest ≡ take (i - 1) s ++ (get_or s (i - 1) none ∷ rest)
take_last s i some inside rest =
    let one : suc (i - 1) ≡ i = omega arith in
    ap (λ (k : ℕ). take k s ++ rest) (sym one) ∙ ap (λ l. l ++ rest) (take-suc s (i - 1) none (omega arith)) ∙ append_snoc (take (i - 1) s) (get_or s (i - 1) none) rest

-- if the last of them stands before a pattern, all do
all-before : (s : Sum) (i : ℕ) (q : Pattern) (rest : Sum) → i ≤ length s → T (in_order (take i s ++ rest)) → last_stands i (get_or s (i - 1) none).pattern q ≡ Ordering.lt
    → Every (Before q) (take i s)
all-before s zero q rest inside k e = tt
all-before s (suc i) q rest inside k e =
    let u = get_or s (suc i - 1) none in
    let last : order u.pattern q ≡ Ordering.lt = sym (some-stands (suc i) u.pattern q (λ z. omega arith)) ∙ e in
    let front : Every (Before u.pattern) (take (suc i - 1) s) = front-before (take (suc i - 1) s) u rest (subst (λ l. T (in_order l)) (take_last s (suc i) (omega arith) inside rest) k) in
    subst (Every (Before q)) (sym (sym (append-nil (take (suc i) s)) ∙ take_last s (suc i) (omega arith) inside []))
    (append-every (Before q) (take (suc i - 1) s) (u ∷ []) (every_map (λ p h. order_trans p u.pattern q h last) (take (suc i - 1) s) front) (last, tt))

module _ {running row : Sum} {i j : ℕ} {merged : Sum} (m : Merging running row i j merged) where
  strict : T (in_order (take i running ++ merged))
  strict = subst (λ l. T (in_order l)) m.sum (gather-order (drop j row ++ running))

  module _ (more : 0 < j) where
    -- the row's next term, and the last of the running sum that are left
    abbrev t : Term
    t = get_or row (j - 1) none

    abbrev u : Term
    u = get_or running (i - 1) none

    next : gather (drop (j - 1) row ++ running) ≡ insert t (take i running ++ merged)
    unfolding gather
    next =
        let one : suc (j - 1) ≡ j = omega arith in
        ap (λ l. gather (l ++ running)) (drop-cons row (j - 1) none (omega (arith, m.row_inside)) ∙ ap (λ (k : ℕ). t ∷ drop k row) one)
        ∙ ap (insert t) m.sum

    -- the term of the row before it
    earlier : 0 < j - 1 → order (get_or row (j - 1 - 1) none).pattern t.pattern ≡ Ordering.lt
    earlier h =
        let one : suc (j - 1 - 1) ≡ j - 1 = omega arith in
        subst (λ (k : ℕ). order (get_or row (j - 1 - 1) none).pattern (get_or row k none).pattern ≡ Ordering.lt) one
        (next-before row (j - 1 - 1) none m.row_strict (omega (arith, m.row_inside)))

    -- the row's term is new
    pub goes_in : last_stands i u.pattern t.pattern ≡ Ordering.lt → Merging running row i (j - 1) (t ∷ merged)
    unfolding ahead
    goes_in e = record {
      inside = m.inside;
      row_inside = omega (arith, m.row_inside);
      row_strict = m.row_strict;
      sum =
          next
          ∙ insert-past t (take i running) merged (all-before running i t.pattern merged m.inside strict e)
          ∙ ap (λ l. take i running ++ l) (insert-front t merged (order-rest (take i running) merged strict) (m.ready more));
      ready = λ h. is-before _ (earlier h);
    }

    module _ (some : 0 < i) where
      regrouped : take i running ++ merged ≡ take (i - 1) running ++ (u ∷ merged)
      regrouped = take_last running i some m.inside merged

      -- it is of the pattern of the sum's last
      pub adds-up : order u.pattern t.pattern ≡ Ordering.eq
          → Merging running row (i - 1) (j - 1) (term (t.coefficient +ℤ u.coefficient) t.pattern ∷ merged)
      unfolding ahead
      adds-up e = record {
        inside = omega (arith, m.inside);
        row_inside = omega (arith, m.row_inside);
        row_strict = m.row_strict;
        sum =
            let front : Every (Before u.pattern) (take (i - 1) running) = front-before (take (i - 1) running) u merged (subst (λ l. T (in_order l)) regrouped strict) in
            next ∙ ap (insert t) regrouped
            ∙ insert-past t (take (i - 1) running) (u ∷ merged) (subst (λ (p : Pattern). Every (Before p) (take (i - 1) running)) (order-eq u.pattern t.pattern e) front)
            ∙ ap (λ l. take (i - 1) running ++ l) (insert-same t u merged (order-turn u.pattern t.pattern ∙ ap turn e));
        ready = λ h. is-before _ (earlier h);
      }

      -- it goes before the sum's last
      pub moves : order u.pattern t.pattern ≡ Ordering.gt → Merging running row (i - 1) j (u ∷ merged)
      unfolding ahead
      moves e = record {
        inside = omega (arith, m.inside);
        row_inside = m.row_inside;
        row_strict = m.row_strict;
        sum = m.sum ∙ regrouped;
        ready = λ h. is-before _ (order-back u.pattern t.pattern e);
      }
