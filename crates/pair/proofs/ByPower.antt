-- The rows taken power by power, as the code adds them: once the largest power is reached they are the rows of all terms, in another order. In n variables.
use mathlib.Core.Path.{◌≡◌, refl, sym, ◌∙◌, ap, ap₂}
use mathlib.Core.Bool.{◌||◌}
use mathlib.Core.List.{List, [], ◌∷◌, ◌++◌, append_assoc}
use Prim.Native.Nat.{ℕ, zero, suc, ◌+◌, ◌-◌, ◌≤◌, ◌<◌, max}
use native.Mathlib.Omega.{arith}
use native.Mathlib.Decide.{ℕ_discrete}
use native.Mathlib.Nat.{le_refl, le_trans, zero-add}
use lib.IntN.{◌+ℤ◌}
use Rattle.algebra.specs.Pattern.{Pattern, exponent, without}
use Rattle.algebra.specs.Sum.{Term, Sum, weight}
use Rattle.algebra.specs.Collect.{collect, occurs, spread}
use Rattle.algebra.specs.Arithmetic.{row, pairs, power}
use Rattle.algebra.specs.Substitute.{rows, pair_rows, pair_factor, substitute, largest_power}
use Rattle.algebra.specs.Value.{total}
use Rattle.algebra.proofs.Numbers.Test.{or_swap}
use Rattle.algebra.proofs.Numbers.Whole.{+ℤ-left-comm}
use Rattle.algebra.proofs.Patterns.Laws.{times-length}
use Rattle.algebra.proofs.Sums.Every.{Every, append-every, pairs-every, Long}
use Rattle.algebra.proofs.Sums.Total.{total-append}
use Rattle.algebra.proofs.Sums.Equal.{collect-equal}
use Rattle.algebra.proofs.Sums.Spreads.{same-spread, append-occurs, spread-rises}
use Rattle.algebra.proofs.Sums.Results.{append-weight}
use Rattle.pair.specs.Rows.{part_at, rows_at}
use Rattle.pair.proofs.TakingPart.{rest, part-this, part-other, part-long}

-- ---- The rows of one power, term by term.

-- the row of a term: without v, times each term of F
abbrev row_of : ℕ → Sum → Term → List Term
row_of v F t = row (rest v t) F

module _ (v k : ℕ) (F : Sum) where
  rows-this : (t : Term) (s : Sum) → exponent v t.pattern ≡ k → rows_at v k F (t ∷ s) ≡ row_of v F t ++ rows_at v k F s
  unfolding pairs
  rows-this t s is = ap (λ l. pairs l F) (part-this v k t s is)

  rows_other : (t : Term) (s : Sum) → (exponent v t.pattern ≡ k → ⊥) → rows_at v k F (t ∷ s) ≡ rows_at v k F s
  rows_other t s other = ap (λ l. pairs l F) (part-other v k t s other)

-- the rows of sums in n variables are in n variables
pub rows_long : (n v k : ℕ) (F s : Sum) → Every (Long n) F → Every (Long n) s → Every (Long n) (rows_at v k F s)
rows_long n v k F s factor into = pairs-every (Long n) (Long n) (Long n) (times-length n) (part_at v k s) F (part-long v k n s into) factor

-- ---- Power by power.

module _ (n v : ℕ) (S : Sum) where
  -- the rows of the powers from 0 to k; those of the power k are the last that the code adds
  unfoldable pub rows_to : Sum → ℕ → List Term
  rows_to s zero = rows_at v 0 (power n S 0) s
  rows_to s (suc k) = rows_at v (suc k) (power n S (suc k)) s ++ rows_to s k

  pub none-to : (k : ℕ) → rows_to [] k ≡ []
  unfolding rows_to part_at pairs
  none-to zero = refl
  none-to (suc k) = none-to k

  -- a term whose power is higher is not among them
  higher : (t : Term) (s : Sum) (k : ℕ) → k < exponent v t.pattern → rows_to (t ∷ s) k ≡ rows_to s k
  unfolding rows_to
  higher t s zero h = rows_other v 0 (power n S 0) t s (λ e. omega arith)
  higher t s (suc k) h = ap₂ ◌++◌ (rows_other v (suc k) (power n S (suc k)) t s (λ e. omega arith)) (higher t s k (omega arith))

  -- What is counted over rows, whatever their order: `join` is how the counts of two lists give that of both.
  module _ {A : Type 0} (count : List Term → A) (join : A → A → A) (joined : (l m : List Term) → count (l ++ m) ≡ join (count l) (count m))
      (swapped : (a b c : A) → join a (join b c) ≡ join b (join a c)) where
    -- a term whose power is reached counts with its row
    reached : (t : Term) (s : Sum) (k : ℕ) → exponent v t.pattern ≤ k → count (rows_to (t ∷ s) k) ≡ join (count (row_of v (power n S (exponent v t.pattern)) t)) (count (rows_to s k))
    unfolding rows_to
    reached t s zero h =
        let e = exponent v t.pattern in
        let is : e ≡ 0 = omega arith in
        ap count (rows-this v 0 (power n S 0) t s is) ∙ joined (row_of v (power n S 0) t) (rows_at v 0 (power n S 0) s)
        ∙ ap (λ (i : ℕ). join (count (row_of v (power n S i) t)) (count (rows_to s 0))) (sym is)
    reached t s (suc k) h = go (ℕ_discrete (exponent v t.pattern) (suc k)) (reached t s k)
      where
        e : ℕ
        e = exponent v t.pattern

        F : Sum
        F = power n S (suc k)

        here : List Term
        here = rows_at v (suc k) F s

        go : Dec (exponent v t.pattern ≡ suc k)
            → (exponent v t.pattern ≤ k → count (rows_to (t ∷ s) k) ≡ join (count (row_of v (power n S (exponent v t.pattern)) t)) (count (rows_to s k)))
            → count (rows_at v (suc k) F (t ∷ s) ++ rows_to (t ∷ s) k) ≡ join (count (row_of v (power n S (exponent v t.pattern)) t)) (count (here ++ rows_to s k))
        go (yes is) ih =
            ap count (ap₂ ◌++◌ (rows-this v (suc k) F t s is) (higher t s k (omega arith)) ∙ append_assoc (row_of v F t) here (rows_to s k))
            ∙ joined (row_of v F t) (here ++ rows_to s k)
            ∙ ap (λ (i : ℕ). join (count (row_of v (power n S i) t)) (count (here ++ rows_to s k))) (sym is)
        go (no other) ih =
            let own = row_of v (power n S (exponent v t.pattern)) t in
            ap (λ l. count (l ++ rows_to (t ∷ s) k)) (rows_other v (suc k) F t s other)
            ∙ joined here (rows_to (t ∷ s) k) ∙ ap (join (count here)) (ih (omega (arith, other)))
            ∙ swapped (count here) (count own) (count (rows_to s k)) ∙ ap (join (count own)) (sym (joined here (rows_to s k)))

    -- from the largest power on all terms count
    pub all-reached : (s : Sum) (k : ℕ) → largest_power v s ≤ k → count (rows_to s k) ≡ count (pair_rows n v S s)
    unfolding pair_rows rows
    all-reached [] k h = ap count (none-to k)
    all-reached (t ∷ s) k h =
        let most : max (exponent v t.pattern) (largest_power v s) ≤ k = unfold largest_power in h in
        reached t s k (omega arith)
        ∙ ap (join (count (row_of v (pair_factor n v S t.pattern) t))) (all-reached s k (omega arith))
        ∙ sym (joined (row_of v (pair_factor n v S t.pattern) t) (rows (without v) (pair_factor n v S) s))

  -- ---- Totals, patterns and weight are counted so.

  module _ (s : Sum) (k : ℕ) (all : largest_power v s ≤ k) where
    pub all-collected : collect (rows_to s k) ≡ substitute n v S s
    unfolding substitute
    all-collected = collect-equal (rows_to s k) (pair_rows n v S s) (λ f A. all-reached (total f) ◌+ℤ◌ (total-append f) +ℤ-left-comm s k all)

    pub all-spread : spread (rows_to s k) ≡ spread (pair_rows n v S s)
    all-spread = same-spread (rows_to s k) (pair_rows n v S s) (λ r. all-reached (occurs r) ◌||◌ (append-occurs r) or_swap s k all)

    all-weight : weight (rows_to s k) ≡ weight (pair_rows n v S s)
    all-weight = all-reached weight ◌+◌ append-weight (λ a b c. omega arith) s k all

  -- with more powers the spread and the weight never fall
  more_rows : (s : Sum) (k d : ℕ) → (spread (rows_to s k) ≤ spread (rows_to s (d + k))) × (weight (rows_to s k) ≤ weight (rows_to s (d + k)))
  unfolding rows_to
  more_rows s k zero = rw (zero-add k) (le_refl _, le_refl _)
  more_rows s k (suc d) =
      let ih = more_rows s k d in
      let next = rows_at v (suc (d + k)) (power n S (suc (d + k))) s in
      let up : suc d + k ≡ suc (d + k) = omega arith in
      rw up (le_trans ih.0 (spread-rises next (rows_to s (d + k))), omega (arith, ih.1, append-weight next (rows_to s (d + k))))

  -- so at no power they are more than those of all terms
  module _ (s : Sum) (k : ℕ) (inside : k ≤ largest_power v s) where
    at-largest : (spread (rows_to s k) ≤ spread (rows_to s (largest_power v s))) × (weight (rows_to s k) ≤ weight (rows_to s (largest_power v s)))
    at-largest =
        let up : largest_power v s - k + k ≡ largest_power v s = omega arith in
        rw up at (more_rows s k (largest_power v s - k))

    pub to-spread : spread (rows_to s k) ≤ spread (pair_rows n v S s)
    to-spread = omega (arith, at-largest.0, all-spread s (largest_power v s) (le_refl _))

    pub to-weight : weight (rows_to s k) ≤ weight (pair_rows n v S s)
    to-weight = omega (arith, at-largest.1, all-weight s (largest_power v s) (le_refl _))

  pub to-every : (P : Pattern → Type 0) (s : Sum) → ((k : ℕ) → Every P (rows_at v k (power n S k) s)) → (k : ℕ) → Every P (rows_to s k)
  unfolding rows_to
  to-every P s h zero = h 0
  to-every P s h (suc k) = append-every P (rows_at v (suc k) (power n S (suc k)) s) (rows_to s k) (h (suc k)) (to-every P s h k)
