-- All pairs of the terms with one power of v and of what is put for it: what `add_rows` asks of `add_product`, and what it is told.
use mathlib.Core.Path.{◌≡◌, refl, sym, ◌∙◌, ap, subst}
use mathlib.Core.List.{List, [], ◌∷◌, ◌++◌}
use Prim.Native.Nat.{ℕ, ◌+◌, ◌≤◌, max}
use native.Mathlib.Omega.{arith}
use lib.IntN.{ℤ}
use lib.ListN.{length, take}
use Rattle.algebra.specs.Limits.{largest_degree, most_terms}
use Rattle.algebra.specs.Pattern.{degree}
use Rattle.algebra.specs.Sum.{Term, Sum, degree_of}
use Rattle.algebra.specs.Collect.{gather, spread}
use Rattle.algebra.specs.Arithmetic.{row, pairs}
use Rattle.algebra.specs.Word.{terms}
use Rattle.algebra.specs.Held.{first_terms}
use Rattle.algebra.proofs.Patterns.Laws.{degree-times}
use Rattle.algebra.proofs.Sums.Ordered.{gather-fixed}
use Rattle.algebra.proofs.Sums.Occurs.{spread-gather}
use Rattle.algebra.proofs.Sums.Results.{pairs-weight}
use Rattle.sums.specs.Formed.{Formed, Formed.formed, within, with_row}
use Rattle.sums.specs.Rows.{Stands, Added, running_into, running_words, CanAddProduct}
use Rattle.sums.proofs.Answering.{added-formed}
use Rattle.sums.proofs.Fronts.{Placed, placed-is, placed-held, held-placed}
use Rattle.sums.proofs.RunningWords.{running-many, product-added}
use Rattle.pair.specs.Rows.{part_at, rows_at, CanAddRows}
use Rattle.pair.proofs.TakingPart.{part_placed}

-- ---- All pairs of two sums.

append-degree : (l m : List Term) → degree_of (l ++ m) ≡ max (degree_of l) (degree_of m)
unfolding degree_of
append-degree [] m = omega arith
append-degree (t ∷ l) m = omega (arith, append-degree l m)

-- the degree of a row is that of its term and of the sum, if there is a term in the sum
row-high : (u : Term) (s : Sum) → degree u.pattern + degree_of s ≤ max (degree u.pattern) (degree_of (row u s))
unfolding row degree_of
row-high u [] = omega arith
row-high u (t ∷ s) = omega (arith, row-high u s, degree-times u.pattern t.pattern)

-- and that of all pairs is that of both sums, if both have terms: what bounds all of them bounds the degrees of both sums together
pairs-high : (m : ℕ) (s t : Sum) → degree_of s ≤ m → degree_of t ≤ m → degree_of (pairs s t) ≤ m → degree_of s + degree_of t ≤ m
unfolding pairs degree_of
pairs-high m [] t first second all = omega arith
pairs-high m (u ∷ s) t first second all =
    let both : max (degree_of (row u t)) (degree_of (pairs s t)) ≤ m = rw (append-degree (row u t) (pairs s t)) at all in
    let own : degree u.pattern + degree_of t ≤ m = omega (arith, row-high u t) in
    let later : degree_of s + degree_of t ≤ m = pairs-high m s t (omega arith) second (omega arith) in
    omega arith

-- ---- The part, once it stands in two arrays.

pub record Taken (v k : ℕ) (fp : List ℕ) (fc : List ℤ) (wp : List ℕ) (wc : List ℤ) (gr : List ℕ) (gc : List ℤ) (n m : ℕ) (pp : List ℕ) (pc : List ℤ) : Type 0 where
  pub asked : CanAddRows v k fp fc wp wc (running_words gr) gc n
  pub stands : Stands (part_at v k (terms fp fc)) m pp pc

module _ {v k : ℕ} {fp : List ℕ} {fc : List ℤ} {wp : List ℕ} {wc : List ℤ} {gr : List ℕ} {gc : List ℤ} {n m : ℕ} {pp : List ℕ} {pc : List ℤ} (p : Taken v k fp fc wp wc gr gc n m pp pc) where
  abbrev part : Sum
  part = part_at v k (terms fp fc)

  abbrev F : Sum
  F = terms wp wc

  placed : Placed part m pp pc
  placed = part_placed v k p.asked.known p.asked.into p.stands

  -- nothing to add
  pub none-added : m ≡ 0 → Added (with_row (rows_at v k (terms wp wc) (terms fp fc)) (first_terms n (running_words gr) gc)) (formed n) (running_words gr) gc
  unfolding with_row pairs
  none-added none =
      let r = first_terms n (running_words gr) gc in
      let running = held-placed {n = n} (omega (arith, p.asked.few, p.asked.words_room)) p.asked.running in
      let empty : part ≡ [] = nothing part (sym p.stands.number_is ∙ none) in
      let same : gather r ≡ r = gather-fixed r p.asked.running.strict in
      let few : spread r ≤ most_terms = omega (arith, spread-gather r, ap length same, running.holdable.few) in
      subst (λ (l : Sum). Added (within (spread (pairs l F ++ r)) (gather (pairs l F ++ r))) (formed n) (running_words gr) gc) (sym empty)
      (added-formed (spread r) (gather r) (running_words gr) gc few (rw same running.stands))
    where
      nothing : (l : Sum) → length l ≡ 0 → l ≡ []
      nothing [] e = refl
      nothing (t ∷ l) e = absurd (omega arith)

  -- what `add_product` requires
  pub can-add : CanAddProduct gr gc n (take m pp) (take m pc) wp wc
  can-add = record {
    running = p.asked.running;
    few = p.asked.few;
    first = placed-held placed;
    second = p.asked.factor;
    low = rw (placed-is placed) (pairs-high largest_degree part F placed.holdable.low p.asked.factor.low p.asked.low);
    light = rw (placed-is placed, ← pairs-weight part F) p.asked.light;
    words_room = omega (arith, p.asked.words_room, running-many gr);
    coefficients_room = omega (arith, p.asked.coefficients_room);
  }

  -- and what it answers: the rows are added
  pub rows-added : (ks₀ : List ℕ) (cs₀ : List ℤ) {answer : Formed ℕ} (gr' : List ℕ) {gc' : List ℤ}
      → (answer, gr', gc') ≡ running_into (with_row (pairs (terms (take m pp) (take m pc)) (terms wp wc)) (first_terms n (running_words gr) gc)) ks₀ cs₀
      → Added (with_row (rows_at v k (terms wp wc) (terms fp fc)) (first_terms n (running_words gr) gc)) answer (running_words gr') gc'
  rows-added ks₀ cs₀ gr' told = rw (placed-is placed) at (product-added can-add ks₀ cs₀ gr' told)
