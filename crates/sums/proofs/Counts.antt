-- What the loop of `spread` keeps: the patterns of the terms that are done are counted.
use mathlib.Core.Path.{◌≡◌}
use mathlib.Core.List.{List, ◌++◌}
use Prim.Native.Nat.{Ordering}
use Prim.Native.Nat.{ℕ, ◌+◌, ◌≤◌, ◌<◌}
use native.Mathlib.Omega.{arith}
use lib.IntN.{ℤ}
use lib.ListN.{length, length-append}
use Rattle.algebra.specs.Limits.{most_terms}
use Rattle.algebra.specs.Arithmetic.{sum_spread}
use Rattle.algebra.specs.Word.{terms}
use Rattle.algebra.proofs.Sums.Occurs.{spread-length}
use Rattle.sums.specs.Held.{Held}
use Rattle.sums.specs.Adding.{next_stands}
use Rattle.sums.proofs.Holding.{terms-many}
use Rattle.sums.proofs.Nexts.{next-first, next-second, next_both}
use Rattle.sums.proofs.Joining.{Counting, count-start, count-ended, counts-first, counts-second, counts-both}

pub record Counts (sp : List ℕ) (sc : List ℤ) (tp : List ℕ) (tc : List ℤ) (x y count : ℕ) : Type 0 where
  pub first : Held sp sc
  pub second : Held tp tc
  pub counting : Counting (terms sp sc) (terms tp tc) x y count
  pub few : count ≤ x + y
  pub first_inside : x ≤ length sp
  pub second_inside : y ≤ length tp
  pub first_few : length sp ≤ most_terms
  pub second_few : length tp ≤ most_terms

module _ {sp : List ℕ} {sc : List ℤ} {tp : List ℕ} {tc : List ℤ} (one : Held sp sc) (two : Held tp tc) where
  built : {x y count : ℕ} → Counting (terms sp sc) (terms tp tc) x y count → count ≤ x + y → Counts sp sc tp tc x y count
  built counting few = record {
    first = one;
    second = two;
    counting = counting;
    few = few;
    first_inside = omega (arith, counting.first, terms-many one);
    second_inside = omega (arith, counting.second, terms-many two);
    first_few = one.few;
    second_few = two.few;
  }

  pub begin : Counts sp sc tp tc 0 0 0
  begin = built (count-start (terms sp sc) (terms tp tc)) (omega arith)

  -- the spread is not above the number of terms
  pub spread-below : sum_spread (terms sp sc) (terms tp tc) ≤ length sp + length tp
  unfolding sum_spread
  spread-below = omega (arith, spread-length (terms sp sc ++ terms tp tc), length-append (terms sp sc) (terms tp tc), terms-many one, terms-many two)

module _ {sp : List ℕ} {sc : List ℤ} {tp : List ℕ} {tc : List ℤ} {x y count : ℕ} (l : Counts sp sc tp tc x y count) where
  module _ (left : x + y < length sp + length tp) where
    pub steps_first : next_stands x sp y tp ≡ Ordering.lt → Counts sp sc tp tc (x + 1) y (count + 1)
    steps_first e =
        let c = next-first l.first l.second x y l.first_inside l.second_inside left e in
        built l.first l.second
        (counts-first l.first.strict l.second.strict l.counting (omega (arith, c.0, terms-many l.first)) (λ g. c.1 (omega (arith, terms-many l.second))))
        (omega (arith, l.few))

    pub steps-second : next_stands x sp y tp ≡ Ordering.gt → Counts sp sc tp tc x (y + 1) (count + 1)
    steps-second e =
        let c = next-second l.first l.second x y l.first_inside l.second_inside left e in
        built l.first l.second
        (counts-second l.first.strict l.second.strict l.counting (omega (arith, c.0, terms-many l.second)) (λ h. c.1 (omega (arith, terms-many l.first))))
        (omega (arith, l.few))

    pub steps-both : next_stands x sp y tp ≡ Ordering.eq → Counts sp sc tp tc (x + 1) (y + 1) (count + 1)
    steps-both e =
        let c = next_both l.first l.second x y l.first_inside l.second_inside left e in
        built l.first l.second
        (counts-both l.first.strict l.second.strict l.counting (omega (arith, c.0.1, terms-many l.second)) (omega (arith, c.0.0, terms-many l.first)) c.1)
        (omega (arith, l.few))

  pub finally : length sp + length tp ≤ x + y → count ≡ sum_spread (terms sp sc) (terms tp tc)
  finally h = count-ended l.counting (omega (arith, terms-many l.first, terms-many l.second))
