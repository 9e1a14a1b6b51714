-- A running sum that is a list of terms gathered: it can be held, it stands in two areas after a row was added, and without what has cancelled it is
-- the list's ordered sum.
use mathlib.Core.Path.{◌≡◌, sym, ◌∙◌, ap}
use mathlib.Core.List.{List}
use Prim.Native.Nat.{ℕ, ◌≤◌}
use native.Mathlib.Omega.{arith}
use lib.IntN.{ℤ}
use Rattle.algebra.specs.Limits.{variables, largest_degree, most_terms}
use Rattle.algebra.specs.Sum.{Term}
use Rattle.algebra.specs.Collect.{gather, drop_zeros, collect, spread}
use Rattle.algebra.specs.Held.{first_terms}
use Rattle.algebra.proofs.Sums.Every.{Every, gather-every, Long, UpTo, every-degree}
use Rattle.algebra.proofs.Sums.Ordered.{gather-order}
use Rattle.algebra.proofs.Sums.Occurs.{spread-gather}
use Rattle.sums.specs.Formed.{Formed.formed, within}
use Rattle.sums.specs.Rows.{Stands}
use Rattle.sums.proofs.Holding.{Holdable}
use Rattle.sums.proofs.Forming.{within-yes}
use Rattle.sums.proofs.Fronts.{Placed, placed-is}

module _ (l : List Term) where
  pub gathered : Every (Long variables) l → Every (UpTo largest_degree) l → spread l ≤ most_terms → Holdable (gather l)
  gathered long low few = record {
    long = gather-every (Long variables) l long;
    strict = gather-order l;
    low = every-degree largest_degree (gather l) (gather-every (UpTo largest_degree) l low);
    few = omega (arith, spread-gather l);
  }

  -- a list whose spread is at most 128
  pub gathered-placed : Every (Long variables) l → Every (UpTo largest_degree) l → spread l ≤ most_terms → {n : ℕ} {ws : List ℕ} {cs : List ℤ} → Stands (gather l) n ws cs → Placed (gather l) n ws cs
  gathered-placed long low few stands = record { stands = stands; holdable = gathered long low few }

  pub placed-finished : {n : ℕ} {ws : List ℕ} {cs : List ℤ} → Placed (gather l) n ws cs → formed (drop_zeros (first_terms n ws cs)) ≡ within (spread l) (collect l)
  unfolding collect
  placed-finished p =
      let few : spread l ≤ most_terms = omega (arith, spread-gather l, p.holdable.few) in
      ap (λ s. formed (drop_zeros s)) (placed-is p) ∙ sym (within-yes (spread l) (drop_zeros (gather l)) few)
