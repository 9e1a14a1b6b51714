-- What the code keeps of a product, and of a sum, at the readings x and at the raised readings y.
use Rattle.std.specs.Prelude.{◌≡◌, List, ℕ, ◌+◌, ◌*◌, ◌^◌, ◌≤◌, ℤ, nat_abs, ◌+ℤ◌, ◌*ℤ◌}
use Rattle.std.proofs.Math.IntN.{pow}
use Rattle.algebra.specs.Limits.{largest_weight}
use Rattle.algebra.specs.Sum.{Sum}
use Rattle.algebra.specs.Value.{value}
use Rattle.algebra.specs.Margin.{size, unsigned}
use Rattle.weights.specs.Capped.{capped}
use Rattle.estimates.specs.declared.factors.Both.{Both}
use Rattle.estimates.specs.declared.valuing.Parts.{Parts}
use Rattle.estimates.specs.Inside.Held.{Holds}

-- whatever two pairs are kept of, the third is kept of the products
abbrev pub Times : Both → Both → Both → Type 0
Times a b result =
    (m m' : ℕ) (n n' : ℤ) → Holds a.most a.value m n → Holds b.most b.value m' n' → Holds result.most result.value (m * m') (n *ℤ n')

-- the same of a pair and of a power of two numbers
abbrev pub TimesPower : Both → ℕ → ℤ → ℕ → Both → Type 0
TimesPower a raised reading e result = (m : ℕ) (n : ℤ) → Holds a.most a.value m n → Holds result.most result.value (m * raised ^ e) (n *ℤ pow reading e)

-- The raised value of a sum, as a weight is kept; and where it is allowed, the value at the readings, and that with all signs dropped.
pub record Keeps (kept : Parts) (s : Sum) (x : List ℤ) (y : List ℕ) : Type 0 where
  pub most_is : capped kept.most ≡ capped (size s y)
  pub estimate_is : kept.most ≤ largest_weight → kept.estimate ≡ value s x
  pub plain_is : kept.most ≤ largest_weight → kept.plain ≡ size s (unsigned x)

-- ---- One term after another.

-- what is kept of the terms so far
pub record Allowed (kept : Parts) : Type 0 where
  pub most_allowed : kept.most ≤ largest_weight
  pub plain_within : kept.plain ≤ kept.most
  pub estimate_within : nat_abs kept.estimate ≤ kept.plain

-- and with one term more
pub record Added (kept : Parts) (term : Both) (result : Parts) : Type 0 where
  pub most_is : capped result.most ≡ capped (kept.most + term.most)
  pub estimate_is : result.most ≤ largest_weight → result.estimate ≡ kept.estimate +ℤ term.value
  pub plain_is : result.most ≤ largest_weight → result.plain ≡ kept.plain + nat_abs term.value
