-- The tolerances up to the first negative one.
use mathlib.Core.Path.{◌≡◌, refl, sym, ◌∙◌, ap}
use mathlib.Core.Bool.{false, true≢false, false≢true}
use mathlib.Core.List.{List, [], ◌∷◌, map}
use Prim.Native.Nat.{ℕ, zero, suc, ◌≤◌, ◌<◌}
use native.Mathlib.Omega.{arith}
use native.Mathlib.Decide.{dec_lt}
use lib.IntN.{ℤ, pos, negsuc}
use lib.ListN.{length, get_or, get_or-eq_default}
use lib.Signed.{non_neg}
use Rattle.algebra.specs.Margin.{unsigned}
use Rattle.estimates.specs.Readings.{before_negative}
use Rattle.estimates.specs.Promised.{NoneBefore, FirstNegative}

pub at_most : (ts : List ℤ) → before_negative ts ≤ length ts
unfolding before_negative
at_most [] = omega arith
at_most (pos n ∷ ts) = omega (arith, at_most ts)
at_most (negsuc m ∷ ts) = omega arith

-- ---- What the number of those before the first negative one says of each.

-- none of those that are counted is negative, and the next one is
counted : (ts : List ℤ) → NoneBefore ts (before_negative ts)
unfolding before_negative
counted [] i h = refl
counted (pos n ∷ ts) zero h = refl
counted (pos n ∷ ts) (suc i) h = counted ts i (omega arith)
counted (negsuc m ∷ ts) i h = absurd (omega arith)

stopped : (ts : List ℤ) → before_negative ts < length ts → non_neg (get_or ts (before_negative ts) (pos 0)) ≡ false
unfolding before_negative
stopped [] h = absurd (omega arith)
stopped (pos n ∷ ts) h = stopped ts (omega arith)
stopped (negsuc m ∷ ts) h = refl

pub first-negative : (ts : List ℤ) → before_negative ts < length ts → FirstNegative ts (before_negative ts)
first-negative ts h = record { negative_there = stopped ts h; none_before = counted ts }

pub none-negative : (ts : List ℤ) → before_negative ts ≡ length ts → NoneBefore ts (length ts)
none-negative ts e = rw e at (counted ts)

-- ---- And conversely.

pub at_first : (ts : List ℤ) (v : ℕ) → FirstNegative ts v → before_negative ts ≡ v
unfolding before_negative
at_first [] v f = absurd (true≢false f.negative_there)
at_first (pos n ∷ ts) zero f = absurd (true≢false f.negative_there)
at_first (pos n ∷ ts) (suc v) f =
    ap suc (at_first ts v (record { negative_there = f.negative_there; none_before = λ i h. f.none_before (suc i) (omega arith) }))
at_first (negsuc m ∷ ts) zero f = refl
at_first (negsuc m ∷ ts) (suc v) f = absurd (false≢true (f.none_before 0 (omega arith)))

pub all-allowed : (ts : List ℤ) → NoneBefore ts (length ts) → before_negative ts ≡ length ts
unfolding before_negative
all-allowed [] none = refl
all-allowed (pos n ∷ ts) none = ap suc (all-allowed ts (λ i h. none (suc i) (omega arith)))
all-allowed (negsuc m ∷ ts) none = absurd (false≢true (none 0 (omega arith)))

pub negative-inside : (ts : List ℤ) {v : ℕ} → FirstNegative ts v → v < length ts
negative-inside ts {v} f = go (dec_lt v (length ts))
  where
    go : Dec (v < length ts) → v < length ts
    go (yes inside) = inside
    go (no past) = absurd (true≢false (ap non_neg (sym (get_or-eq_default ts (pos 0) (omega (arith, past)))) ∙ f.negative_there))

-- ---- None is negative: they are numbers without a sign.

pub allowed-are : (ts : List ℤ) → before_negative ts ≡ length ts → ts ≡ map pos (unsigned ts)
unfolding before_negative unsigned
allowed-are [] e = refl
allowed-are (pos n ∷ ts) e = ap (λ l. pos n ∷ l) (allowed-are ts (omega (arith, e)))
allowed-are (negsuc m ∷ ts) e = absurd (omega (arith, e))

pub are-allowed : (zs : List ℤ) (ts : List ℕ) → zs ≡ map pos ts → (before_negative zs ≡ length zs) × (unsigned zs ≡ ts)
unfolding before_negative unsigned
are-allowed zs ts e = rw e (all ts)
  where
    all : (ts : List ℕ) → (before_negative (map pos ts) ≡ length (map pos ts)) × (unsigned (map pos ts) ≡ ts)
    all [] = (refl, refl)
    all (t ∷ ts) = let rest = all ts in (ap suc rest.0, ap (λ l. t ∷ l) rest.1)
