-- Any list of terms has one ordered sum: like terms are collected and put in order, and what has cancelled is dropped at the end.
use Rattle.std.specs.Prelude.{Bool, true, false, ◌||◌, List, [], ◌∷◌, ◌+ℤ◌}
use Prim.Native.Nat.{ℕ, suc, Ordering}
use Rattle.algebra.specs.Pattern.{Pattern, same, order}
use Rattle.algebra.specs.Sum.{Term, term, Sum, is_zero}

-- t goes before u, adds to u, or goes somewhere after u, by how their patterns stand; s is what follows u, and `after` is s with t
unfoldable pub settle : Ordering → Term → Term → Sum → Sum → Sum
settle Ordering.lt t u s after = t ∷ u ∷ s
settle Ordering.eq t u s after = term (t.coefficient +ℤ u.coefficient) u.pattern ∷ s
settle Ordering.gt t u s after = u ∷ after

-- a term put into a sum that is in order; a coefficient that becomes 0 stays
unfoldable pub insert : Term → Sum → Sum
insert t [] = t ∷ []
insert t (u ∷ s) = let after = insert t s in settle (order t.pattern u.pattern) t u s after

-- like terms collected, in order, and nothing dropped
unfoldable pub gather : List Term → Sum
gather [] = []
gather (t ∷ l) = insert t (gather l)

-- t in front of s, unless it has cancelled
unfoldable pub keep : Bool → Term → Sum → Sum
keep true t s = s
keep false t s = t ∷ s

unfoldable pub drop_zeros : Sum → Sum
drop_zeros [] = []
drop_zeros (t ∷ s) = keep (is_zero t.coefficient) t (drop_zeros s)

-- the ordered sum of a list of terms
unfoldable pub collect : List Term → Sum
collect l = drop_zeros (gather l)

-- ---- The spread of a list of terms: the number of different patterns in it, whatever cancels.

unfoldable pub occurs : Pattern → List Term → Bool
occurs p [] = false
occurs p (t ∷ l) = let later = occurs p l in same p t.pattern || later

unfoldable pub count_new : Bool → ℕ → ℕ
count_new true m = m
count_new false m = suc m

-- a pattern counts at the last of its terms
unfoldable pub spread : List Term → ℕ
spread [] = 0
spread (t ∷ l) = count_new (occurs t.pattern l) (spread l)
