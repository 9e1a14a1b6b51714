-- The native comparison of numbers: what its answer says, and that only one answer says it.
use mathlib.Core.Path.{◌≡◌, refl, sym, subst}
use Prim.Native.Nat.compare
use Prim.Native.Nat.{ℕ, zero, suc, ◌+◌, ◌<◌, compare, Ordering}
use native.Mathlib.Omega.{arith}

abbrev pub Says : Ordering → ℕ → ℕ → Type 0
Says Ordering.lt m n = m < n
Says Ordering.eq m n = m ≡ n
Says Ordering.gt m n = n < m

says-suc : (o : Ordering) (m n : ℕ) → Says o m n → Says o (suc m) (suc n)
says-suc Ordering.lt m n h = omega arith
says-suc Ordering.eq m n h = omega arith
says-suc Ordering.gt m n h = omega arith

pub compare-says : (m n : ℕ) → Says (compare m n) m n
compare-says zero zero = refl
compare-says zero (suc n) = rw compare.zero-suc (omega arith)
compare-says (suc m) zero = rw compare.suc-zero (omega arith)
compare-says (suc m) (suc n) = rw compare.suc-suc (says-suc (compare m n) m n (compare-says m n))

says-one : (o o' : Ordering) (m n : ℕ) → Says o m n → Says o' m n → o ≡ o'
says-one Ordering.lt Ordering.lt m n h k = refl
says-one Ordering.lt Ordering.eq m n h k = absurd (omega arith)
says-one Ordering.lt Ordering.gt m n h k = absurd (omega arith)
says-one Ordering.eq Ordering.lt m n h k = absurd (omega arith)
says-one Ordering.eq Ordering.eq m n h k = refl
says-one Ordering.eq Ordering.gt m n h k = absurd (omega arith)
says-one Ordering.gt Ordering.lt m n h k = absurd (omega arith)
says-one Ordering.gt Ordering.eq m n h k = absurd (omega arith)
says-one Ordering.gt Ordering.gt m n h k = refl

pub compare-is : (o : Ordering) (m n : ℕ) → Says o m n → compare m n ≡ o
compare-is o m n h = says-one (compare m n) o m n (compare-says m n) h

pub compare-eq : (m n : ℕ) → compare m n ≡ Ordering.eq → m ≡ n
compare-eq m n h = subst (λ o. Says o m n) h (compare-says m n)

-- the other way round
abbrev pub turn : Ordering → Ordering
turn Ordering.lt = Ordering.gt
turn Ordering.eq = Ordering.eq
turn Ordering.gt = Ordering.lt

says-turn : (o : Ordering) (m n : ℕ) → Says o m n → Says (turn o) n m
says-turn Ordering.lt m n h = h
says-turn Ordering.eq m n h = sym h
says-turn Ordering.gt m n h = h

pub compare-turn : (m n : ℕ) → compare n m ≡ turn (compare m n)
compare-turn m n = compare-is (turn (compare m n)) n m (says-turn (compare m n) m n (compare-says m n))

-- the same on both sides changes nothing
says-add : (o : Ordering) (k m n : ℕ) → Says o m n → Says o (k + m) (k + n)
says-add Ordering.lt k m n h = omega arith
says-add Ordering.eq k m n h = omega arith
says-add Ordering.gt k m n h = omega arith

pub compare-add : (k m n : ℕ) → compare (k + m) (k + n) ≡ compare m n
compare-add k m n = compare-is (compare m n) (k + m) (k + n) (says-add (compare m n) k m n (compare-says m n))
