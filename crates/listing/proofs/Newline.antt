-- The last newline of an input.
use mathlib.Core.Path.{◌≡◌, refl, ap, ◌∙◌}
use mathlib.Core.Bool.{Bool, true, false, cond, ◌&&◌}
use mathlib.Core.List.{List, [], ◌∷◌}
use Prim.Native.Nat.{ℕ, zero, suc, ◌+◌, ◌-◌, ◌≤◌}
use native.Mathlib.Omega.{arith}
use denote.Bor.{Bor}
use lib.Dec.{eqb}
use lib.ListN.{length, take, drop}
use lib.Pointwise.{pointwise}
use Rattle.std.specs.Prelude.{Option, Some, None, MatchOption, unwrap_or}
use Rattle.listing.specs.Lines.{newline}
use Rattle.listing.specs.Listing.{without_newline}

-- the input ends with one
abbrev ends : List ℕ → ℕ → Bool
ends input k = pointwise eqb (drop k input) (newline ∷ [])

cond-cons : {A : Type 0} (b : Bool) (x : A) (l m : List A) → cond b (x ∷ l) (x ∷ m) ≡ x ∷ cond b l m
cond-cons true x l m = refl
cond-cons false x l m = refl

-- its last place is k
last : (input : List ℕ) (k : ℕ) → length input ≡ suc k → cond (ends input k) (take k input) input ≡ without_newline input
unfolding without_newline
last [] k long = absurd (omega arith)
last (b ∷ []) zero long = go (eqb b newline)
  where
    go : (t : Bool) → cond (t && true) [] (b ∷ []) ≡ cond t [] (b ∷ [])
    go true = refl
    go false = refl
last (b ∷ []) (suc k) long = absurd (omega arith)
last (b ∷ c ∷ rest) zero long = absurd (omega arith)
last (b ∷ c ∷ rest) (suc k) long = cond-cons (ends (c ∷ rest) k) b (take k (c ∷ rest)) (c ∷ rest) ∙ ap (λ (l : List ℕ). b ∷ l) (last (c ∷ rest) k (omega arith))

by-last : (input : List ℕ) → cond (ends input (length input - 1)) (take (length input - 1) input) input ≡ without_newline input
unfolding without_newline
by-last [] = refl
by-last (b ∷ rest) = let e : length (b ∷ rest) - 1 ≡ length rest = omega arith in rw e (last (b ∷ rest) (length rest) refl)

-- it was taken off, or was not there
pub stripped : (r : Option (Bor (List ℕ))) (input : Bor (List ℕ))
    → MatchOption r (ends input.now (length input.now - 1) ≡ false)
    (λ x. (ends input.now (length input.now - 1) ≡ true) × (x.now ≡ take (length input.now - 1) input.now) × (length x.now + 1 ≡ length input.now))
    → (unwrap_or r input).now ≡ without_newline input.now
stripped None input none = rw none at (by-last input.now)
stripped (Some x) input some = some.1 ∙ (rw some.0 at (by-last input.now))

-- the input is one byte longer at most
pub one-longer : (input : List ℕ) → length input ≤ length (without_newline input) + 1
unfolding without_newline
one-longer [] = omega arith
one-longer (b ∷ []) = go (eqb b newline)
  where
    go : (t : Bool) → 1 ≤ length (cond t [] (b ∷ [])) + 1
    go true = omega arith
    go false = omega arith
one-longer (b ∷ c ∷ rest) = omega (arith, one-longer (c ∷ rest))
