-- Tests that the toolchain has no laws for: what fails is false, and alternatives in another order. (Laws of `&&` and of what holds are in `lib.Ieee.Fits` and `lib.Ieee.Bits`.)
use mathlib.Core.Path.{◌≡◌, refl}
use mathlib.Core.Bool.{Bool, true, false, ◌||◌}
use lib.Dec.{T}

pub false-is : (b : Bool) → (T b → ⊥) → b ≡ false
false-is true h = absurd (h tt)
false-is false h = refl

pub or_swap : (a b c : Bool) → a || (b || c) ≡ b || (a || c)
or_swap true true c = refl
or_swap true false c = refl
or_swap false true c = refl
or_swap false false c = refl

pub or-mix : (a b c d : Bool) → (a || b) || (c || d) ≡ (a || c) || (b || d)
or-mix true b c d = refl
or-mix false true true d = refl
or-mix false true false d = refl
or-mix false false true d = refl
or-mix false false false d = refl
