-- What tables of cases spell packed sums with, whatever the number of variables is. A coefficient stands as its code: 2n for n from 0 up, and −2n − 1 for n below.
use mathlib.Core.List.{List, [], ◌∷◌, ◌++◌}
use Prim.Native.Nat.{ℕ, ◌-◌}
use lib.ListN.{length, replicate}
use Rattle.algebra.specs.Limits.{variables}

-- the powers of the first letters; those of the others are 0
abbrev pub powers : List ℕ → List ℕ
powers es = es ++ replicate (variables - length es) 0

-- one term with powers of a and b, of a coefficient whose code takes one byte
abbrev pub two : ℕ → ℕ → ℕ → List ℕ
two c p q = c ∷ powers (p ∷ q ∷ [])

-- (a+b)^2-b^2, which is a² + 2ab
abbrev pub square : List ℕ
square = 2 ∷ two 2 2 0 ++ two 4 1 1

-- the code of 2^62
abbrev pub heaviest : List ℕ
heaviest = replicate 9 128 ++ (1 ∷ [])
