-- Signed whole numbers as unsigned ones: n is written as 2n if n ≥ 0, and as -2n - 1 otherwise.
use Rattle.std.specs.Prelude.{ℕ, suc, ◌*◌, ◌-◌, ◌/◌, ◌%◌, cond, eqb, ℤ, pos, negsuc}

-- `negsuc k` is -(k + 1)
unfoldable pub code : ℤ → ℕ
code (pos n) = 2 * n
code (negsuc k) = 2 * suc k - 1

-- back: the even codes are those of the numbers from 0 up
unfoldable pub decode : ℕ → ℤ
decode c = cond (eqb (c % 2) 0) (pos (c / 2)) (negsuc (c / 2))
