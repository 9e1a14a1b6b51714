-- Whole numbers as they are printed: in decimal digits, the highest first, in as few as will do.
use Rattle.std.specs.Prelude.{cond, List, [], ◌∷◌, ◌++◌, ℕ, zero, suc, ◌+◌, ◌/◌, ◌%◌, ltb, ℤ, pos, negsuc}

-- -
abbrev pub minus_sign : ℕ
minus_sign = 45

-- 0; the digits stand one after the other
abbrev pub zero_digit : ℕ
zero_digit = 48

-- `more` is how many digits may stand before the last one
unfoldable pub digits_of : ℕ → ℕ → List ℕ
digits_of zero n = (zero_digit + n) ∷ []
digits_of (suc more) n = cond (ltb n 10) ((zero_digit + n) ∷ []) (digits_of more (n / 10) ++ ((zero_digit + n % 10) ∷ []))

-- (before its last digit a number n has at most n others)
unfoldable pub decimal : ℕ → List ℕ
decimal n = digits_of n n

-- with a minus, if it is negative
unfoldable pub signed_decimal : ℤ → List ℕ
signed_decimal (pos n) = decimal n
signed_decimal (negsuc n) = minus_sign ∷ decimal (suc n)
