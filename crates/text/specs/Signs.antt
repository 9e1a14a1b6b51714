-- The bytes of a typed formula that are no letters.
use Rattle.std.specs.Prelude.{Bool, ◌&&◌, ℕ, leb}
-- - and 0, as in numbers that are printed
pub use Rattle.numbers.specs.Decimal.{minus_sign, zero_digit}

-- +
abbrev pub plus_sign : ℕ
plus_sign = 43

-- *
abbrev pub times_sign : ℕ
times_sign = 42

-- ^
abbrev pub power_sign : ℕ
power_sign = 94

-- (
abbrev pub open_bracket : ℕ
open_bracket = 40

-- )
abbrev pub close_bracket : ℕ
close_bracket = 41

-- 9
abbrev pub nine_digit : ℕ
nine_digit = 57

unfoldable pub is_digit : ℕ → Bool
is_digit b = leb zero_digit b && leb b nine_digit
