-- Numbers in hex digits.
use Rattle.std.specs.Prelude.{◌≡◌, List, ℕ, ◌-◌, ◌≤◌}
use Rattle.std.specs.List.{flat_map}
use Rattle.std.proofs.lemmas.List.Edits.{sets}
use Rattle.io.specs.Digits.{last_digits, IsDigitCount}

-- the last k hex digits of a number
unfoldable pub hex_digits : ℕ → ℕ → List ℕ
hex_digits k n = last_digits 16 k n

-- the numbers that values stand for in k digits each, one after the other
abbrev pub in_hex : {A : Type 0} → ℕ → (A → ℕ) → List A → List ℕ
in_hex k bits vs = flat_map (λ v. hex_digits k (bits v)) vs

-- a number was written at a place of an area, in as few digits as will do and at least so many
pub record Writes (base least n : ℕ) (area₀ : List ℕ) (at r : ℕ) (area : List ℕ) : Type 0 where
  pub from : at ≤ r
  pub fewest : IsDigitCount base least n (r - at)
  pub stands : area ≡ sets area₀ at (last_digits base (r - at) n)
