-- A bound on how far the true value of a sum is from its value at the readings.
use Rattle.std.specs.Prelude.{List, [], ◌∷◌, ℕ, ◌+◌, ◌*◌, ◌-◌, ◌^◌, ◌≤◌, ℤ, nat_abs, ◌-ℤ◌}
use Rattle.algebra.specs.Pattern.{Pattern}
use Rattle.algebra.specs.Sum.{Sum}

-- the value of a sum with all signs dropped, at numbers without signs
unfoldable pub pattern_size : Pattern → List ℕ → ℕ
pattern_size [] y = 1
pattern_size (e ∷ p) [] = 1
pattern_size (e ∷ p) (b ∷ y) = b ^ e * pattern_size p y

unfoldable pub size : Sum → List ℕ → ℕ
size [] y = 0
size (t ∷ s) y = nat_abs t.coefficient * pattern_size t.pattern y + size s y

-- the readings with their signs dropped, and then raised by their tolerances
unfoldable pub unsigned : List ℤ → List ℕ
unsigned [] = []
unsigned (r ∷ rs) = nat_abs r ∷ unsigned rs

unfoldable pub raised_by : List ℤ → List ℕ → List ℕ
raised_by [] ts = []
raised_by (r ∷ rs) [] = nat_abs r ∷ raised_by rs []
raised_by (r ∷ rs) (t ∷ ts) = (nat_abs r + t) ∷ raised_by rs ts

-- the raised value less the same without raising
unfoldable pub margin : Sum → List ℤ → List ℕ → ℕ
margin s rs ts = size s (raised_by rs ts) - size s (unsigned rs)

-- each true number is within its tolerance of its reading
pub data Within : List ℤ → List ℤ → List ℕ → Type 0 where
  none : Within [] [] []
  more : {x r : ℤ} {t : ℕ} {xs rs : List ℤ} {ts : List ℕ} → nat_abs (x -ℤ r) ≤ t → Within xs rs ts → Within (x ∷ xs) (r ∷ rs) (t ∷ ts)
