-- Tables of powers, as the code holds them, with a row for each variable: the power e stands at place e of the row.
use Rattle.std.specs.Prelude.{◌≡◌, List, [], ℕ, ◌^◌, ◌≤◌, ◌<◌, ℤ, pos, length, get_or}
use Rattle.std.proofs.Math.IntN.{pow}
use Rattle.algebra.specs.Limits.{variables}
use Rattle.algebra.specs.Pattern.{Pattern, exponent}
use Rattle.algebra.specs.Word.{exponents}
use Rattle.estimates.specs.declared.factors.Both.{Both}
use Rattle.estimates.specs.Inside.Held.{Holds}
use Rattle.estimates.specs.Inside.Parts.{Times, TimesPower}

-- at a place of a row there is the power e of a raised reading b, and that of the reading a
pub record PowerAt (b : ℕ) (a : ℤ) (e : ℕ) (row : List Both) : Type 0 where
  pub in_row : e < length row
  pub power : (d : Both) → Holds (get_or row e d).most (get_or row e d).value (b ^ e) (pow a e)

-- the powers from 1 up to `top`, each at its place
abbrev pub Row : ℕ → ℤ → ℕ → List Both → Type 0
Row b a top row = (e : ℕ) → 0 < e → e ≤ top → PowerAt b a e row

-- the rows of all readings x, raised to y, as far as the exponents of a pattern go
abbrev pub Rows : List ℤ → List ℕ → Pattern → List (List Both) → Type 0
Rows x y p rows = (v : ℕ) → v < variables → Row (get_or y v 0) (get_or x v (pos 0)) (exponent v p) (get_or rows v [])

-- whatever a pair is kept of, the result is kept of that, times what is kept at a place of a row, if it has that place
abbrev pub TimesAt : Both → List Both → ℕ → Both → Type 0
TimesAt a row e result = (d : Both) → e < length row → Times a (get_or row e d) result

-- each exponent of a pattern is below m
abbrev pub Under : ℕ → Pattern → Type 0
Under m p = (v : ℕ) → v < variables → exponent v p < m

-- none of the patterns that words hold has a larger exponent than p
abbrev pub Uses : Pattern → List ℕ → Type 0
Uses p ws = (k : ℕ) → k < length ws → (v : ℕ) → exponent v (exponents (get_or ws k 0)) ≤ exponent v p

-- ---- What multiplies a product by a power of a reading, for the exponents of the patterns that words hold.

-- it may be called
abbrev pub Callable : (Both → ℕ → ℕ → Type 0) → List ℕ → Type 0
Callable pre ws = (a : Both) (k v e : ℕ) → k < length ws → v < variables → e ≤ exponent v (exponents (get_or ws k 0)) → pre a v e

-- and that is what it answers, with the readings x, raised to y
pub record Multiplies (post : Both → ℕ → ℕ → Both → Type 0) (x : List ℤ) (y : List ℕ) (ws : List ℕ) : Type 0 where
  pub readings_long : length x ≡ variables
  pub raised_long : length y ≡ variables
  pub times : (a result : Both) (k v e : ℕ) → k < length ws → v < variables → 0 < e → e ≤ exponent v (exponents (get_or ws k 0)) → post a v e result
      → TimesPower a (get_or y v 0) (get_or x v (pos 0)) e result
