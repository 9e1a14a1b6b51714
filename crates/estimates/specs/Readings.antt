-- The readings, and their tolerances: READING.
use Rattle.std.specs.Prelude.{◌&&◌, List, [], ◌∷◌, ◌++◌, ℕ, suc, ◌*◌, eqb, ℤ, pos, negsuc, length}
use Rattle.algebra.specs.Limits.{variables}
use Rattle.algebra.specs.Margin.{unsigned}
use Rattle.answers.specs.Refusals.{READING}
use Rattle.answers.specs.Judge.{Judged, Judged.good, holding}
use Rattle.numbers.specs.Bytes.{signed_number, signed_bytes}

-- two bytes for each of n variables: 16 for eight
abbrev pub reading_bytes : ℕ → ℕ
reading_bytes n = 2 * n

-- two bytes each (bytes of another length are refused before)
unfoldable pub two_byte_numbers : List ℕ → List ℤ
two_byte_numbers [] = []
two_byte_numbers (low ∷ []) = []
two_byte_numbers (low ∷ high ∷ rest) = signed_number (low ∷ high ∷ []) ∷ two_byte_numbers rest

-- back: how a host writes them
unfoldable pub spelled : List ℤ → List ℕ
spelled [] = []
spelled (z ∷ zs) = signed_bytes 2 z ++ spelled zs

-- how many tolerances stand before the first negative one
unfoldable pub before_negative : List ℤ → ℕ
before_negative [] = 0
before_negative (pos n ∷ ts) = suc (before_negative ts)
before_negative (negsuc m ∷ ts) = 0

-- what is measured, and by how much it may be wrong
pub record Readings : Type 0 where
  pub readings : List ℤ
  pub tolerances : List ℕ

abbrev pub measured : List ℤ → List ℤ → Readings
measured rs ts = record { readings = rs; tolerances = unsigned ts }

-- refused at 0 if a length is not 16, and else at the first negative tolerance
unfoldable pub judge_readings : List ℕ → List ℕ → Judged Readings
judge_readings readings tolerances =
    let ts = two_byte_numbers tolerances in
    holding (eqb (length readings) (reading_bytes variables) && eqb (length tolerances) (reading_bytes variables)) READING 0
    (holding (eqb (before_negative ts) (length ts)) READING (before_negative ts)
    (good (measured (two_byte_numbers readings) ts)))
