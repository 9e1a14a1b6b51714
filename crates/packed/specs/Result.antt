-- What an operation that has judged a sum leaves behind: the sum that passed all checks, or the first refusal.
use Rattle.std.specs.Prelude.{List, ℕ, ℤ, length}
use Rattle.algebra.specs.Sum.{Sum}
use Rattle.algebra.specs.Held.{words_of, coefficients_of}
use Rattle.answers.specs.Answers.{Told.done, Told.refused, Outcome, outcome}
use Rattle.answers.specs.Areas.{written}
use Rattle.answers.specs.Judge.{Judged, Judged.good, Judged.fails}
use Rattle.packed.specs.Packed.{packed}

-- In two areas. Done, it returns the number of terms: that many places are written, and the others stay.
unfoldable pub held_into : Judged Sum → List ℕ → List ℤ → Outcome (List ℕ × List ℤ)
held_into (good s) patterns coefficients = outcome (done (length s)) (written (words_of s) patterns, written (coefficients_of s) coefficients)
held_into (fails refusal place) patterns coefficients = outcome (refused refusal place) (patterns, coefficients)

-- In packed bytes. Done, it returns their number: that many bytes are written into the result area, and its other places stay. On refusal it stays.
unfoldable pub packed_into : Judged Sum → List ℕ → Outcome (List ℕ)
packed_into (good s) result = let bytes = packed s in outcome (done (length bytes)) (written bytes result)
packed_into (fails refusal place) result = outcome (refused refusal place) result

-- ---- With work areas.

-- the two work areas, and the result area
abbrev pub WorkAreas : Type 0
WorkAreas = List ℕ × List ℤ × List ℕ

-- the outcome in the result area, beside two work areas
abbrev pub beside : List ℕ → List ℤ → Outcome (List ℕ) → Outcome WorkAreas
beside patterns coefficients o = outcome o.answer (patterns, coefficients, o.areas)
