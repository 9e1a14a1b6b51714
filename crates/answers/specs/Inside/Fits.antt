-- What the number for a C host asks of an answer.
use Rattle.std.specs.Prelude.{Bool, ℕ, ltb}
use Rattle.answers.specs.Answers.{Told, Told.done, Told.refused}
use Rattle.answers.specs.Host.{wide_unit}

-- a refusal's number times a unit up to this one, and a place below the unit, fit in 64 bits
abbrev pub largest_unit : ℕ
largest_unit = wide_unit

-- what is returned, or the place, is below the unit
abbrev pub fits_host : ℕ → Told → Bool
fits_host unit (done n) = ltb n unit
fits_host unit (refused refusal place) = ltb place unit
