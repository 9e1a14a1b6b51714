-- What a C host gets, who knows no enum: one number.
use Rattle.std.specs.Prelude.{cond, ℕ, ◌+◌, ◌*◌, ◌/◌, ◌%◌, ltb}
use Rattle.answers.specs.Answers.{Told, Told.done, Told.refused, Outcome}

-- a refusal's number is multiplied by this: by 65,536 for the estimate, and by 2^32 for every other operation
abbrev pub narrow_unit : ℕ
narrow_unit = 65536

abbrev pub wide_unit : ℕ
wide_unit = 4294967296

-- the number returned; or refusal × unit + place
abbrev pub host_number : ℕ → Told → ℕ
host_number unit (done n) = n
host_number unit (refused refusal place) = refusal * unit + place

-- the number, and what the lent areas hold
abbrev pub hosted : {Areas : Type 0} → ℕ → Outcome Areas → ℕ × Areas
hosted unit o = (host_number unit o.answer, o.areas)

-- ---- How the host takes a number apart, whichever function gave it.

abbrev pub refused_by : ℕ → ℕ → Told
refused_by unit number = refused (number / unit) (number % unit)

-- below 65,536 it is what was returned; below 2^32 it is a refusal of the estimate, and else one of another function
abbrev pub heard : ℕ → Told
heard number = cond (ltb number narrow_unit) (done number) (cond (ltb number wide_unit) (refused_by narrow_unit number) (refused_by wide_unit number))
