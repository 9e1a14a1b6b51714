-- What cases of the estimate are said with.
use Rattle.std.specs.Prelude.{Bool, true, false, ◌&&◌, List, [], ◌∷◌, ◌++◌, ℕ, ◌-◌, leb, ℤ, pos, nat_abs, ◌+ℤ◌, ◌-ℤ◌, length, replicate}
use Rattle.algebra.specs.Limits.{variables}
use Rattle.algebra.specs.Sum.{Sum}
use Rattle.algebra.specs.Value.{value}
use Rattle.answers.specs.Judge.{Judged, Judged.good, Judged.fails}
use Rattle.estimates.specs.Readings.{spelled}
use Rattle.estimates.specs.Range.{Estimate}

-- numbers of the first letters; those of the others are 0
abbrev pub of_letters : List ℤ → List ℤ
of_letters ns = ns ++ replicate (variables - length ns) (pos 0)

-- the same in bytes
abbrev pub in_bytes : List ℤ → List ℕ
in_bytes ns = spelled (of_letters ns)

abbrev pub numbers_in : Judged Estimate → Judged (ℤ × ℕ)
numbers_in (good e) = good (e.estimate, e.margin)
numbers_in (fails refusal place) = fails refusal place

-- the estimate and its margin added
abbrev pub together : Judged Estimate → Judged ℤ
together (good e) = good (e.estimate +ℤ pos e.margin)
together (fails refusal place) = fails refusal place

abbrev pub value_at : Judged Sum → List ℤ → Judged ℤ
value_at (good s) x = good (value s x)
value_at (fails refusal place) x = fails refusal place

-- each true number is within its tolerance of its reading
abbrev pub is_within : List ℤ → List ℤ → List ℕ → Bool
is_within [] rs ts = true
is_within (x ∷ xs) [] ts = false
is_within (x ∷ xs) (r ∷ rs) [] = false
is_within (x ∷ xs) (r ∷ rs) (t ∷ ts) = leb (nat_abs (x -ℤ r)) t && is_within xs rs ts
