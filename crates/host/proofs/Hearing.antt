-- What a number tells the host: an answer that is within the unit is heard as it was told.
use mathlib.Core.Path.{◌≡◌, sym, ◌∙◌, ap}
use Prim.Native.Nat.{ℕ, ◌≤◌}
use native.Mathlib.Omega.{arith}
use lib.Dec.{T}
use Rattle.answers.specs.Answers.{Told, Outcome, outcome}
use Rattle.answers.specs.Host.{host_number, hosted, heard, narrow_unit, wide_unit}
use Rattle.answers.specs.Inside.Fits.{fits_host, largest_unit}
use Rattle.answers.proofs.Hosting.{within-fits, wide-heard}
use Rattle.answers.specs.Promised.{Hearable}

-- ---- The code's answer, and what the lent areas hold, are an outcome that stays within the unit.

module _ {Areas : Type 0} {t : Told} {a : Areas} {o : Outcome Areas} (is : outcome t a ≡ o) where
  pub answer-fits : Hearable wide_unit o.answer → (wide_unit ≤ largest_unit) × T (fits_host wide_unit t)
  answer-fits w = (omega arith, rw (ap (λ o. o.answer) is) (within-fits wide_unit (omega arith) o.answer w))

  pub number-hosted : (unit : ℕ) {number : ℕ} → number ≡ host_number unit t → (number, a) ≡ hosted unit o
  number-hosted unit e = ap (λ (n : ℕ). (n, a)) e ∙ ap (hosted unit) is

-- ---- Two outcomes with numbers that are heard, and with the same number, have the same answer, whichever functions they are of.

pub told-apart : {Areas Others : Type 0} (unit unit' : ℕ) (o : Outcome Areas) (o' : Outcome Others)
    → heard (host_number unit o.answer) ≡ o.answer
    → heard (host_number unit' o'.answer) ≡ o'.answer
    → host_number unit o.answer ≡ host_number unit' o'.answer
    → o.answer ≡ o'.answer
told-apart unit unit' o o' h h' e = sym h ∙ ap heard e ∙ h'
