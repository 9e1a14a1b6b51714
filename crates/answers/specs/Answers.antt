-- What an operation answers, and what its caller sees afterwards.
use Rattle.std.specs.Prelude.{ℕ, Bool, true, false, Result, Ok, Err}
use Rattle.answers.specs.declared.Refused.{Refused}
use Rattle.answers.specs.Refusals.{number}

pub data Told : Type 0 where
  -- done, with the number returned
  done : ℕ → Told
  -- refused: the refusal's number, and its place
  refused : ℕ → ℕ → Told

-- what the code's answer, a number or a refusal with its place, tells
abbrev pub told : Result ℕ Refused → Told
told (Ok n) = done n
told (Err r) = refused (number r.refusal) r.place

-- the answer, and what the lent areas hold
pub record Outcome (Areas : Type 0) : Type 0 where
  pub answer : Told
  pub areas : Areas

abbrev pub outcome : {Areas : Type 0} → Told → Areas → Outcome Areas
outcome t a = record { answer = t; areas = a }

-- a check: if it holds the operation goes on, if not it is refused, with the areas given
abbrev pub check : {Areas : Type 0} → Bool → ℕ → ℕ → Areas → Outcome Areas → Outcome Areas
check true refusal place areas rest = rest
check false refusal place areas rest = outcome (refused refusal place) areas
