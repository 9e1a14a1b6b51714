-- What an operation answered, as the definitions of the library tell it.
use Rattle.std.specs.Prelude.{ℕ, ◌*◌, ◌≤◌, Result, Ok, Err}
use Rattle.answers.specs.Answers.{Told, Told.done, Told.refused}
use Rattle.answers.specs.declared.Refused.{Refused}
use Rattle.answers.specs.Refusals.{number}
use Rattle.replay.specs.declared.telling.HostRefusal.{HostRefusal}

-- a refusal by its number
abbrev pub by_number : Refused → HostRefusal
by_number r = record { refusal = number r.refusal; place = r.place }

-- the code's answer, whose refusal is a number
abbrev pub told_as : Result ℕ HostRefusal → Told
told_as (Ok n) = done n
told_as (Err e) = refused e.refusal e.place

-- what is said to be written fits: so many places for each 1 of the number returned
abbrev pub ShowsWhere : ℕ → ℕ → Told → Type 0
ShowsWhere each most (done n) = each * n ≤ most
ShowsWhere each most (refused refusal place) = Unit

pub record Shows (each most : ℕ) (answer : Told) : Type 0 where
  pub inside : ShowsWhere each most answer
