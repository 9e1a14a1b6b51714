-- For a contract inside the crate: what is formed of a text.
use Rattle.std.specs.Prelude.{◌≡◌, List, ℕ, ℤ, ◌≤◌, length, Result, Ok, Err}
use Rattle.algebra.specs.Limits.{variables}
use Rattle.algebra.specs.Sum.{Sum}
use Rattle.algebra.specs.Accepted.{Accepted}
use Rattle.algebra.specs.Held.{first_terms}
use Rattle.answers.specs.Refusals.{number}
use Rattle.answers.specs.Judge.{Judged, Judged.good, Judged.fails}
use Rattle.answers.specs.declared.Refused.{Refused}

-- the terms of the sum are in the first places of two areas
pub record Terms (judged : Judged Sum) (count : ℕ) (ws : List ℕ) (cs : List ℤ) : Type 0 where
  pub sum : Sum
  pub is : judged ≡ good sum
  pub accepted : Accepted variables sum
  pub words : count ≤ length ws
  pub coefficients : count ≤ length cs
  pub terms_are : first_terms count ws cs ≡ sum

-- so many terms, or the refusal
abbrev pub Forms : Judged Sum → Result ℕ Refused → List ℕ → List ℤ → Type 0
Forms judged (Ok count) ws cs = Terms judged count ws cs
Forms judged (Err r) ws cs = judged ≡ fails (number r.refusal) r.place
