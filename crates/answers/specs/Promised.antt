-- How promises are stated that every crate makes: that a contract leaves one outcome, that a C host can hear an answer, and that a table of cases holds.
use Rattle.std.specs.Prelude.{◌≡◌, List, [], ◌∷◌, ℕ, ◌≤◌, ◌<◌}
use Rattle.answers.specs.Refusals.{NODES}
use Rattle.answers.specs.Answers.{Told, Told.done, Told.refused}
use Rattle.answers.specs.Host.{narrow_unit}

-- ---- One outcome. A function's `Learnt` is what its caller learns: of the arguments, the result, and the arguments after the call.

module _ {K : Type 0} {Arguments Result Exit : K → Type 0} (learnt : (k : K) → Arguments k → Result k → Exit k → Type 0) where
  -- what holds of any two outcomes of one call
  abbrev pub Outcomes : ((k : K) → Result k → Result k → Exit k → Exit k → Type 0) → Type 0
  Outcomes alike = (k : K) (a : Arguments k) (r r' : Result k) (e e' : Exit k) → learnt k a r e → learnt k a r' e' → alike k r r' e e'

  -- of a function that is lent nothing, the caller sees the result alone
  abbrev pub One : Type 0
  One = Outcomes (λ k r r' e e'. r ≡ r')

  -- of one that is lent areas, what they hold after the call too: `λ k e. e.0.now` for the first argument, `(e.0.now, e.1.0.now)` for two
  abbrev pub OneLent : {L : Type 0} → ((k : K) → Exit k → L) → Type 0
  OneLent area = Outcomes (λ k r r' e e'. (r ≡ r') × (area k e ≡ area k e'))

  -- of one whose result refers to what it was given, what stands there
  abbrev pub OneSeen : {L : Type 0} → ((k : K) → Result k → L) → Type 0
  OneSeen seen = Outcomes (λ k r r' e e'. seen k r ≡ seen k r')

-- ---- What a C host can hear.

-- refusals have the numbers from 1 up to that of the last
pub record Numbered (n : ℕ) : Type 0 where
  pub some : 0 < n
  pub most : n ≤ NODES

-- a refusal with a place below the unit
pub record Placed (unit refusal place : ℕ) : Type 0 where
  pub numbered : Numbered refusal
  pub below : place < unit

-- what is told can be heard: a number that is returned is below 65,536, whatever the unit
abbrev pub Hearable : ℕ → Told → Type 0
Hearable unit (done n) = n < narrow_unit
Hearable unit (refused refusal place) = Placed unit refusal place

-- ---- A table of cases: what is said of a case holds of each.

abbrev pub Each : {C : Type 0} → (C → Type 0) → List C → Type 0
Each says [] = Unit {0}
Each says (c ∷ cs) = says c × Each says cs
