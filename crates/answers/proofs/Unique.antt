-- Different answers tell different things, and each public function's contract leaves one outcome.
use mathlib.Core.Path.{◌≡◌, refl, sym, ◌∙◌, ap}
use mathlib.Core.List.{[], ◌∷◌}
use Prim.Native.Nat.{ℕ}
use lib.ListN.{get_or}
use Rattle.answers.specs.Refusals.{number}
use Rattle.answers.specs.Answers.{Told, Told.done, Told.refused, told, Outcome, outcome}
use Rattle.answers.specs.declared.Refusal.{Refusal}
use Rattle.answers.specs.declared.Refusal.TheVariants.{Room, Shape, Node, Degree, Weight, Spread, Sum, List as ListAtFault, Variable, Reading, Range, Text, Nodes}
use Rattle.std.specs.Prelude.{Result, Ok, Err}
use Rattle.answers.specs.declared.Refused.{Refused}
use Rattle.answers.proofs.Outcomes.{same}
use Rattle.answers.specs.Promised.{One, OneLent}
use Rattle.answers.proofs.Refusal.number.Reads as refusal-number
use Rattle.answers.proofs.Refusal.at.Reads as refusal-at
use Rattle.answers.proofs.for_host.Reads as for-host
use Rattle.answers.proofs.areas.copy_words.Reads as copy-words
use Rattle.answers.proofs.areas.copy_coefficients.Reads as copy-coefficients
use Rattle.answers.proofs.areas.clear_words.Reads as clear-words
use Rattle.answers.proofs.areas.clear_coefficients.Reads as clear-coefficients

-- ---- Answers. Each is found again from what it tells.

-- the refusals at the places of their numbers; no refusal has the number 0
refusal_of : ℕ → Refusal
refusal_of n =
    get_or
    (Room ∷ Room ∷ Shape ∷ Node ∷ Degree ∷ Weight ∷ Spread ∷ Sum ∷ ListAtFault ∷ Variable ∷ Reading ∷ Range ∷ Text ∷ Nodes ∷ [])
    n
    Room

refusal-of : (r : Refusal) → refusal_of (number r) ≡ r
unfolding refusal_of
refusal-of Room = refl
refusal-of Shape = refl
refusal-of Node = refl
refusal-of Degree = refl
refusal-of Weight = refl
refusal-of Spread = refl
refusal-of Sum = refl
refusal-of ListAtFault = refl
refusal-of Variable = refl
refusal-of Reading = refl
refusal-of Range = refl
refusal-of Text = refl
refusal-of Nodes = refl

answer_of : Told → Result ℕ Refused
answer_of (done n) = Ok n
answer_of (refused n place) = Err (record { refusal = refusal_of n; place = place })

answer-of : (a : Result ℕ Refused) → answer_of (told a) ≡ a
unfolding answer_of
answer-of (Ok n) = refl
answer-of (Err r) = ap (λ (x : Refusal). Err (record { refusal = x; place = r.place })) (refusal-of r.refusal)

pub told-one : (a b : Result ℕ Refused) → told a ≡ told b → a ≡ b
told-one a b h = sym (answer-of a) ∙ ap answer_of h ∙ answer-of b

pub refusal-one : (a b : Refused) → told (Err a) ≡ told (Err b) → a ≡ b
refusal-one a b h = let e : ◌≡◌ {A = Result ℕ Refused} (Err a) (Err b) = told-one (Err a) (Err b) h in cc

-- two equal outcomes have the same answer and the same areas
pub outcome-one : {Areas : Type 0} (a b : Result ℕ Refused) {x y : Areas} → outcome (told a) x ≡ outcome (told b) y → (a ≡ b) × (x ≡ y)
outcome-one a b h = (told-one a b (ap (λ (o : Outcome _). o.answer) h), ap (λ (o : Outcome _). o.areas) h)

-- ---- The functions.

-- Refused when tried: ROOM is 0.
pub number-one : One refusal-number.Learnt
number-one k a r r' e e' h h' = same h h'

-- Refused when tried: the next place; ROOM whatever the refusal.
pub at-one : One refusal-at.Learnt
at-one k a r r' e e' h h' = same h h'

-- Refused when tried: the unit in the place's stead; the unit for every number that is returned.
pub for-host-one : One for-host.Learnt
for-host-one k a r r' e e' h h' = same h h'

-- Refused when tried: from place 1 on; every other place.
pub copy-words-one : OneLent copy-words.Learnt (λ k e. e.0.now)
copy-words-one k a r r' e e' h h' = (refl, same h h')

-- Refused when tried: from place 1 on; every other place.
pub copy-coefficients-one : OneLent copy-coefficients.Learnt (λ k e. e.0.now)
copy-coefficients-one k a r r' e e' h h' = (refl, same h h')

-- Refused when tried: writes 1; from place 1 on.
pub clear-words-one : OneLent clear-words.Learnt (λ k e. e.0.now)
clear-words-one k a r r' e e' h h' = (refl, same h h')

-- Refused when tried: writes 1; from place 1 on.
pub clear-coefficients-one : OneLent clear-coefficients.Learnt (λ k e. e.0.now)
clear-coefficients-one k a r r' e e' h h' = (refl, same h h')
