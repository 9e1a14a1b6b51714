-- Each public function's contract leaves one outcome, as its caller sees it: the result, and what it finds in an area that it lent.
use mathlib.Core.Path.{◌≡◌, refl, sym, ap, ◌∙◌}
use Rattle.std.specs.Prelude.{Option, Some, None}
use Rattle.answers.specs.Judge.{Judged, Judged.good, Judged.fails}
use Rattle.answers.proofs.Outcomes.{same}
use Rattle.answers.specs.Promised.{One, OneLent}
use Rattle.estimates.specs.Range.{Estimate}
use Rattle.estimates.specs.Inside.Found.{found_of}
use Rattle.estimates.specs.declared.Estimate.{Estimate as Found}
use Rattle.estimates.proofs.estimate_at.Reads as estimate-at
use Rattle.estimates.proofs.readings.before_negative.Reads as before-negative
use Rattle.estimates.proofs.readings.raise.Reads as raise
use Rattle.estimates.proofs.readings.read_numbers.Reads as read-numbers

-- ---- Different answers say different things.

answer_of : Judged Estimate → Option Found
answer_of (good e) = Some (record { value = e.estimate; margin = e.margin })
answer_of (fails refusal place) = None

answer-of : (f : Option Found) → answer_of (found_of f) ≡ f
unfolding answer_of
answer-of (Some e) = refl
answer-of None = refl

found-one : (f f' : Option Found) → found_of f ≡ found_of f' → f ≡ f'
found-one f f' h = sym (answer-of f) ∙ ap answer_of h ∙ answer-of f'

-- ---- The functions.

-- Refused when tried: a raised value of 2^62 is refused; the last term counts twice, and the others not at all; a product times itself and not
-- times the reading.
pub estimate-at-one : One estimate-at.Learnt
estimate-at-one k a r r' e e' h h' = found-one r r' (same h h')

pub before-negative-one : One before-negative.Learnt
before-negative-one k a r r' e e' h h' = same h h'

-- Refused when tried: readings are raised by themselves.
pub raise-one : OneLent raise.Learnt (λ k e. e.1.1.0.now)
raise-one k a r r' e e' h h' = (refl, same h h')

-- Refused when tried: a high byte of 128 is that of a positive number.
pub read-numbers-one : OneLent read-numbers.Learnt (λ k e. e.1.0.now)
read-numbers-one k a r r' e e' h h' = (refl, same h h')
