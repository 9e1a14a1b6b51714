-- Each public function's contract leaves one outcome, as its caller sees it: the answer, and every place of the lent area.
use Rattle.answers.proofs.Outcomes.{same}
use Rattle.answers.specs.Promised.{One, OneLent}
use Rattle.answers.proofs.Unique.{outcome-one}
use Rattle.listing.proofs.list.Reads as list
use Rattle.listing.proofs.most_input.Reads as most-input

-- Refused when tried: one byte less; 1,024.
pub most-input-one : One most-input.Learnt
most-input-one k a r r' e e' h h' = same h h'

-- Refused when tried: a blank is dropped from the end, and a newline is not; number and place of a refusal exchanged; an area one byte too short
-- is taken; another word before the number of terms.
pub list-one : OneLent list.Learnt (λ k e. e.1.0.now)
list-one k a r r' e e' h h' = outcome-one r r' (same h h')
