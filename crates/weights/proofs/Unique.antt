-- Each public function's contract leaves one result.
use Rattle.answers.proofs.Outcomes.{same}
use Rattle.answers.specs.Promised.{One}
use Rattle.weights.proofs.larger.Reads as larger
use Rattle.weights.proofs.cap.Reads as cap
use Rattle.weights.proofs.sum.Reads as sum
use Rattle.weights.proofs.product.Reads as product
use Rattle.weights.proofs.power.Reads as power

-- Refused when tried: the smaller; always the first.
pub larger-one : One larger.Learnt
larger-one k a r r' e e' h h' = same h h'

-- Refused when tried: 2^62 is too heavy; 2^62 + 2 is not.
pub cap-one : One cap.Learnt
cap-one k a r r' e e' h h' = same h h'

-- Refused when tried: the first twice; 2^62 is too heavy.
pub sum_one : One sum.Learnt
sum_one k a r r' e e' h h' = same h h'

-- Refused when tried: the first squared.
pub product-one : One product.Learnt
product-one k a r r' e e' h h' = same h h'

-- Refused when tried: starts from 0; one step less; the powers of 2 are taken for 2.
pub power-one : One power.Learnt
power-one k a r r' e e' h h' = same h h'
