-- The public function's contract leaves one outcome, as its caller sees it: the answer, and every place of the table area.
use Rattle.answers.proofs.Outcomes.{same}
use Rattle.answers.specs.Promised.{OneLent}
use Rattle.answers.proofs.Unique.{outcome-one}
use Rattle.text.proofs.read_formula.Reads as read-formula

-- Refused when tried: i is a letter; 64 nodes are refused; 1,024 bytes are refused.
pub read-formula-one : OneLent read-formula.Learnt (λ k e. e.1.0.now)
read-formula-one k a r r' e e' h h' = outcome-one r r' (same h h')
