-- The public function's contract leaves one outcome, as its caller sees it: the answer, and every place of the lent area.
use Rattle.answers.proofs.Outcomes.{same}
use Rattle.answers.specs.Promised.{OneLent}
use Rattle.answers.proofs.Unique.{outcome-one}
use Rattle.spelling.proofs.write_text.Reads as write-text

-- Refused when tried: an area of 8,191 bytes is taken; only the first term is written; the signs are exchanged; h is left out.
pub write-text-one : OneLent write-text.Learnt (λ k e. e.1.0.now)
write-text-one k a r r' e e' h h' = outcome-one r r' (same h h')
