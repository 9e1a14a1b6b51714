-- Each public function's contract leaves one outcome, as its caller sees it: the answer, and every place of every lent area.
use Rattle.answers.proofs.Outcomes.{same}
use Rattle.answers.specs.Promised.{OneLent}
use Rattle.answers.proofs.Unique.{outcome-one}
use Rattle.packed.specs.Result.{WorkAreas}
use Rattle.change.proofs.slope.Reads as slope
use Rattle.change.proofs.substitute.Reads as substitute

-- Refused when tried: variable 8 is taken; a weight of 2^62 is refused.
pub slope-one : OneLent slope.Learnt (λ k e. e.1.1.0.now)
slope-one k a r r' e e' h h' = outcome-one r r' (same h h')

-- Refused when tried: bytes left over in the list are taken; a list of nine pairs is read; one part of a work area is cleared; a number above 7 is
-- LIST.
pub substitute-one : OneLent substitute.Learnt {L = WorkAreas} (λ k e. (e.1.1.0.now, e.1.1.1.0.now, e.1.1.1.1.0.now))
substitute-one k a r r' e e' h h' = outcome-one r r' (same h h')
