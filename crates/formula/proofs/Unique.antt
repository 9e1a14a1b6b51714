-- Each public function's contract leaves one outcome, as its caller sees it: the answer, and every place of every lent area.
use Rattle.answers.proofs.Outcomes.{same}
use Rattle.answers.specs.Promised.{OneLent}
use Rattle.answers.proofs.Unique.{outcome-one}
use Rattle.packed.specs.Result.{WorkAreas}
use Rattle.formula.proofs.simplify.Reads as simplify

pub simplify-one : OneLent simplify.Learnt {L = WorkAreas} (λ k e. (e.1.0.now, e.1.1.0.now, e.1.1.1.0.now))
simplify-one k a r r' e e' h h' = outcome-one r r' (same h h')
