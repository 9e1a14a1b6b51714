-- Each public function's contract leaves one outcome, as its caller sees it: the answer, or the host's number, and every place of the lent area.
use mathlib.Core.Path.{ap}
use mathlib.Core.List.{List}
use Prim.Native.Nat.{ℕ}
use Rattle.answers.proofs.Outcomes.{same}
use Rattle.answers.specs.Promised.{OneLent}
use Rattle.answers.proofs.Unique.{outcome-one}
use Rattle.router.proofs.estimate.Reads as estimate
use Rattle.router.proofs.reeveboom_estimate.Reads as reeveboom-estimate

-- Refused when tried: an area of eight bytes is taken; the tolerances' length is not looked at.
pub estimate-one : OneLent estimate.Learnt (λ k e. e.1.1.1.0.now)
estimate-one k a r r' e e' h h' = outcome-one r r' (same h h')

-- Refused when tried: readings and tolerances exchanged; a refusal counts 65,535.
pub reeveboom-estimate-one : OneLent reeveboom-estimate.Learnt (λ k e. e.1.1.1.0.now)
reeveboom-estimate-one k a r r' e e' h h' =
    let both = same h h' in
    (ap (λ (p : ℕ × List ℕ). p.0) both, ap (λ (p : ℕ × List ℕ). p.1) both)
